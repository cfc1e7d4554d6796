-- The parts of a task that was read and has no fault.
use Rattle.std.proofs.Common.{◌≡◌, ℕ, ◌+◌, ◌≤◌, None, List, [], ◌∷◌, ◌++◌, length, map, arith}
use Rattle.std.specs.List.{flat_map}
use Rattle.std.proofs.lemmas.List.{length-append, length-map}
use Rattle.ep_lex.specs.declared.limits.TheConstants.{MOST_TOKENS}
use Rattle.ep_tree.specs.Grammar.{IsRead}
use Rattle.ep_tree.specs.Marks.{Mark, IsShallow, fixed}
use Rattle.ep_tree.specs.Spelling as spell
use Rattle.ep_tree.specs.declared.terminal.Terminal.TheVariants as the
use Rattle.ep_tree.specs.declared.tree.TaskTree.{TaskTree}
use Rattle.ep_tree.proofs.CallerLemmas.{shallow-left, shallow-right}
use Rattle.ep_types.specs.Faults.{first_fault}
use Rattle.ep_types.specs.Places.{both, closed, objective}
use Rattle.ep_types.specs.Tasks as tasks
use Rattle.ep_types.specs.Tasks.{HasNoFault, declarations, start}
use Rattle.ep_types.specs.Uses as uses
use Rattle.ep_universe.proofs.EndLemmas.{long-left, long-right}
use Rattle.ep_universe.proofs.TypedLemmas.{both-none}

-- ---- no fault

module _ (t : TaskTree) (fine : HasNoFault t) where
  rest_fine : first_fault (tasks.rest_uses (declarations t) t) ≡ None
  rest_fine = (both-none (tasks.declaration_uses start t) (tasks.rest_uses (declarations t) t) fine).1

  behind_init : (first_fault (tasks.init_uses t.init (objective (declarations t))) ≡ None) × (first_fault (both (tasks.schema_uses [] t.schemas (declarations t)) (uses.formula_uses t.goal (closed (declarations t)))) ≡ None)
  behind_init =
      let d = declarations t in
      both-none (tasks.init_uses t.init (objective d)) (both (tasks.schema_uses [] t.schemas d) (uses.formula_uses t.goal (closed d))) rest_fine

  pub init_fine : first_fault (tasks.init_uses t.init (objective (declarations t))) ≡ None
  init_fine = behind_init.0

  pub schemas_fine : first_fault (tasks.schema_uses [] t.schemas (declarations t)) ≡ None
  schemas_fine = let d = declarations t in (both-none (tasks.schema_uses [] t.schemas d) (uses.formula_uses t.goal (closed d)) behind_init.1).0

  pub goal_fine : first_fault (uses.formula_uses t.goal (closed (declarations t))) ≡ None
  goal_fine = let d = declarations t in (both-none (tasks.schema_uses [] t.schemas d) (uses.formula_uses t.goal (closed d)) behind_init.1).1

-- ---- read

module _ (t : TaskTree) (read : IsRead t) where
  abbrev last : List Mark
  last = fixed the.Goal ∷ (spell.formula t.goal ++ fixed the.Semicolon ∷ [])

  abbrev behind : List Mark
  behind = flat_map spell.schema t.schemas ++ last

  shallow_from_init : IsShallow (spell.init t.init ++ behind)
  shallow_from_init =
      shallow-right (spell.fluents t.fluents) (spell.init t.init ++ behind)
      (shallow-right (spell.objects t.objects) (spell.fluents t.fluents ++ (spell.init t.init ++ behind))
      (shallow-right (spell.types t.types) (spell.objects t.objects ++ (spell.fluents t.fluents ++ (spell.init t.init ++ behind)))
      (shallow-right (spell.frames t.s5) (spell.types t.types ++ (spell.objects t.objects ++ (spell.fluents t.fluents ++ (spell.init t.init ++ behind)))) read.shallow.1.1.1)))

  long_from_init : length (spell.init t.init ++ behind) ≤ MOST_TOKENS
  long_from_init =
      let all = length-map (spell.task t) (λ (m : Mark). m.text) in
      let few = read.few in
      long-right (spell.fluents t.fluents) (spell.init t.init ++ behind) MOST_TOKENS
      (long-right (spell.objects t.objects) (spell.fluents t.fluents ++ (spell.init t.init ++ behind)) MOST_TOKENS
      (long-right (spell.types t.types) (spell.objects t.objects ++ (spell.fluents t.fluents ++ (spell.init t.init ++ behind))) MOST_TOKENS
      (long-right (spell.frames t.s5) (spell.types t.types ++ (spell.objects t.objects ++ (spell.fluents t.fluents ++ (spell.init t.init ++ behind)))) MOST_TOKENS (omega arith))))

  pub init_shallow : IsShallow (spell.init_items t.init)
  init_shallow = shallow-left (spell.init_items t.init) (fixed the.CloseBrace ∷ []) (shallow-left (spell.init t.init) behind shallow_from_init).1.1

  pub init_long : length (spell.init t.init) ≤ MOST_TOKENS
  init_long = long-left (spell.init t.init) behind MOST_TOKENS long_from_init

  pub schemas_shallow : IsShallow (flat_map spell.schema t.schemas)
  schemas_shallow = shallow-left (flat_map spell.schema t.schemas) last (shallow-right (spell.init t.init) behind shallow_from_init)

  pub schemas_long : length (flat_map spell.schema t.schemas) ≤ MOST_TOKENS
  schemas_long = long-left (flat_map spell.schema t.schemas) last MOST_TOKENS (long-right (spell.init t.init) behind MOST_TOKENS long_from_init)

  -- the tokens of the initial state and of the schemas, and one of the goal at least
  pub formulas_long : length (spell.init t.init) + (length (flat_map spell.schema t.schemas) + 1) ≤ MOST_TOKENS
  formulas_long =
      let all = long_from_init in
      let one = length-append (spell.init t.init) behind in
      let two = length-append (flat_map spell.schema t.schemas) last in
      omega (arith, all, one, two)

  pub goal_shallow : IsShallow (spell.formula t.goal)
  goal_shallow = shallow-left (spell.formula t.goal) (fixed the.Semicolon ∷ []) (shallow-right (flat_map spell.schema t.schemas) last (shallow-right (spell.init t.init) behind shallow_from_init)).1
