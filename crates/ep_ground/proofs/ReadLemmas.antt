-- How many formulas a tree has that reads so many tokens.
use Rattle.std.proofs.Common.{ℕ, ◌≤◌, List, [], ◌∷◌, ◌++◌, length, map, All, arith}
use Rattle.std.specs.List.{flat_map}
use Rattle.std.proofs.lemmas.List.{length-append, length-map}
use Rattle.std.proofs.lemmas.List.Elements.{All-nil, All-cons, All-append}
use Rattle.ep_lex.specs.declared.limits.TheConstants.{MOST_TOKENS}
use Rattle.ep_logic.specs.declared.limits.TheConstants.{MOST_GROUND_ACTIONS}
use Rattle.ep_tree.specs.Marks.{Mark}
use Rattle.ep_tree.specs.Spelling as spell
use Rattle.ep_tree.specs.declared.tree.FormulaTree.{FormulaTree}
use Rattle.ep_tree.specs.declared.tree.InitTree.{InitTree}
use Rattle.ep_tree.specs.declared.tree.InitTree.TheVariants.{Explicit, Lawful}
use Rattle.ep_tree.specs.declared.tree.SetTree.{SetTree}
use Rattle.ep_tree.specs.declared.tree.EventTree.{EventTree}
use Rattle.ep_tree.specs.declared.tree.BodyTree.{BodyTree}
use Rattle.ep_tree.specs.declared.tree.BodyTree.TheVariants.{Announce, Private, Sense, Assign, Events}
use Rattle.ep_tree.specs.declared.tree.SchemaTree.{SchemaTree}
use Rattle.ep_tree.specs.declared.tree.TaskTree.{TaskTree}
use Rattle.ep_types.specs.declared.scope.Declared.{Declared}
use Rattle.ep_universe.proofs.CallerLemmas.{braced, formulas_long, many}
use Rattle.ep_schema.specs.Actions.{schema_bindings, action_of, schema_actions, actions_of}
use Rattle.ep_tree.specs.Grammar.{IsRead}
use Rattle.ep_schema.specs.Written.{Written, written, values_of, event_formulas, body_formulas, schema_formulas}
use Rattle.ep_initial.specs.Initial.{init_formulas}
use Rattle.ep_ground.specs.Written.{task_formulas}
use Rattle.ep_universe.specs.Objects.{bound}

-- where each item has no more of them than marks
more : {X Y : Type 0} (f : X → List Mark) (g : X → List Y) → ((x : X) → length (g x) ≤ length (f x)) → (xs : List X) → length (flat_map g xs) ≤ length (flat_map f xs)
more f g h [] = omega arith
more f g h (x ∷ xs) =
    let long = length-append (f x) (flat_map f xs) in
    let short = length-append (g x) (flat_map g xs) in
    let here = h x in
    let rest = more f g h xs in
    omega (arith, long, short, here, rest)

-- ---- formulas

few_values : (ss : List SetTree) → length (values_of ss) ≤ length (spell.sets ss)
few_values ss =
    let one = length-map ss (λ s. s.value) in
    let each = many spell.set (λ s. omega arith) ss in
    let long = braced (flat_map spell.set ss) in
    omega (arith, one, each, long)

few_in_event : (e : EventTree) → length (event_formulas e) ≤ length (spell.event e)
few_in_event e =
    let long = length-append (spell.formula e.pre) (spell.sets e.sets) in
    let values = few_values e.sets in
    omega (arith, long, values)

few_in_body : (b : BodyTree) → length (body_formulas b) ≤ length (spell.body b)
few_in_body (Announce f) = omega arith
few_in_body (Private f g) = omega arith
few_in_body (Sense f g) = omega arith
few_in_body (Assign f sets) =
    let long = length-append (spell.formula f) (spell.sets sets) in
    let values = few_values sets in
    omega (arith, long, values)
few_in_body (Events events designated links) =
    let long = length-append (flat_map spell.event events) (spell.designated designated ++ flat_map spell.link links) in
    let each = more spell.event event_formulas few_in_event events in
    omega (arith, long, each)

few_in_schema : (d : Declared) (s : SchemaTree) → length (schema_formulas d s) ≤ length (spell.schema s)
few_in_schema d s =
    let one = length-map (body_formulas s.body) (written (length (schema_bindings d s))) in
    let long = length-append (spell.signature s.params s.distinct) (spell.cost s.cost ++ spell.braced (spell.body s.body)) in
    let behind = length-append (spell.cost s.cost) (spell.braced (spell.body s.body)) in
    let inner = braced (spell.body s.body) in
    let each = few_in_body s.body in
    omega (arith, one, long, behind, inner, each)

few_in_init : (i : InitTree) → length (init_formulas i) ≤ length (spell.init i)
few_in_init (Explicit worlds designated links) = omega arith
few_in_init (Lawful vary facts law sees designated) =
    let items = spell.init_items (Lawful vary facts law sees designated) in
    let long = braced items in
    omega (arith, long)

pub few_formulas : (d : Declared) (t : TaskTree) → IsRead t → length (task_formulas d t) ≤ MOST_TOKENS
few_formulas d t h =
    let all = formulas_long t h in
    let last = flat_map (schema_formulas d) t.schemas ++ written 1 t.goal ∷ [] in
    let one = length-append (map (written 1) (init_formulas t.init)) last in
    let two = length-append (flat_map (schema_formulas d) t.schemas) (written 1 t.goal ∷ []) in
    let first = length-map (init_formulas t.init) (written 1) in
    let init = few_in_init t.init in
    let schemas = more spell.schema (schema_formulas d) (few_in_schema d) t.schemas in
    omega (arith, all, one, two, first, init, schemas)

-- ---- how many ground forms a formula has

abbrev IsFew : ℕ → Written → Type 0
IsFew m x = x.times ≤ m

same_times : (m n : ℕ) → n ≤ m → (fs : List FormulaTree) → All (IsFew m) (map (written n) fs)
same_times m n h [] = All-nil (IsFew m)
same_times m n h (f ∷ fs) = All-cons (IsFew m) (written n f) (map (written n) fs) h (same_times m n h fs)

schema_times : (d : Declared) (m : ℕ) (ss : List SchemaTree) → length (actions_of d ss) ≤ m → All (IsFew m) (flat_map (schema_formulas d) ss)
schema_times d m [] h = All-nil (IsFew m)
schema_times d m (s ∷ ss) h =
    let long = length-append (schema_actions d s) (actions_of d ss) in
    let here = length-map (schema_bindings d s) (λ objects. action_of d s.body (bound s.params objects)) in
    All-append (IsFew m) (schema_formulas d s) (flat_map (schema_formulas d) ss)
    (same_times m (length (schema_bindings d s)) (omega (arith, h, long, here)) (body_formulas s.body))
    (schema_times d m ss (omega (arith, h, long)))

task_times : (d : Declared) (t : TaskTree) (m : ℕ) → 1 ≤ m → length (actions_of d t.schemas) ≤ m → All (IsFew m) (task_formulas d t)
task_times d t m l h =
    All-append (IsFew m) (map (written 1) (init_formulas t.init)) (flat_map (schema_formulas d) t.schemas ++ written 1 t.goal ∷ [])
    (same_times m 1 l (init_formulas t.init))
    (All-append (IsFew m) (flat_map (schema_formulas d) t.schemas) (written 1 t.goal ∷ []) (schema_times d m t.schemas h) (same_times m 1 l (t.goal ∷ [])))

pub few_times : (d : Declared) (t : TaskTree) → length (actions_of d t.schemas) ≤ MOST_GROUND_ACTIONS → All (λ x. x.times ≤ MOST_GROUND_ACTIONS) (task_formulas d t)
few_times d t h = task_times d t MOST_GROUND_ACTIONS (omega arith) h
