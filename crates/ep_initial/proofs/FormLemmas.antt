-- The initial state of a task that was read and has no fault: an explicit one can be built, and the formulas of a lawful one
-- have ground forms in the task.
use Rattle.std.proofs.Common.{◌≡◌, ◌≤◌, ◌∷◌, [], ◌++◌, List, Option, None, length, map, subst, arith}
use Rattle.std.specs.List.{flat_map}
use Rattle.std.proofs.lemmas.List.{length-map}
use Rattle.std.proofs.lemmas.List.Elements.{All-head, All-tail}
use Rattle.ep_lex.specs.declared.limits.TheConstants.{MOST_TOKENS}
use Rattle.ep_logic.specs.declared.limits.TheConstants.{MOST_INITIAL_WORLDS}
use Rattle.ep_tree.specs.Formed.{OneOrMore, IsFormedInit, IsFormedName, IsFormedWorld}
use Rattle.ep_tree.specs.Grammar.{IsRead}
use Rattle.ep_tree.specs.Marks.{fixed}
use Rattle.ep_tree.specs.Spelling as spell
use Rattle.ep_tree.specs.declared.terminal.Terminal.TheVariants as the
use Rattle.ep_tree.specs.declared.tree.AtomTree.{AtomTree}
use Rattle.ep_tree.specs.declared.tree.FormulaTree.{FormulaTree}
use Rattle.ep_tree.specs.declared.tree.InitTree.{InitTree}
use Rattle.ep_tree.specs.declared.tree.InitTree.TheVariants.{Explicit, Lawful}
use Rattle.ep_tree.specs.declared.tree.LinkTree.{LinkTree}
use Rattle.ep_tree.specs.declared.tree.Name.{Name}
use Rattle.ep_tree.specs.declared.tree.SeesTree.{SeesTree}
use Rattle.ep_tree.specs.declared.tree.TaskTree.{TaskTree}
use Rattle.ep_tree.specs.declared.tree.WorldTree.{WorldTree}
use Rattle.ep_types.specs.Faults.{first_fault}
use Rattle.ep_types.specs.Names.{Text}
use Rattle.ep_types.specs.Places.{Scope, objective, both, at, NewName}
use Rattle.ep_types.specs.Tasks as tasks
use Rattle.ep_types.specs.Tasks.{HasNoFault, declarations}
use Rattle.ep_types.specs.declared.scope.Declared.{Declared}
use Rattle.ep_universe.specs.Sizes.{IsBuildable, AreBuildable}
use Rattle.ep_universe.proofs.CallerLemmas.{IsFresh, both-none, ends_built, init_fine, init_long, long-left, long-right, new-name, some-item}
use Rattle.ep_initial.specs.Explicit.{IsBuildableState}
use Rattle.ep_initial.specs.Initial.{init_formulas}
use Rattle.ep_initial.specs.Meeting.{IsGroundable}
use Rattle.ep_initial.proofs.TypingLemmas.{typed}

-- ---- the explicit form

worlds-fresh : (taken : List Text) (ws : List WorldTree) (s : Scope) → first_fault (tasks.world_uses taken ws s) ≡ None → IsFresh taken (tasks.world_names ws)
worlds-fresh taken [] s h = tt
worlds-fresh taken (w ∷ ws) s h =
    let r = both-none (at w.name.token (NewName w.name.text taken)) (both (tasks.atoms_uses w.atoms s) (tasks.world_uses (taken ++ w.name.text ∷ []) ws s)) h in
    let q = both-none (tasks.atoms_uses w.atoms s) (tasks.world_uses (taken ++ w.name.text ∷ []) ws s) r.1 in
    (new-name w.name.token w.name.text taken r.0, worlds-fresh (taken ++ w.name.text ∷ []) ws s q.1)

state_buildable : (s : Scope) (ws : List WorldTree) (designated : List Name) (links : List LinkTree) → OneOrMore IsFormedWorld ws → OneOrMore IsFormedName designated →
    length (flat_map spell.world ws ++ (spell.designated designated ++ flat_map spell.link links)) ≤ MOST_TOKENS → first_fault (tasks.explicit_uses ws designated links s) ≡ None → length ws ≤ MOST_INITIAL_WORLDS → IsBuildableState ws designated links
state_buildable s ws designated links formed some few fine worlds =
    let r = both-none (tasks.world_uses [] ws s) (tasks.ends_uses (tasks.world_names ws) designated links s) fine in
    let ends = long-right (flat_map spell.world ws) (spell.designated designated ++ flat_map spell.link links) MOST_TOKENS few in
    let many = length-map ws (λ (w : WorldTree). w.name.text) in
    ends_built (tasks.world_names ws) designated links (omega (arith, many, some-item IsFormedWorld ws formed)) (omega (arith, many, worlds)) (worlds-fresh [] ws s r.0) some ends

-- an explicit initial state of few enough worlds can be built
pub explicit_buildable : (t : TaskTree) → HasNoFault t → IsRead t → (ws : List WorldTree) (designated : List Name) (links : List LinkTree) → t.init ≡ Explicit ws designated links → length ws ≤ MOST_INITIAL_WORLDS → IsBuildableState ws designated links
explicit_buildable t fine read ws designated links e few =
    let s = objective (declarations t) in
    let formed = subst IsFormedInit e read.formed.4 in
    let marks = subst (λ i. length (spell.init i) ≤ MOST_TOKENS) e (init_long t read) in
    let items = flat_map spell.world ws ++ (spell.designated designated ++ flat_map spell.link links) in
    let long = long-left items (fixed the.CloseBrace ∷ []) MOST_TOKENS (omega arith) in
    state_buildable s ws designated links formed.0 formed.1 long (subst (λ i. first_fault (tasks.init_uses i s) ≡ None) e (init_fine t fine)) few

-- ---- the lawful form

pub forms_ground : (t : TaskTree) → HasNoFault t → AreBuildable (declarations t) (init_formulas t.init) →
    (vary : List AtomTree) (facts : Option (List AtomTree)) (law : FormulaTree) (sees : List SeesTree) (f : FormulaTree) → t.init ≡ Lawful vary facts law sees f →
    IsGroundable (declarations t) law × IsGroundable (declarations t) f
forms_ground t fine built vary facts law sees f e =
    let d = declarations t in
    let both_built : AreBuildable d (law ∷ f ∷ []) = subst (λ (i : InitTree). AreBuildable d (init_formulas i)) e built in
    let forms = typed t vary facts law sees f fine e in
    let behind = All-tail (IsBuildable d) law (f ∷ []) both_built in
    (forms.0.groundable (All-head (IsBuildable d) law (f ∷ []) both_built), forms.1.groundable (All-head (IsBuildable d) f [] behind))
