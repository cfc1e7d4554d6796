-- What stands at the tokens of a task, in file order, each with the names that are declared before it.
use Rattle.std.specs.Prelude.{◌≡◌, ℕ, ◌+◌, List, [], ◌∷◌, ◌++◌, Option, None, map, unwrap_or, codes}
use Rattle.ep_types.specs.Faults.{first_fault}
use Rattle.ep_types.specs.Names.{Text, Typings, names_of}
use Rattle.ep_types.specs.Atoms.{texts, atom_texts}
use Rattle.ep_types.specs.Places.{Scope, closed, objective, with_params, NewName, ParamType, UsedName, Uses, nothing, both, at, each}
use Rattle.ep_types.specs.Uses.{param_uses, atom_uses, fact_uses, group_uses, formula_uses}
use Rattle.ep_types.specs.declared.scope.Declared.{Declared}
use Rattle.ep_tree.specs.declared.tree.Name.{Name}
use Rattle.ep_tree.specs.declared.tree.TypeTree.{TypeTree}
use Rattle.ep_tree.specs.declared.tree.ObjectTree.{ObjectTree}
use Rattle.ep_tree.specs.declared.tree.FluentTree.{FluentTree}
use Rattle.ep_tree.specs.declared.tree.AtomTree.{AtomTree}
use Rattle.ep_tree.specs.declared.tree.PairTree.{PairTree}
use Rattle.ep_tree.specs.declared.tree.PairsTree.{PairsTree}
use Rattle.ep_tree.specs.declared.tree.PairsTree.TheVariants as pairs
use Rattle.ep_tree.specs.declared.tree.LinkTree.{LinkTree}
use Rattle.ep_tree.specs.declared.tree.WorldTree.{WorldTree}
use Rattle.ep_tree.specs.declared.tree.SeesTree.{SeesTree}
use Rattle.ep_tree.specs.declared.tree.FormulaTree.{FormulaTree}
use Rattle.ep_tree.specs.declared.tree.GroupTree.{GroupTree}
use Rattle.ep_tree.specs.declared.tree.InitTree.{InitTree}
use Rattle.ep_tree.specs.declared.tree.InitTree.TheVariants.{Explicit, Lawful}
use Rattle.ep_tree.specs.declared.tree.SetTree.{SetTree}
use Rattle.ep_tree.specs.declared.tree.EventTree.{EventTree}
use Rattle.ep_tree.specs.declared.tree.BodyTree.{BodyTree}
use Rattle.ep_tree.specs.declared.tree.BodyTree.TheVariants.{Announce, Private, Sense, Assign, Events}
use Rattle.ep_tree.specs.declared.tree.SchemaTree.{SchemaTree}
use Rattle.ep_tree.specs.declared.tree.TaskTree.{TaskTree}

-- ---- types, objects and fluents

-- `agent` is below `object`, which is above all
abbrev pub start : Declared
start = record { types = (codes "object", codes "object") ∷ (codes "agent", codes "object") ∷ []; objects = []; fluents = [] }

abbrev pub with_type : Declared → TypeTree → Declared
with_type d e = record d { types = d.types ++ (e.name.text, e.parent.text) ∷ [] }

abbrev pub after_types : Declared → List TypeTree → Declared
after_types d [] = d
after_types d (e ∷ es) = after_types (with_type d e) es

abbrev pub type_uses : Declared → List TypeTree → Uses
type_uses d [] = nothing
type_uses d (e ∷ es) =
    both (at e.name.token (NewName e.name.text (names_of d.types)))
    (both (at e.parent.token (UsedName e.parent.text (names_of d.types))) (type_uses (with_type d e) es))

abbrev pub with_object : Declared → Text → Name → Declared
with_object d kind x = record d { objects = d.objects ++ (x.text, kind) ∷ [] }

abbrev pub with_objects : Declared → Text → List Name → Declared
with_objects d kind [] = d
with_objects d kind (x ∷ xs) = with_objects (with_object d kind x) kind xs

abbrev pub after_objects : Declared → List ObjectTree → Declared
after_objects d [] = d
after_objects d (e ∷ es) = after_objects (with_objects d e.kind.text e.names) es

abbrev pub name_uses : Declared → Text → List Name → Uses
name_uses d kind [] = nothing
name_uses d kind (x ∷ xs) = both (at x.token (NewName x.text (names_of d.objects))) (name_uses (with_object d kind x) kind xs)

abbrev pub object_uses : Declared → List ObjectTree → Uses
object_uses d [] = nothing
object_uses d (e ∷ es) =
    let all = with_objects d e.kind.text e.names in
    both (name_uses d e.kind.text e.names) (both (at e.kind.token (UsedName e.kind.text (names_of all.types))) (object_uses all es))

abbrev pub with_fluent : Declared → FluentTree → Declared
with_fluent d e = record d { fluents = d.fluents ++ (e.name.text, texts e.kinds) ∷ [] }

abbrev pub after_fluents : Declared → List FluentTree → Declared
after_fluents d [] = d
after_fluents d (e ∷ es) = after_fluents (with_fluent d e) es

-- parameter types, from this number on
abbrev pub kind_uses : Typings → ℕ → List Name → Uses
kind_uses types n [] = nothing
kind_uses types n (x ∷ xs) = both (at x.token (ParamType n x.text (names_of types))) (kind_uses types (n + 1) xs)

abbrev pub fluent_uses : Declared → List FluentTree → Uses
fluent_uses d [] = nothing
fluent_uses d (e ∷ es) =
    both (at e.name.token (NewName e.name.text (names_of d.fluents))) (both (kind_uses d.types 0 e.kinds) (fluent_uses (with_fluent d e) es))

-- ---- worlds and links

abbrev pub atoms_uses : List AtomTree → Scope → Uses
atoms_uses xs s = each (λ a. atom_uses a s) xs

-- names of worlds or events
abbrev pub known_uses : List Text → List Name → Uses
known_uses names xs = each (λ x. at x.token (UsedName x.text names)) xs

abbrev pub pair_uses : List Text → PairTree → Uses
pair_uses names p = both (at p.from.token (UsedName p.from.text names)) (at p.to.token (UsedName p.to.text names))

abbrev pub pairs_uses : List Text → PairsTree → Uses
pairs_uses names pairs.All = nothing
pairs_uses names pairs.Same = nothing
pairs_uses names (pairs.Listed ps) = each (pair_uses names) ps

abbrev pub links_uses : List Text → List LinkTree → Scope → Uses
links_uses names ls s = each (λ l. both (group_uses l.group s) (pairs_uses names l.pairs)) ls

-- the names of designated worlds or events, and the links between worlds or events
abbrev pub ends_uses : List Text → List Name → List LinkTree → Scope → Uses
ends_uses names designated links s = both (known_uses names designated) (links_uses names links s)

-- ---- the initial state, in whose formulas no knowledge is allowed

-- worlds, behind those of these names
abbrev pub world_uses : List Text → List WorldTree → Scope → Uses
world_uses taken [] s = nothing
world_uses taken (w ∷ ws) s =
    both (at w.name.token (NewName w.name.text taken)) (both (atoms_uses w.atoms s) (world_uses (taken ++ w.name.text ∷ []) ws s))

abbrev pub world_names : List WorldTree → List Text
world_names ws = map (λ w. w.name.text) ws

abbrev pub sees_uses : List SeesTree → Scope → Uses
sees_uses xs s = each (λ x. both (group_uses x.group s) (atoms_uses x.atoms s)) xs

abbrev pub facts_uses : List AtomTree → List AtomTree → Scope → Uses
facts_uses vary xs s = each (λ a. fact_uses (map atom_texts vary) a s) xs

abbrev pub explicit_uses : List WorldTree → List Name → List LinkTree → Scope → Uses
explicit_uses ws designated links s = both (world_uses [] ws s) (ends_uses (world_names ws) designated links s)

-- the varied atoms and the facts
abbrev pub given_uses : List AtomTree → Option (List AtomTree) → Scope → Uses
given_uses vary facts s = both (atoms_uses vary s) (facts_uses vary (unwrap_or facts []) s)

-- the law, who sees what, and the formula of the designated worlds
abbrev pub law_uses : FormulaTree → List SeesTree → FormulaTree → Scope → Uses
law_uses law sees designated s = both (formula_uses law s) (both (sees_uses sees s) (formula_uses designated s))

abbrev pub init_uses : InitTree → Scope → Uses
init_uses (Explicit ws designated links) s = explicit_uses ws designated links s
init_uses (Lawful vary facts law sees designated) s = both (given_uses vary facts s) (law_uses law sees designated s)

-- ---- schemas

abbrev pub sets_uses : List SetTree → Scope → Uses
sets_uses xs s = each (λ x. both (atom_uses x.atom s) (formula_uses x.value s)) xs

-- a condition and the assignments under it
abbrev pub effect_uses : FormulaTree → List SetTree → Scope → Uses
effect_uses condition sets s = both (formula_uses condition s) (sets_uses sets s)

-- events, behind those of these names
abbrev pub event_uses : List Text → List EventTree → Scope → Uses
event_uses taken [] s = nothing
event_uses taken (e ∷ es) s =
    both (at e.name.token (NewName e.name.text taken)) (both (effect_uses e.pre e.sets s) (event_uses (taken ++ e.name.text ∷ []) es s))

abbrev pub event_names : List EventTree → List Text
event_names es = map (λ e. e.name.text) es

-- what is told or found out, and the group
abbrev pub told_uses : FormulaTree → GroupTree → Scope → Uses
told_uses what group s = both (formula_uses what s) (group_uses group s)

abbrev pub general_uses : List EventTree → List Name → List LinkTree → Scope → Uses
general_uses es designated links s = both (event_uses [] es s) (ends_uses (event_names es) designated links s)

abbrev pub body_uses : BodyTree → Scope → Uses
body_uses (Announce what) s = formula_uses what s
body_uses (Private what group) s = told_uses what group s
body_uses (Sense what group) s = told_uses what group s
body_uses (Assign guard sets) s = effect_uses guard sets s
body_uses (Events es designated links) s = general_uses es designated links s

-- the parameters and the body of a schema
abbrev pub inner_uses : SchemaTree → Scope → Uses
inner_uses e s = both (param_uses 0 e.params s) (body_uses e.body (with_params s e.params))

-- schemas, behind those of these names
abbrev pub schema_uses : List Text → List SchemaTree → Declared → Uses
schema_uses taken [] d = nothing
schema_uses taken (e ∷ es) d =
    both (at e.name.token (NewName e.name.text taken)) (both (inner_uses e (closed d)) (schema_uses (taken ++ e.name.text ∷ []) es d))

-- ---- the task

abbrev pub declarations_from : Declared → TaskTree → Declared
declarations_from d t = after_fluents (after_objects (after_types d (unwrap_or t.types [])) t.objects) t.fluents

-- the types, objects and fluents of a task
abbrev pub declarations : TaskTree → Declared
declarations t = declarations_from start t

abbrev pub declaration_uses : Declared → TaskTree → Uses
declaration_uses d t =
    let types = after_types d (unwrap_or t.types []) in
    both (type_uses d (unwrap_or t.types [])) (both (object_uses types t.objects) (fluent_uses (after_objects types t.objects) t.fluents))

-- the initial state, the schemas and the goal
abbrev pub rest_uses : Declared → TaskTree → Uses
rest_uses d t = both (init_uses t.init (objective d)) (both (schema_uses [] t.schemas d) (formula_uses t.goal (closed d)))

abbrev pub task_uses_from : Declared → TaskTree → Uses
task_uses_from d t = both (declaration_uses d t) (rest_uses (declarations_from d t) t)

abbrev pub task_uses : TaskTree → Uses
task_uses t = task_uses_from start t

abbrev pub HasNoFault : TaskTree → Type 0
HasNoFault t = first_fault (task_uses t) ≡ None
