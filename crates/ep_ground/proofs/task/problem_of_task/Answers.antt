use Rattle.std.proofs.Common.{◌≡◌, [], ◌∷◌, List, All, option_map, refl, sym, subst, ap, ◌∙◌, rules}
use Rattle.std.specs.List.{AllByRecursion}
use Rattle.ep_base.specs.Refusals.{first_some}
use Rattle.ep_theory.specs.Kripke.{Kripke}
use Rattle.ep_theory.specs.Fits.{ActionFits, Fits}
use Rattle.ep_tree.specs.declared.tree.SchemaTree.{SchemaTree}
use Rattle.ep_initial.specs.Initial.{init_fault, initial_of}
use Rattle.ep_initial.specs.declared.fault.InitialError.TheVariants as initial
use Rattle.ep_schema.specs.ActionNames.{action_names}
use Rattle.ep_schema.specs.Actions.{actions_of}
use Rattle.ep_schema.specs.Bodies.{IsBuildableSchema}
use Rattle.ep_schema.specs.Faults.{atom_twice}
use Rattle.ep_schema.specs.declared.fault.SchemaError.TheVariants as schema
use Rattle.ep_ground.specs.Grounding.{part_rows, of_initial, of_schema, problem_from}
use Rattle.ep_ground.proofs.TaskLemmas.{first_mapped, handed_on, initial_agents, initial_atoms, none_mapped}
use Rattle.ep_ground.proofs.FitLemmas.{all_fit}
use Rattle.ep_ground.proofs.task.problem_of_task.Goals as goal

pub ground_actions-requires : goal.ground_actions-requires
ground_actions-requires c =
    let u = c.args.universe.now in
    let same : c.as_slice.result.now ≡ u.tree.schemas = c.as_slice.ensures ∙ ap (λ z. z.schemas) c.tree-tree.ensures.tree in
    subst (All (IsBuildableSchema u.names)) (sym same) c.requires.schemas

pub new-requires-clause-fit : goal.new-requires-clause-fit
new-requires-clause-fit c =
    let t = c.args.universe.now.tree in
    let d = c.args.universe.now.names in
    let known = c.tree-tree.ensures.known in
    let state : c.in_ok-initial.initial ≡ initial_of d t.init = c.in_ok-initial.ensures.value in
    let same : c.as_slice.result.now ≡ t.schemas = c.as_slice.ensures ∙ ap (λ z. z.schemas) c.tree-tree.ensures.tree in
    let actions : c.in_ok-actions.actions ≡ actions_of d t.schemas = c.in_ok-actions.ensures.value ∙ ap (actions_of d) same in
    let S = c.in_ok-initial.initial in
    let agents = ap (λ (z : Kripke). z.agents) state ∙ initial_agents d t.init in
    let atoms = ap (λ (z : Kripke). z.atoms) state ∙ initial_atoms d t.init in
    subst (AllByRecursion (ActionFits S)) (sym actions) (all_fit t known.typed d known.declared S agents atoms).0

pub new-requires-clause-goal : goal.new-requires-clause-goal
new-requires-clause-goal c =
    let t = c.args.universe.now.tree in
    let d = c.args.universe.now.names in
    let known = c.tree-tree.ensures.known in
    let state : c.in_ok-initial.initial ≡ initial_of d t.init = c.in_ok-initial.ensures.value in
    let f : c.in_ok-goal.goal ≡ (problem_from d t).goal = search (rules, c.in_ok-goal.ensures, c.tree-tree.ensures.tree) in
    let S = c.in_ok-initial.initial in
    let agents = ap (λ (z : Kripke). z.agents) state ∙ initial_agents d t.init in
    let atoms = ap (λ (z : Kripke). z.atoms) state ∙ initial_atoms d t.init in
    subst (Fits S) (sym f) (all_fit t known.typed d known.declared S agents atoms).1

pub returns-in_err-actions-clause-err : goal.returns-in_err-actions-clause-err
returns-in_err-actions-clause-err c =
    let t = c.args.universe.now.tree in
    let d = c.args.universe.now.names in
    let same : c.as_slice.result.now ≡ t.schemas = c.as_slice.ensures ∙ ap (λ z. z.schemas) c.tree-tree.ensures.tree in
    let twice = λ (ss : List SchemaTree). atom_twice (action_names d ss) (actions_of d ss) in
    let e = c.in_err-actions.field-0.0 in
    let rest = option_map of_initial (init_fault d t.init) ∷ [] in
    handed_on of_schema schema.OutOfMemory c.from_residual.result e (twice c.as_slice.result.now) (first_some (part_rows d t)) refl c.from_residual.ensures.1 c.in_err-actions.ensures.err
    (λ some. first_mapped of_schema (twice t.schemas) rest e (ap twice (sym same) ∙ some))

pub returns-in_err-initial-clause-err : goal.returns-in_err-initial-clause-err
returns-in_err-initial-clause-err c =
    let t = c.args.universe.now.tree in
    let d = c.args.universe.now.names in
    let same : c.as_slice.result.now ≡ t.schemas = c.as_slice.ensures ∙ ap (λ z. z.schemas) c.tree-tree.ensures.tree in
    let twice = λ (ss : List SchemaTree). atom_twice (action_names d ss) (actions_of d ss) in
    let e = c.in_err-initial.field-0.0 in
    let rest = option_map of_initial (init_fault d t.init) ∷ [] in
    handed_on of_initial initial.OutOfMemory c.from_residual-in_err-initial.result e (init_fault d t.init) (first_some (part_rows d t)) refl c.from_residual-in_err-initial.ensures.1 c.in_err-initial.ensures.err
    (λ some. none_mapped of_schema (twice t.schemas) rest (ap twice (sym same) ∙ c.in_ok-actions.ensures.once) ∙ first_mapped of_initial (init_fault d t.init) [] e some)

pub returns-clause-sound : goal.returns-clause-sound
returns-clause-sound c =
    let t = c.args.universe.now.tree in
    let d = c.args.universe.now.names in
    let same : c.as_slice.result.now ≡ t.schemas = c.as_slice.ensures ∙ ap (λ z. z.schemas) c.tree-tree.ensures.tree in
    let twice = λ (ss : List SchemaTree). atom_twice (action_names d ss) (actions_of d ss) in
    let rest = option_map of_initial (init_fault d t.init) ∷ [] in
    none_mapped of_schema (twice t.schemas) rest (ap twice (sym same) ∙ c.in_ok-actions.ensures.once) ∙ none_mapped of_initial (init_fault d t.init) [] c.in_ok-initial.ensures.sound
