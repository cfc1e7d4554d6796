-- What joins the parts of a ground task.
use Rattle.std.proofs.Common.{IfErr, OnOk, IsErrAnd, IsTrue, ◌≡◌, cond, List, [], ◌∷◌, Option, Some, None, option_map, Result, Ok, Err, length, refl, ap, sym, ◌∙◌, subst, inl, inr, ⊎_elim, arith}
use Rattle.std.specs.List.{AllByRecursion}
use Rattle.std.proofs.lemmas.List.{length-append, length-map}
use Rattle.ep_base.specs.Refusals.{Reports, first_some}
use Rattle.ep_base.proofs.CallerLemmas.{reports_whole}
use Rattle.ep_theory.specs.Events.{EventModel}
use Rattle.ep_theory.specs.Fits.{ActionFits}
use Rattle.ep_theory.specs.Kripke.{IsState}
use Rattle.ep_theory.specs.PlanningTask.{PlanningTask, IsS5Task}
use Rattle.ep_theory.proofs.CallerLemmas.{All-from_each, at_All}
use Rattle.ep_tree.specs.declared.tree.InitTree.{InitTree}
use Rattle.ep_tree.specs.declared.tree.InitTree.TheVariants.{Explicit, Lawful}
use Rattle.ep_tree.specs.declared.tree.SchemaTree.{SchemaTree}
use Rattle.ep_tree.specs.declared.tree.TaskTree.{TaskTree}
use Rattle.ep_types.specs.Names.{Text}
use Rattle.ep_types.specs.Tasks.{HasNoFault, declarations}
use Rattle.ep_types.specs.declared.scope.Declared.{Declared}
use Rattle.ep_universe.specs.Atoms.{atoms_of}
use Rattle.ep_universe.specs.Links.{agent_count}
use Rattle.ep_universe.specs.Objects.{agents_of}
use Rattle.ep_universe.specs.PrintedNames.{object_name, atom_name, agent_names, atom_names}
use Rattle.ep_universe.specs.Universe.{HasFewNames, IsUniverse, NamedTask}
use Rattle.ep_initial.specs.Initial.{initial_of}
use Rattle.ep_schema.specs.ActionNames.{action_name, schema_names, action_names}
use Rattle.ep_schema.specs.Actions.{schema_bindings, action_at, schema_actions, actions_of}
use Rattle.ep_ground.proofs.FitLemmas.{all_fit}
use Rattle.ep_ground.proofs.FrameLemmas.{none_unequal}
use Rattle.ep_ground.specs.Frames.{first_unequal, not_s5}
use Rattle.ep_ground.specs.Grounding.{IsNamed, problem_from, task_from, task_of}
use Rattle.ep_ground.specs.Task.{GroundTask}
use Rattle.ep_ground.specs.declared.fault.GroundError.{GroundError}
use Rattle.ep_ground.specs.declared.fault.GroundError.TheVariants as fault

-- ---- counts

pub as_many_actions : (d : Declared) (ss : List SchemaTree) → length (action_names d ss) ≡ length (actions_of d ss)
as_many_actions d [] = refl
as_many_actions d (s ∷ ss) =
    omega (arith, length-append (schema_names d s) (action_names d ss), length-append (schema_actions d s) (actions_of d ss), length-map (schema_bindings d s) (action_name d s), length-map (schema_bindings d s) (action_at d s), as_many_actions d ss)

as_many_agents : (d : Declared) → length (agent_names d) ≡ agent_count d
as_many_agents d = length-map (agents_of d) (object_name d)

as_many_atoms : (d : Declared) → length (atom_names d) ≡ length (atoms_of d)
as_many_atoms d = length-map (atoms_of d) (atom_name d)

pub initial_agents : (d : Declared) (i : InitTree) → (initial_of d i).agents ≡ agent_count d
initial_agents d (Explicit worlds designated links) = refl
initial_agents d (Lawful vary facts law sees designated) = refl

pub initial_atoms : (d : Declared) (i : InitTree) → (initial_of d i).atoms ≡ length (atoms_of d)
initial_atoms d (Explicit worlds designated links) = refl
initial_atoms d (Lawful vary facts law sees designated) = refl

-- ---- rows

-- an error of a row that is handed on as one of the table
pub handed_on : {A E : Type 0} (out : E → GroundError) (want : E) (r : Result A GroundError) (e : E) (row : Option E) (whole : Option GroundError) → out want ≡ fault.OutOfMemory → IsErrAnd r (λ x. x ≡ out e) →
    Reports want row e → (row ≡ Some e → whole ≡ Some (out e)) → IfErr r (Reports fault.OutOfMemory whole)
handed_on out want (Ok a) e row whole memory h k f = tt
handed_on out want (Err x) e row whole memory h k f = subst (Reports fault.OutOfMemory whole) (sym h) (⊎_elim
    (λ (wanting : e ≡ want). inl (ap out wanting ∙ memory))
    (λ (some : row ≡ Some e). inr (f some))
    k)

-- a fault, mapped, at the head of a table
pub first_mapped : {E : Type 0} (out : E → GroundError) (row : Option E) (rest : List (Option GroundError)) (e : E) → row ≡ Some e → first_some (option_map out row ∷ rest) ≡ Some (out e)
first_mapped out row rest e h = ap (λ o. first_some (option_map out o ∷ rest)) h

pub none_mapped : {E : Type 0} (out : E → GroundError) (row : Option E) (rest : List (Option GroundError)) → row ≡ None → first_some (option_map out row ∷ rest) ≡ first_some rest
none_mapped out row rest h = ap (λ o. first_some (option_map out o ∷ rest)) h

pub none_before : (row : Option GroundError) (rest : List (Option GroundError)) → row ≡ None → first_some (row ∷ rest) ≡ first_some rest
none_before row rest h = ap (λ o. first_some (o ∷ rest)) h

pub some_before : (row : Option GroundError) (rest : List (Option GroundError)) (e : GroundError) → row ≡ Some e → first_some (row ∷ rest) ≡ Some e
some_before row rest e h = ap (λ o. first_some (o ∷ rest)) h

pub on_none : {A : Type 0} (row whole : Option GroundError) (r : Result A GroundError) → whole ≡ row → OnOk r (row ≡ None) → OnOk r (whole ≡ None)
on_none row whole (Ok a) e h = e ∙ h
on_none row whole (Err x) e h = tt

pub on_error : {A : Type 0} (row whole : Option GroundError) (r : Result A GroundError) → whole ≡ row → IfErr r (Reports fault.OutOfMemory row) → IfErr r (Reports fault.OutOfMemory whole)
on_error row whole (Ok a) e h = tt
on_error row whole (Err x) e h = reports_whole fault.OutOfMemory row whole x (λ some. e ∙ some) h

-- ---- the ground task of a universe

pub same_task : (u : NamedTask) (known : IsUniverse u) (actions : List Text) (problem : PlanningTask) → actions ≡ action_names u.names u.tree.schemas → problem ≡ problem_from u.names u.tree →
    ◌≡◌ {A = GroundTask} (record { tree = u.tree; agents = agent_names u.names; atoms = atom_names u.names; actions = actions; problem = problem }) (task_of u.tree)
same_task u known actions problem e f =
    (λ j. record { tree = u.tree; agents = agent_names u.names; atoms = atom_names u.names; actions = e j; problem = f j })
    ∙ ap (λ d. task_from d u.tree) known.declared

-- the actions have as many relations as the task has agents
action_agents : (t : TaskTree) → HasNoFault t → AllByRecursion (λ (A : EventModel). length (agent_names (declarations t)) ≡ length A.links) (actions_of (declarations t) t.schemas)
action_agents t fine =
    let d = declarations t in
    let S = initial_of d t.init in
    let actions = actions_of d t.schemas in
    let fit = (all_fit t fine d refl S (initial_agents d t.init) (initial_atoms d t.init)).0 in
    All-from_each (λ (A : EventModel). length (agent_names d) ≡ length A.links) actions
    (λ A i. as_many_agents d ∙ sym (initial_agents d t.init) ∙ sym (at_All (ActionFits S) A actions fit i).agents)

-- where relations are to be equivalences and none is told that is not one
frames_hold : (t : TaskTree) → HasNoFault t → IsState (initial_of (declarations t) t.init) → not_s5 (declarations t) t ≡ None → IsTrue t.s5 → IsS5Task (problem_from (declarations t) t)
frames_hold t fine state none s5 =
    let d = declarations t in
    let S = initial_of d t.init in
    let told = first_unequal (agent_names d) (action_names d t.schemas) S (actions_of d t.schemas) in
    let h : told ≡ None = ap (λ b. cond b told None) (sym s5) ∙ none in
    let all = none_unequal (agent_names d) (action_names d t.schemas) S (actions_of d t.schemas) (as_many_agents d ∙ sym (initial_agents d t.init) ∙ sym state.relations) (as_many_actions d t.schemas)
    (action_agents t fine) h in
    record { initial = all.0; actions = all.1 }

pub named_task : (u : NamedTask) (known : IsUniverse u) → not_s5 u.names u.tree ≡ None → IsState (initial_of u.names u.tree.init) → IsNamed (task_of u.tree)
named_task u known frames state =
    let t = u.tree in
    let d = declarations t in
    record {
      agents = as_many_agents d ∙ sym (initial_agents d t.init);
      atoms = as_many_atoms d ∙ sym (initial_atoms d t.init);
      actions = as_many_actions d t.schemas;
      declared_agents = as_many_agents d;
      declared_atoms = as_many_atoms d;
      whole = record { task = refl; typed = known.typed; read = known.read };
      few = subst HasFewNames known.declared known.few;
      frames = frames_hold t known.typed (subst (λ d. IsState (initial_of d t.init)) known.declared state) (subst (λ d. not_s5 d t ≡ None) known.declared frames);
    }
