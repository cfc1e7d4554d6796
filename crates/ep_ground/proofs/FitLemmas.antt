-- All actions and the goal are among the agents and atoms of the initial state.
use Rattle.std.proofs.Common.{◌≡◌, ℕ, ◌<◌, Bool, true, false, cond, None, List, [], ◌∷◌, ◌++◌, length, map, All, IsTrue, refl, sym, ◌∙◌, subst}
use Rattle.std.specs.List.{AllByRecursion}
use Rattle.std.proofs.lemmas.List.Elements.{All-head, All-tail, All-filter}
use Rattle.std.proofs.lemmas.Option.{slice_get_within}
use Rattle.ep_logic.specs.declared.formula.Node.{Node}
use Rattle.ep_logic.specs.declared.formula.Node.TheVariants as node
use Rattle.ep_theory.specs.Kripke.{Kripke}
use Rattle.ep_theory.specs.Fits.{fits_in, Fits, SetFits, EventFits, ActionFits}
use Rattle.ep_theory.specs.FourActions.{plain}
use Rattle.ep_logic.specs.Numbers.{table}
use Rattle.ep_logic.proofs.CallerLemmas.{length-table}
use Rattle.ep_binding.specs.Bindings.{bindings, distinct_bindings, all_different, IsBinding}
use Rattle.ep_binding.proofs.CallerLemmas.{all-bindings}
use Rattle.ep_tree.specs.declared.tree.AtomTree.{AtomTree}
use Rattle.ep_tree.specs.declared.tree.ParamTree.{ParamTree}
use Rattle.ep_tree.specs.declared.tree.FormulaTree.{FormulaTree}
use Rattle.ep_tree.specs.declared.tree.SetTree.{SetTree}
use Rattle.ep_tree.specs.declared.tree.EventTree.{EventTree}
use Rattle.ep_tree.specs.declared.tree.BodyTree.{BodyTree}
use Rattle.ep_tree.specs.declared.tree.BodyTree.TheVariants.{Announce, Private, Sense, Assign, Events}
use Rattle.ep_tree.specs.declared.tree.SchemaTree.{SchemaTree}
use Rattle.ep_tree.specs.declared.tree.TaskTree.{TaskTree}
use Rattle.ep_types.specs.Faults.{first_fault}
use Rattle.ep_types.specs.Names.{Text}
use Rattle.ep_types.specs.Places.{Scope, closed, objective, with_param, with_params, NewName, both, at}
use Rattle.ep_types.specs.Tasks.{HasNoFault, declarations, start, declaration_uses, rest_uses, init_uses, schema_uses, inner_uses, body_uses, sets_uses, effect_uses, event_uses, event_names, ends_uses}
use Rattle.ep_types.specs.Uses.{atom_uses, group_uses, param_uses, formula_uses}
use Rattle.ep_types.specs.declared.scope.Declared.{Declared}
use Rattle.ep_universe.specs.Atoms.{atoms_of, atom_at, ground_atom}
use Rattle.ep_universe.specs.Formulas.{ground_of}
use Rattle.ep_universe.specs.Objects.{Binding, agents_of, candidates, bound}
use Rattle.ep_universe.specs.Typing.{Suits}
use Rattle.ep_universe.proofs.CallerLemmas.{fits-True, fits-Not, formulas_fit, atoms_stand, suits, nothing_bound, both-none}
use Rattle.ep_schema.specs.Actions.{schema_bindings, set_of, event_of, action_of, action_at, schema_actions, actions_of}
use Rattle.ep_universe.specs.Links.{agent_count}

-- ---- lists

joined : {X : Type 0} (P : X → Type 0) (xs ys : List X) → AllByRecursion P xs → AllByRecursion P ys → AllByRecursion P (xs ++ ys)
joined P [] ys h k = k
joined P (x ∷ xs) ys h k = (h.0, joined P xs ys h.1 k)

made : {X Y : Type 0} (P : X → Type 0) (Q : Y → Type 0) (f : X → Y) → ((x : X) → P x → Q (f x)) → (xs : List X) → All P xs → AllByRecursion Q (map f xs)
made P Q f h [] k = tt
made P Q f h (x ∷ xs) k = (h x (All-head P x xs k), made P Q f h xs (All-tail P x xs k))

-- the bindings of a schema are ones of its parameters
are_bindings : (d : Declared) (s : SchemaTree) → All (IsBinding (candidates d s.params)) (schema_bindings d s)
are_bindings d s = by s.distinct
  where
    cs : List (List ℕ)
    cs = candidates d s.params

    by : (b : Bool) → All (IsBinding (candidates d s.params)) (cond b (distinct_bindings (candidates d s.params)) (bindings (candidates d s.params)))
    by true = All-filter all_different (IsBinding (candidates d s.params)) (bindings (candidates d s.params)) (all-bindings (candidates d s.params))
    by false = all-bindings (candidates d s.params)

names_kept : (s : Scope) (ps : List ParamTree) → (with_params s ps).names ≡ s.names
names_kept s [] = refl
names_kept s (p ∷ ps) = names_kept (with_param s p) ps

-- ---- the parts of an action

module _ (t : TaskTree) (h : HasNoFault t) (d : Declared) (e : d ≡ declarations t) (S : Kripke) (agents : S.agents ≡ agent_count d) (atoms : S.atoms ≡ length (atoms_of d)) where
  formula : (s : Scope) (b : Binding) → s.names ≡ d → Suits s b → (f : FormulaTree) → first_fault (formula_uses f s) ≡ None → Fits S (ground_of d f b)
  formula s b k suit f fine =
      subst (λ (n : ℕ). IsTrue (fits_in n S.atoms (ground_of d f b))) (sym agents)
      (subst (λ (n : ℕ). IsTrue (fits_in (agent_count d) n (ground_of d f b))) (sym atoms)
      (subst (λ (c : Declared). IsTrue (fits_in (length (agents_of c)) (length (atoms_of c)) (ground_of c f b))) k
      (formulas_fit t h s b (k ∙ e) suit f fine)))

  atom : (s : Scope) (b : Binding) → s.names ≡ d → Suits s b → (a : AtomTree) → first_fault (atom_uses a s) ≡ None → atom_at d b a < S.atoms
  atom s b k suit a fine =
      subst (λ (n : ℕ). atom_at d b a < n) (sym atoms)
      (subst (λ (c : Declared). atom_at c b a < length (atoms_of c)) k
      (slice_get_within (atoms_of s.names) (atom_at s.names b a) (ground_atom s.names b a) (atoms_stand t h s b (k ∙ e) suit a fine)))

  module _ (s : Scope) (b : Binding) (k : s.names ≡ d) (suit : Suits s b) where
    sets_fit : (ss : List SetTree) → first_fault (sets_uses ss s) ≡ None → AllByRecursion (SetFits S) (map (set_of d b) ss)
    sets_fit [] fine = tt
    sets_fit (x ∷ xs) fine =
        let uses = both-none (both (atom_uses x.atom s) (formula_uses x.value s)) (sets_uses xs s) fine in
        let here = both-none (atom_uses x.atom s) (formula_uses x.value s) uses.0 in
        ((atom s b k suit x.atom here.0, formula s b k suit x.value here.1), sets_fit xs uses.1)

    effect_fits : (f : FormulaTree) (ss : List SetTree) → first_fault (effect_uses f ss s) ≡ None → EventFits S (record { pre = ground_of d f b; sets = map (set_of d b) ss })
    effect_fits f ss fine =
        let uses = both-none (formula_uses f s) (sets_uses ss s) fine in
        record { pre = formula s b k suit f uses.0; sets = sets_fit ss uses.1 }

    events_fit : (taken : List Text) (es : List EventTree) → first_fault (event_uses taken es s) ≡ None → AllByRecursion (EventFits S) (map (event_of d b) es)
    events_fit taken [] fine = tt
    events_fit taken (x ∷ es) fine =
        let later = event_uses (taken ++ x.name.text ∷ []) es s in
        let uses = both-none (at x.name.token (NewName x.name.text taken)) (both (effect_uses x.pre x.sets s) later) fine in
        let rest = both-none (effect_uses x.pre x.sets s) later uses.1 in
        (effect_fits x.pre x.sets rest.0, events_fit (taken ++ x.name.text ∷ []) es rest.1)

    plain_fits : (f : Node) → Fits S f → EventFits S (plain f)
    plain_fits f fit = record { pre = fit; sets = tt }

    as_many : {X : Type 0} (f : ℕ → X) → length (table f (agent_count d)) ≡ S.agents
    as_many f = length-table f (agent_count d) ∙ sym agents

    body_fits : (y : BodyTree) → first_fault (body_uses y s) ≡ None → ActionFits S (action_of d y b)
    body_fits (Announce f) fine = record { agents = as_many _; events = (plain_fits (ground_of d f b) (formula s b k suit f fine), tt) }
    body_fits (Private f g) fine =
        let uses = both-none (formula_uses f s) (group_uses g s) fine in
        record { agents = as_many _; events = (plain_fits (ground_of d f b) (formula s b k suit f uses.0), (plain_fits node.True (fits-True S.agents S.atoms), tt)) }
    body_fits (Sense f g) fine =
        let uses = both-none (formula_uses f s) (group_uses g s) fine in
        let fit = formula s b k suit f uses.0 in
        record { agents = as_many _; events = (plain_fits (ground_of d f b) fit, (plain_fits (node.Not (ground_of d f b)) (fits-Not S.agents S.atoms (ground_of d f b) ∙ fit), tt)) }
    body_fits (Assign f ss) fine = record { agents = as_many _; events = (effect_fits f ss fine, tt) }
    body_fits (Events es designated links) fine =
        let uses = both-none (event_uses [] es s) (ends_uses (event_names es) designated links s) fine in
        record { agents = as_many _; events = events_fit [] es uses.0 }

  -- ---- schemas

  schema_fits : (s : SchemaTree) → first_fault (inner_uses s (closed d)) ≡ None → AllByRecursion (ActionFits S) (schema_actions d s)
  schema_fits s fine =
      let inner = with_params (closed d) s.params in
      let uses = both-none (param_uses 0 s.params (closed d)) (body_uses s.body inner) fine in
      made (IsBinding (candidates d s.params)) (ActionFits S) (action_at d s)
      (λ objects is. body_fits inner (bound s.params objects) (names_kept (closed d) s.params) (suits d s.params objects is) s.body uses.1)
      (schema_bindings d s) (are_bindings d s)

  schemas_fit : (taken : List Text) (ss : List SchemaTree) → first_fault (schema_uses taken ss d) ≡ None → AllByRecursion (ActionFits S) (actions_of d ss)
  schemas_fit taken [] fine = tt
  schemas_fit taken (s ∷ ss) fine =
      let later = schema_uses (taken ++ s.name.text ∷ []) ss d in
      let uses = both-none (at s.name.token (NewName s.name.text taken)) (both (inner_uses s (closed d)) later) fine in
      let rest = both-none (inner_uses s (closed d)) later uses.1 in
      joined (ActionFits S) (schema_actions d s) (actions_of d ss) (schema_fits s rest.0) (schemas_fit (taken ++ s.name.text ∷ []) ss rest.1)

  -- ---- the task

  pub all_fit : AllByRecursion (ActionFits S) (actions_of d t.schemas) × Fits S (ground_of d t.goal [])
  all_fit =
      let uses = both-none (declaration_uses start t) (rest_uses (declarations t) t) h in
      let later : first_fault (rest_uses d t) ≡ None = subst (λ (c : Declared). first_fault (rest_uses c t) ≡ None) (sym e) uses.1 in
      let rest = both (schema_uses [] t.schemas d) (formula_uses t.goal (closed d)) in
      let init = both-none (init_uses t.init (objective d)) rest later in
      let last = both-none (schema_uses [] t.schemas d) (formula_uses t.goal (closed d)) init.1 in
      (schemas_fit [] t.schemas last.0, formula (closed d) [] refl (nothing_bound d) t.goal last.1)
