-- What a product says of an action.
use Rattle.std.proofs.Common.{◌≡◌, ℕ, ◌≤◌, List, slice_get, Some, None, refl, sym, ap, ◌∙◌, subst}
use Rattle.std.proofs.lemmas.Option.{same_Some, none-some}
use Rattle.ep_logic.specs.declared.ids.ActionId.{ActionId}
use Rattle.ep_theory.specs.Kripke.{Kripke, IsState}
use Rattle.ep_theory.specs.Events.{EventModel}
use Rattle.ep_theory.specs.Product.{IsApplicable, product_of}
use Rattle.ep_theory.proofs.CallerLemmas.{bisimilar_sym, product-is_state, after_state, step_some, step_none, step_action}
use Rattle.ep_update.specs.Updates.{IsProductUpTo, AppliesNowhere}
use Rattle.ep_search.specs.Made.{IsMade}
use Rattle.ep_theory.specs.PlanningTask.{PlanningTask, IsPlanningTask}
use Rattle.ep_theory.specs.Truth.{Satisfies}
use Rattle.std.specs.List.{AllByRecursion}
use Rattle.ep_logic.specs.declared.formula.Node.{Node}
use Rattle.ep_theory.specs.Fits.{Fits, ActionFits}
use Rattle.ep_bounds.specs.declared.bounds.Bounds.{Bounds}
use Rattle.ep_store.specs.declared.entry.Entry.{Entry}
use Rattle.ep_store.specs.Stored.{Has}
use Rattle.ep_search.specs.Alike.{Alike}
use Rattle.ep_search.specs.Sound.{IsSound, Leads, Refuses}
use Rattle.ep_search.specs.Progresses.{LeadsToGoal}
use Rattle.ep_search.specs.Conjuncts.{AreParts}
use Rattle.ep_search.proofs.AlikeLemmas.{to_Alike, from_Alike, Alike-trans, Alike-agents, Alike-atoms}
use Rattle.ep_search.proofs.FitLemmas.{Fits-among, ActionFits-among}
use Rattle.ep_search.proofs.GoalLemmas.{parts_fit}
use Rattle.ep_search.proofs.PathLemmas.{entry_plan}

pub leads_by : (T : PlanningTask) → IsPlanningTask T → (c b : Kripke) (a : ActionId) (A : EventModel) → slice_get T.actions a.n ≡ Some A → IsState b → IsProductUpTo c A b → Leads T c a b
leads_by T t c b a A at valid alike R same =
    let r = from_Alike c R same in
    let m = alike R r.1 r.2 in
    let made : IsState (product_of R A) = product-is_state R A r.1 (step_action T t a A at) m.0 in
    (product_of R A, (step_some T R (product_of R A) a r.1).1 (A, at, m.0, refl), to_Alike (product_of R A) b made valid (bisimilar_sym m.1))

pub refuses_by : (T : PlanningTask) (c : Kripke) (a : ActionId) (A : EventModel) → slice_get T.actions a.n ≡ Some A → AppliesNowhere c A → Refuses T c a
refuses_by T c a A at fails R same =
    let r = from_Alike c R same in
    (step_none T R a r.1).1 (λ B atB fits. fails R r.2 (subst (λ M. IsApplicable R M) (same_Some B A (sym atB ∙ at)) fits))

-- an action that the task lacks is not applicable
pub refuses_past : (T : PlanningTask) (c : Kripke) (a : ActionId) → slice_get T.actions a.n ≡ None → Refuses T c a
refuses_past T c a past R same = (step_none T R a (from_Alike c R same).1).1 (λ A at _. none-some A (sym past ∙ at))

pub Leads-then : (T : PlanningTask) (c b d : Kripke) (a : ActionId) → Leads T c a b → Alike b d → Leads T c a d
Leads-then T c b d a leads alike R same = let l = leads R same in (l.0, l.1, Alike-trans l.0 b d l.2 alike)

-- an entry and an action of the task that was tried in it
module _ (T : PlanningTask) (t : IsPlanningTask T) (b : Bounds) (es : List Entry) (sound : IsSound T b es) (i : ℕ) (a : ActionId) (A : EventModel) (c s : Kripke)
    (P : Entry → Type 0) (held : Has es i P) (got : Has es i (λ e. c ≡ e.canon)) (same : s ≡ c) (at : slice_get T.actions a.n ≡ Some A) where
  pub here : s ≡ held.entry.canon
  here = same ∙ got.holds ∙ ap (λ (e : Entry). e.canon) (same_Some got.entry held.entry (sym got.at ∙ held.at))

  among : (s.agents ≡ T.initial.agents) × (s.atoms ≡ T.initial.atoms)
  among =
      let p = entry_plan T b es sound i held.entry held.at in
      let left = after_state T p.0 p.1.leads.state t p.1.leads.is_after in (
        ap (λ (S : Kripke). S.agents) here ∙ sym (Alike-agents p.1.leads.state held.entry.canon p.1.leads.bisimilar) ∙ left.1,
        ap (λ (S : Kripke). S.atoms) here ∙ sym (Alike-atoms p.1.leads.state held.entry.canon p.1.leads.bisimilar) ∙ left.2,
      )

  pub action_fits : ActionFits T.initial A → ActionFits s A
  action_fits h = ActionFits-among T.initial s (sym among.0) (sym among.1) A h

  pub few_worlds : s.worlds ≤ b.worlds
  few_worlds = subst (λ (S : Kripke). S.worlds ≤ b.worlds) (sym here) (sound.each i held.entry held.at).narrow

  pub goal_fits : (d : Kripke) → IsMade s A d → (fs : List Node) → AreParts T.goal fs → AllByRecursion (Fits d) fs
  goal_fits d made fs parts =
      parts_fit d T.goal fs parts (Fits-among T.initial d (sym (made.agents ∙ among.0)) (sym (made.atoms ∙ among.1)) T.goal t.goal)

  pub lead_by : (d f : Kripke) → IsMade s A d → Alike d f → Has es i (λ e. P e × Leads T e.canon a f)
  lead_by d f made alike = record {
    entry = held.entry;
    at = held.at;
    holds = (held.holds, Leads-then T held.entry.canon d f a (leads_by T t held.entry.canon d a A at made.valid (subst (λ x. IsProductUpTo x A d) here made.alike)) alike);
  }

  pub goal_by : (d : Kripke) → IsMade s A d → Satisfies d T.goal → Has es i (λ e. P e × LeadsToGoal T e.canon a)
  goal_by d made h = record {
    entry = held.entry;
    at = held.at;
    holds = (held.holds, (d, leads_by T t held.entry.canon d a A at made.valid (subst (λ x. IsProductUpTo x A d) here made.alike), h));
  }

  pub refuse_by : AppliesNowhere s A → Refuses T held.entry.canon a
  refuse_by fails = refuses_by T held.entry.canon a A at (subst (λ x. AppliesNowhere x A) here fails)
