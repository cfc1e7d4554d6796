-- What fits a state fits each state with its agents and atoms, so a goal fits what a plan leaves.
use Rattle.std.proofs.Common.{◌≡◌, ℕ, ◌<◌, List, [], ◌∷◌, Some, IsTrue, sym, ◌∙◌, subst}
use Rattle.std.specs.List.{AllByRecursion}
use Rattle.ep_logic.specs.declared.ids.ActionId.{ActionId}
use Rattle.ep_logic.specs.declared.formula.Node.{Node}
use Rattle.ep_theory.specs.Kripke.{Kripke}
use Rattle.ep_theory.specs.Events.{Event, EventModel}
use Rattle.ep_theory.specs.Fits.{Fits, SetFits, EventFits, ActionFits, fits_in}
use Rattle.ep_theory.specs.PlanningTask.{PlanningTask, IsPlanningTask}
use Rattle.ep_theory.specs.Plans.{after}
use Rattle.ep_theory.proofs.CallerLemmas.{after_state}

all_change : {A : Type 0} (P Q : A → Type 0) → ((x : A) → P x → Q x) → (xs : List A) → AllByRecursion P xs → AllByRecursion Q xs
all_change P Q f [] h = tt
all_change P Q f (x ∷ xs) h = (f x h.0, all_change P Q f xs h.1)

module _ (S R : Kripke) (agents : S.agents ≡ R.agents) (atoms : S.atoms ≡ R.atoms) where
  pub formula_fits : (f : Node) → Fits S f → Fits R f
  formula_fits f h = subst (λ n. IsTrue (fits_in R.agents n f)) atoms (subst (λ n. IsTrue (fits_in n S.atoms f)) agents h)

  set_fits : (set : ℕ × Node) → SetFits S set → SetFits R set
  set_fits set h = (subst (λ n. set.0 < n) atoms h.0, formula_fits set.1 h.1)

  event_fits : (event : Event) → EventFits S event → EventFits R event
  event_fits event h = record { pre = formula_fits event.pre h.pre; sets = all_change (SetFits S) (SetFits R) set_fits event.sets h.sets }

  pub action_fits : (A : EventModel) → ActionFits S A → ActionFits R A
  action_fits A h = record { agents = h.agents ∙ agents; events = all_change (EventFits S) (EventFits R) event_fits A.events h.events }

pub goal_fits : (T : PlanningTask) (p : List ActionId) (S : Kripke) (f : Node) → IsPlanningTask T → after T p ≡ Some S → f ≡ T.goal → Fits S f
goal_fits T p S f t h e =
    let among = after_state T p S t h in
    subst (Fits S) (sym e) (formula_fits T.initial S (sym among.1) (sym among.2) T.goal t.goal)
