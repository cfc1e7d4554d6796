-- A plan that is stuck at a step leaves no state.
use Rattle.std.proofs.Common.{◌≡◌, ℕ, zero, suc, List, [], ◌∷◌, take, slice_get, Option, Some, None, option_and_then, refl, sym, ap, ◌∙◌, subst}
use Rattle.std.proofs.lemmas.Option.{same_Some, none-some}
use Rattle.ep_logic.specs.declared.ids.ActionId.{ActionId}
use Rattle.ep_theory.specs.Kripke.{Kripke}
use Rattle.ep_theory.specs.Events.{EventModel}
use Rattle.ep_theory.specs.Product.{IsApplicable}
use Rattle.ep_update.specs.declared.update.Size.{Size}
use Rattle.ep_theory.specs.PlanningTask.{PlanningTask, IsPlanningTask}
use Rattle.ep_theory.specs.Plans.{step, after_from, after}
use Rattle.ep_theory.proofs.CallerLemmas.{step_none, after_state}
use Rattle.ep_plan.specs.declared.runs.Outcome.TheVariants.{Stuck}
use Rattle.ep_plan.specs.Runs.{RunUnder}

-- the first step of a run that ends
first_step : (f : Kripke → Option Kripke) (o : Option Kripke) (R : Kripke) → option_and_then f o ≡ Some R → (Q : Kripke) × (o ≡ Some Q) × (f Q ≡ Some R)
first_step f None R h = absurd (none-some R h)
first_step f (Some Q) R h = (Q, refl, h)

ends : (T : PlanningTask) (p : List ActionId) (n : ℕ) (S R : Kripke) (a : ActionId) → after_from T S (take n p) ≡ Some R → slice_get p n ≡ Some a → step T R a ≡ None → after_from T S p ≡ None
ends T [] n S R a h listed none = absurd (none-some a listed)
ends T (b ∷ p) zero S R a h listed none =
    ap (option_and_then (λ Q. after_from T Q p))
    (ap (λ Q. step T Q b) (same_Some S R h) ∙ ap (step T R) (same_Some b a listed) ∙ none)
ends T (b ∷ p) (suc n) S R a h listed none =
    let first = first_step (λ Q. after_from T Q (take n p)) (step T S b) R h in
    ap (option_and_then (λ Q. after_from T Q p)) first.1 ∙ ends T p n first.0 R a first.2 listed none

pub stuck_ends : (T : PlanningTask) (p : List ActionId) (size : Size) (k : ℕ) → IsPlanningTask T → RunUnder T p size (Stuck k) → after T p ≡ None
stuck_ends T p size k t x =
    ends T p x.before T.initial x.state x.next.place x.next.leaves x.next.listed
    ((step_none T x.state x.next.place (after_state T (take x.before p) x.state t x.next.leaves).0).1 unmet)
  where
    unmet : (A : EventModel) → slice_get T.actions x.next.place.n ≡ Some A → IsApplicable x.state A → ⊥
    unmet A at fits = x.reason (subst (IsApplicable x.state) (same_Some A x.action (sym at ∙ x.next.action)) fits)
