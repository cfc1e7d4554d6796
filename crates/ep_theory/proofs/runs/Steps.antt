-- What one step leads to.
use Rattle.std.proofs.Common.{◌≡◌, ℕ, zero, suc, ◌↔◌, List, [], ◌∷◌, Option, Some, None, slice_get, option_and_then, refl, sym, ap, ◌∙◌, subst}
use Rattle.std.proofs.lemmas.Option.{same_Some, none-some}
use Rattle.std.specs.List.{AllByRecursion}
use Rattle.ep_logic.specs.declared.ids.ActionId.{ActionId}
use Rattle.ep_theory.specs.Kripke.{Kripke, IsState}
use Rattle.ep_theory.specs.Events.{EventModel, IsAction}
use Rattle.ep_theory.specs.Product.{IsApplicable, stuck_world, product_of}
use Rattle.ep_theory.specs.Bisimulation.{Bisimilar}
use Rattle.ep_theory.proofs.actions.ProductLaws.{stuck_none}
use Rattle.ep_theory.proofs.actions.ProductLemmas.{product-is_state, products_bisimilar, applicable_alike}
use Rattle.ep_theory.specs.PlanningTask.{PlanningTask, IsPlanningTask}
use Rattle.ep_theory.specs.Plans.{step, product_unless}

pub all_get : {A : Type 0} (P : A → Type 0) (xs : List A) (i : ℕ) (x : A) → AllByRecursion P xs → slice_get xs i ≡ Some x → P x
all_get P [] i x all h = absurd (none-some x h)
all_get P (y ∷ ys) zero x all h = subst P (same_Some y x h) all.0
all_get P (y ∷ ys) (suc i) x all h = all_get P ys i x all.1 h

product_unless-some : (o : Option ℕ) (S : Kripke) (A : EventModel) (R : Kripke) → product_unless o S A ≡ Some R → (o ≡ None) × (R ≡ product_of S A)
product_unless-some None S A R h = (refl, sym (same_Some (product_of S A) R h))
product_unless-some (Some w) S A R h = absurd (none-some R h)

abbrev step_by : Kripke → Option EventModel → Option Kripke
step_by S o = option_and_then (λ A. product_unless (stuck_world S A) S A) o

step_is : (T : PlanningTask) (S : Kripke) (a : ActionId) → step T S a ≡ step_by S (slice_get T.actions a.n)
unfolding step
step_is T S a = refl

-- an action that is applicable in S, and what it leads to
abbrev pub Applied : Kripke → Option EventModel → Kripke → Type 0
Applied S o R = (A : EventModel) × (o ≡ Some A) × IsApplicable S A × (R ≡ product_of S A)

from_step_by : (S R : Kripke) (o : Option EventModel) → IsState S → step_by S o ≡ Some R → Applied S o R
from_step_by S R None s h = absurd (none-some R h)
from_step_by S R (Some A) s h =
    let p = product_unless-some (stuck_world S A) S A R h in
    (A, refl, (stuck_none S A s).0 p.0, p.1)

to_step_by : (S R : Kripke) (o : Option EventModel) → IsState S → Applied S o R → step_by S o ≡ Some R
to_step_by S R o s m = ap (step_by S) m.1 ∙ ap (λ w. product_unless w S m.0) ((stuck_none S m.0 s).1 m.2) ∙ ap Some (sym m.3)

pub step_some : (T : PlanningTask) (S R : Kripke) (a : ActionId) → IsState S → (step T S a ≡ Some R) ↔ Applied S (slice_get T.actions a.n) R
step_some T S R a s = (
  (λ h. from_step_by S R (slice_get T.actions a.n) s (sym (step_is T S a) ∙ h)),
  (λ m. step_is T S a ∙ to_step_by S R (slice_get T.actions a.n) s m),
)

-- no action stands here that is applicable
abbrev pub NothingApplies : Kripke → Option EventModel → Type 0
NothingApplies S o = (A : EventModel) → o ≡ Some A → IsApplicable S A → ⊥

stuck : (S : Kripke) (A : EventModel) (w : Option ℕ) → IsState S → stuck_world S A ≡ w → (IsApplicable S A → ⊥) → product_unless w S A ≡ None
stuck S A None s e never = absurd (never ((stuck_none S A s).0 e))
stuck S A (Some w) s e never = refl

none_by : (S : Kripke) (o : Option EventModel) → IsState S → NothingApplies S o → step_by S o ≡ None
none_by S None s never = refl
none_by S (Some A) s never = stuck S A (stuck_world S A) s refl (never A refl)

pub step_none : (T : PlanningTask) (S : Kripke) (a : ActionId) → IsState S → (step T S a ≡ None) ↔ NothingApplies S (slice_get T.actions a.n)
step_none T S a s = (
  (λ h A at fits. none-some (product_of S A) (sym h ∙ (step_some T S (product_of S A) a s).1 (A, at, fits, refl))),
  (λ never. step_is T S a ∙ none_by S (slice_get T.actions a.n) s never),
)

-- a step does not look at the initial state
pub step-initial : (T : PlanningTask) (I S : Kripke) (a : ActionId) → step (record T { initial = I }) S a ≡ step T S a
unfolding step
step-initial T I S a = refl

-- the action of a step
pub step_action : (T : PlanningTask) → IsPlanningTask T → (a : ActionId) (A : EventModel) → slice_get T.actions a.n ≡ Some A → IsAction A
step_action T t a A at = all_get IsAction T.actions a.n A t.actions at

-- a step from a state leads to a state with its agents and atoms
pub step_state : (T : PlanningTask) → IsPlanningTask T → (S R : Kripke) (a : ActionId) → IsState S → step T S a ≡ Some R → IsState R × (R.agents ≡ S.agents) × (R.atoms ≡ S.atoms)
step_state T t S R a s h =
    let m = (step_some T S R a s).0 h in (
      subst IsState (sym m.3) (product-is_state S m.0 s (step_action T t a m.0 m.1) m.2),
      ap (λ (Q : Kripke). Q.agents) m.3,
      ap (λ (Q : Kripke). Q.atoms) m.3,
    )

-- steps from bisimilar states lead to bisimilar states
pub step_alike : (T : PlanningTask) → IsPlanningTask T → (S R U : Kripke) (a : ActionId) → IsState S → IsState R → Bisimilar S R → step T S a ≡ Some U → (V : Kripke) × (step T R a ≡ Some V) × Bisimilar U V
step_alike T t S R U a s r b h =
    let m = (step_some T S U a s).0 h in (
      product_of R m.0,
      (step_some T R (product_of R m.0) a r).1 (m.0, m.1, applicable_alike S R m.0 b m.2, refl),
      subst (λ W. Bisimilar W (product_of R m.0)) (sym m.3) (products_bisimilar S R m.0 s r (step_action T t a m.0 m.1) b),
    )
