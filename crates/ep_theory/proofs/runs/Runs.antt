-- What lists of actions lead to.
use Rattle.std.proofs.Common.{◌≡◌, ◌↔◌, List, [], ◌∷◌, ◌++◌, Option, Some, None, option_and_then, refl, sym, ap, ◌∙◌, subst}
use Rattle.std.proofs.lemmas.Option.{same_Some, none-some}
use Rattle.ep_logic.specs.declared.ids.ActionId.{ActionId}
use Rattle.ep_theory.specs.Kripke.{Kripke, IsState}
use Rattle.ep_theory.specs.Bisimulation.{Bisimilar}
use Rattle.ep_theory.proofs.states.Equivalence.{bisimilar_sym}
use Rattle.ep_theory.proofs.formulas.SameTruth.{same_at_all}
use Rattle.ep_theory.specs.PlanningTask.{PlanningTask, IsPlanningTask}
use Rattle.ep_theory.specs.Plans.{step, after_from, after, Reaches}
use Rattle.ep_theory.specs.Truth.{Satisfies}
use Rattle.ep_theory.proofs.runs.Steps.{step-initial, step_state, step_alike}

and_then_Some : {A : Type 0} (o : Option A) → option_and_then (λ x. Some x) o ≡ o
and_then_Some None = refl
and_then_Some (Some x) = refl

and_then_twice : {A B C : Type 0} (f : A → Option B) (g : B → Option C) (k : A → Option C) → ((x : A) → k x ≡ option_and_then g (f x)) → (o : Option A) → option_and_then k o ≡ option_and_then g (option_and_then f o)
and_then_twice f g k h None = refl
and_then_twice f g k h (Some x) = h x

pub after_from-snoc : (T : PlanningTask) (p : List ActionId) (S : Kripke) (a : ActionId) → after_from T S (p ++ a ∷ []) ≡ option_and_then (λ R. step T R a) (after_from T S p)
after_from-snoc T [] S a = and_then_Some (step T S a)
after_from-snoc T (b ∷ p) S a = and_then_twice (λ R. after_from T R p) (λ R. step T R a) (λ R. after_from T R (p ++ a ∷ [])) (λ R. after_from-snoc T p R a) (step T S b)

pub after-snoc : (T : PlanningTask) (p : List ActionId) (a : ActionId) (S R : Kripke) → after T p ≡ Some S → step T S a ≡ Some R → after T (p ++ a ∷ []) ≡ Some R
after-snoc T p a S R h k = after_from-snoc T p T.initial a ∙ ap (option_and_then (λ Q. step T Q a)) h ∙ k

-- the first step of a run that ends
pub first_step : {A : Type 0} (f : Kripke → Option A) (o : Option Kripke) (x : A) → option_and_then f o ≡ Some x → (R : Kripke) × (o ≡ Some R) × (f R ≡ Some x)
first_step f None x h = absurd (none-some x h)
first_step f (Some R) x h = (R, refl, h)

-- a state with the agents and atoms of S
abbrev Among : Kripke → Kripke → Type 0
Among S R = IsState R × (R.agents ≡ S.agents) × (R.atoms ≡ S.atoms)

after_from_state : (T : PlanningTask) → IsPlanningTask T → (p : List ActionId) (S R : Kripke) → IsState S → after_from T S p ≡ Some R → Among S R
after_from_state T t [] S R s h = subst (Among S) (same_Some S R h) (s, refl, refl)
after_from_state T t (a ∷ p) S R s h =
    let first = first_step (λ Q. after_from T Q p) (step T S a) R h in
    let one = step_state T t S first.0 a s first.1 in
    let rest = after_from_state T t p first.0 R one.0 first.2 in
    (rest.0, rest.1 ∙ one.1, rest.2 ∙ one.2)

pub after_state : (T : PlanningTask) (p : List ActionId) (S : Kripke) → IsPlanningTask T → after T p ≡ Some S → IsState S × (S.agents ≡ T.initial.agents) × (S.atoms ≡ T.initial.atoms)
after_state T p S t h = after_from_state T t p T.initial S t.initial h

runs : (T : PlanningTask) → IsPlanningTask T → (p : List ActionId) (S R Q : Kripke) → IsState S → IsState R → Bisimilar S R → after_from T S p ≡ Some Q → (P : Kripke) × (after_from T R p ≡ Some P) × Bisimilar Q P
runs T t [] S R Q s r b h = (R, refl, subst (λ U. Bisimilar U R) (same_Some S Q h) b)
runs T t (a ∷ p) S R Q s r b h =
    let first = first_step (λ U. after_from T U p) (step T S a) Q h in
    let other = step_alike T t S R first.0 a s r b first.1 in
    let rest = runs T t p first.0 other.0 Q (step_state T t S first.0 a s first.1).0 (step_state T t R other.0 a r other.1).0 other.2 first.2 in
    (rest.0, ap (option_and_then (λ U. after_from T U p)) other.1 ∙ rest.1, rest.2)

pub runs_alike : (T : PlanningTask) (S R : Kripke) (p : List ActionId) (Q : Kripke) → IsPlanningTask T → IsState S → IsState R → Bisimilar S R → after_from T S p ≡ Some Q → (P : Kripke) × (after_from T R p ≡ Some P) × Bisimilar Q P
runs_alike T S R p Q t s r b h = runs T t p S R Q s r b h

-- a run does not look at the task's initial state
after_from-initial : (T : PlanningTask) (I : Kripke) (p : List ActionId) (S : Kripke) → after_from (record T { initial = I }) S p ≡ after_from T S p
after_from-initial T I [] S = refl
after_from-initial T I (a ∷ p) S =
    ap (option_and_then (λ R. after_from (record T { initial = I }) R p)) (step-initial T I S a)
    ∙ same (λ R. after_from (record T { initial = I }) R p) (λ R. after_from T R p) (λ R. after_from-initial T I p R) (step T S a)
  where
    same : {A B : Type 0} (f g : A → Option B) → ((x : A) → f x ≡ g x) → (o : Option A) → option_and_then f o ≡ option_and_then g o
    same f g h None = refl
    same f g h (Some x) = h x

pub Satisfies-Bisimilar : (S R : Kripke) → Bisimilar S R → (T : PlanningTask) → Satisfies S T.goal → Satisfies R T.goal
Satisfies-Bisimilar S R b T h = (same_at_all S R b T.goal).0 h

reach : (T : PlanningTask) (S R Q : Kripke) (p : List ActionId) → IsPlanningTask T → IsState S → IsState R → Bisimilar S R → after_from T S p ≡ Some Q → Satisfies Q T.goal
    → (P : Kripke) × (after_from T R p ≡ Some P) × Satisfies P T.goal
reach T S R Q p t s r b h goal =
    let other = runs T t p S R Q s r b h in
    (other.0, other.1, Satisfies-Bisimilar Q other.0 other.2 T goal)

pub solved_alike : (T : PlanningTask) (S : Kripke) (p : List ActionId) → IsPlanningTask T → IsState S → Bisimilar T.initial S → Reaches T p ↔ Reaches (record T { initial = S }) p
solved_alike T S p t s b = (
  (λ r.
      let m = reach T T.initial S r.state p t t.initial s b r.is_after r.goal in
      record { state = m.0; is_after = after_from-initial T S p S ∙ m.1; goal = m.2 }),
  (λ r.
      let m = reach T S T.initial r.state p t s t.initial (bisimilar_sym b) (sym (after_from-initial T S p S) ∙ r.is_after) r.goal in
      record { state = m.0; is_after = m.1; goal = m.2 }),
)
