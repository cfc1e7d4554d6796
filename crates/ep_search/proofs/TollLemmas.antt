-- What plans measure, action by action.
use Rattle.std.proofs.Common.{◌≡◌, ℕ, zero, suc, ◌+◌, ◌<◌, ◌≤◌, List, [], ◌∷◌, ◌++◌, map, length, get_or, Option, Some, None, option_and_then, refl, sym, subst, arith}
use Rattle.std.specs.List.{AllByRecursion}
use Rattle.std.proofs.lemmas.List.Sums.{sum_by-cons}
use Rattle.std.proofs.lemmas.Option.{none-some, slice_get_within}
use Rattle.ep_bounds.specs.declared.bounds.Measure.{Measure}
use Rattle.ep_bounds.specs.declared.bounds.Measure.TheVariants.{Length, Cost}
use Rattle.ep_logic.specs.declared.ids.ActionId.{ActionId}
use Rattle.ep_theory.specs.Kripke.{Kripke, IsState}
use Rattle.ep_theory.specs.PlanningTask.{PlanningTask, IsPlanningTask}
use Rattle.ep_theory.specs.Plans.{step, after_from, cost_at, weight, Reaches}
use Rattle.ep_theory.proofs.CallerLemmas.{product-is_state, step_action, step_some}
use Rattle.ep_search.specs.Tolls.{toll_of}

pub weight_nil : (T : PlanningTask) (m : Measure) → weight T m [] ≡ 0
weight_nil T Length = refl
weight_nil T Cost = refl

pub weight_cons : (T : PlanningTask) (m : Measure) (a : ActionId) (p : List ActionId) → weight T m (a ∷ p) ≡ toll_of T m a + weight T m p
weight_cons T Length a p = omega arith
weight_cons T Cost a p = sum_by-cons (λ x. x) (cost_at T a) (map (cost_at T) p)

pub weight_snoc : (T : PlanningTask) (m : Measure) (p : List ActionId) (a : ActionId) → weight T m (p ++ a ∷ []) ≡ weight T m p + toll_of T m a
weight_snoc T m [] a = omega (arith, weight_cons T m a [], weight_nil T m)
weight_snoc T m (x ∷ p) a = omega (arith, weight_cons T m x (p ++ a ∷ []), weight_cons T m x p, weight_snoc T m p a)

least_at : (xs : List ℕ) (i : ℕ) → AllByRecursion (λ cost. 1 ≤ cost) xs → i < length xs → 1 ≤ get_or xs i 0
least_at [] i h lt = absurd (omega (arith, lt))
least_at (x ∷ xs) zero h lt = h.0
least_at (x ∷ xs) (suc i) h lt = least_at xs i h.1 (omega (arith, lt))

-- each action of the task has a toll of at least 1
pub toll_some : (T : PlanningTask) → IsPlanningTask T → (m : Measure) (a : ActionId) → a.n < length T.actions → 1 ≤ toll_of T m a
toll_some T t Length a lt = omega arith
toll_some T t Cost a lt = least_at T.costs a.n t.costs (omega (arith, lt, t.costed))

first_of : (f : Kripke → Option Kripke) (o : Option Kripke) (x : Kripke) → option_and_then f o ≡ Some x → (R : Kripke) × (o ≡ Some R) × (f R ≡ Some x)
first_of f None x h = absurd (none-some x h)
first_of f (Some R) x h = (R, refl, h)

-- the task has the action
abbrev pub IsTaskAction : PlanningTask → ActionId → Type 0
IsTaskAction T a = a.n < length T.actions

known_from : (T : PlanningTask) → IsPlanningTask T → (p : List ActionId) (S R : Kripke) → IsState S → after_from T S p ≡ Some R → AllByRecursion (IsTaskAction T) p
known_from T t [] S R s h = tt
known_from T t (a ∷ p) S R s h =
    let first = first_of (λ Q. after_from T Q p) (step T S a) R h in
    let made = (step_some T S first.0 a s).0 first.1 in
    let next : IsState first.0 = subst IsState (sym made.3) (product-is_state S made.0 s (step_action T t a made.0 made.1) made.2) in
    (slice_get_within T.actions a.n made.0 made.1, known_from T t p first.0 R next first.2)

-- the task has the actions of a plan that reaches the goal
pub reaches_known : (T : PlanningTask) → IsPlanningTask T → (p : List ActionId) → Reaches T p → AllByRecursion (IsTaskAction T) p
reaches_known T t p r = known_from T t p T.initial r.state t.initial r.is_after

-- they are at most what the plan measures
pub length_within : (T : PlanningTask) → IsPlanningTask T → (m : Measure) (p : List ActionId) → AllByRecursion (IsTaskAction T) p → length p ≤ weight T m p
length_within T t m [] h = omega arith
length_within T t m (a ∷ p) h = omega (arith, weight_cons T m a p, toll_some T t m a h.0, length_within T t m p h.1)
