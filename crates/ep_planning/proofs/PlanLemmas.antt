-- Answers of the search as answers of planning.
use Rattle.std.proofs.Common.{◌≡◌, ◌<◌, ◌≤◌, ◌+◌, ℕ, zero, suc, All, Bool, List, [], ◌∷◌, length, map, sum, Option, Some, None, slice_get, slice_index_or, option_and_then, refl, subst, arith}
use Rattle.std.specs.List.{AllByRecursion}
use Rattle.std.proofs.lemmas.List.Sums.{sum_by-cons}
use Rattle.std.proofs.lemmas.Option.{none-some, slice_get_within}
use Rattle.ep_logic.specs.declared.ids.ActionId.{ActionId}
use Rattle.ep_theory.specs.Kripke.{Kripke}
use Rattle.ep_theory.specs.Product.{stuck_world}
use Rattle.ep_theory.specs.PlanningTask.{PlanningTask, IsPlanningTask}
use Rattle.ep_theory.specs.Plans.{step, product_unless, after_from, after, cost_at, weight}
use Rattle.ep_search.specs.Allowed.{Allowed}
use Rattle.ep_search.specs.declared.answer.Answer.{Answer as Found}
use Rattle.ep_search.specs.declared.answer.Answer.TheVariants as found
use Rattle.ep_bounds.specs.declared.bounds.Mode.{Mode}
use Rattle.ep_bounds.specs.declared.bounds.Bounds.{Bounds}
use Rattle.ep_bounds.specs.declared.bounds.Measure.{Measure}
use Rattle.ep_bounds.specs.declared.bounds.Measure.TheVariants.{Length, Cost}
use Rattle.ep_bounds.specs.declared.bounds.TheConstants.{MOST_BOUND}
use Rattle.ep_ground.specs.Task.{GroundTask}
use Rattle.ep_answer.specs.declared.status.Status.{Status}
use Rattle.ep_answer.specs.declared.answer.Answer.TheVariants.{OfSearch}
use Rattle.ep_answer.specs.declared.planned.Planned.TheVariants as planned
use Rattle.ep_plan_text.specs.PlanText.{plan_text}
use Rattle.ep_plan_text.specs.declared.print.Mark.{Mark}
use Rattle.ep_plan_text.specs.declared.print.Mark.TheVariants as mark
use Rattle.ep_reading.specs.PlanFile.{AreItsActions}
use Rattle.ep_planning.specs.Planning.{HasItsActions, IsPrintable, Plans, planned_of}
use Rattle.ep_reading.specs.Served.{Answers, Ending, answers}
use Rattle.ep_reading.proofs.CallerLemmas.{IsBehind, other_is_behind, answers_are}
use Rattle.ep_answer.specs.declared.status.Status.TheVariants as done

-- ---- the actions of a plan that leaves a state

first_step : {A B : Type 0} (f : A → Option B) (o : Option A) (x : B) → option_and_then f o ≡ Some x → (y : A) × (o ≡ Some y) × (f y ≡ Some x)
first_step f None x h = absurd (none-some x h)
first_step f (Some y) x h = (y, refl, h)

step_listed : (T : PlanningTask) (S R : Kripke) (a : ActionId) → step T S a ≡ Some R → a.n < length T.actions
unfolding step
step_listed T S R a h =
    let first = first_step (λ A. product_unless (stuck_world S A) S A) (slice_get T.actions a.n) R h in
    slice_get_within T.actions a.n first.0 first.1

all_more : {A : Type 0} (P : A → Type 0) (x : A) (xs : List A) → P x → All P xs → All P (x ∷ xs)
all_more P x xs p h zero d l = p
all_more P x xs p h (suc k) d l = h k d (omega (arith, l))

actions_of_run : (T : PlanningTask) (p : List ActionId) (S R : Kripke) → after_from T S p ≡ Some R → All (λ (a : ActionId). a.n < length T.actions) p
actions_of_run T [] S R h = λ k d l. absurd (omega (arith, l))
actions_of_run T (a ∷ p) S R h =
    let first = first_step (λ Q. after_from T Q p) (step T S a) R h in
    all_more (λ (a : ActionId). a.n < length T.actions) a p (step_listed T S first.0 a first.1) (actions_of_run T p first.0 R first.2)

actions_of_plan : (g : GroundTask) (p : List ActionId) (S : Kripke) → length g.actions ≡ length g.problem.actions → after g.problem p ≡ Some S → AreItsActions g p
actions_of_plan g p S e h = λ k d l. let below = actions_of_run g.problem p g.problem.initial S h k d l in omega (arith, below, e)

-- ---- a plan has no more actions than it measures

some_cost : (costs : List ℕ) (k : ℕ) → AllByRecursion (λ cost. 1 ≤ cost) costs → k < length costs → 1 ≤ slice_index_or costs k 0
some_cost [] k h l = absurd (omega (arith, l))
some_cost (x ∷ xs) zero h l = h.0
some_cost (x ∷ xs) (suc k) h l = some_cost xs k h.1 (omega (arith, l))

costs_count : (T : PlanningTask) → IsPlanningTask T → (p : List ActionId) (S R : Kripke) → after_from T S p ≡ Some R → length p ≤ weight T Cost p
costs_count T task [] S R h = omega arith
costs_count T task (a ∷ p) S R h =
    let first = first_step (λ Q. after_from T Q p) (step T S a) R h in
    let more : weight T Cost (a ∷ p) ≡ cost_at T a + weight T Cost p = sum_by-cons (λ x. x) (cost_at T a) (map (cost_at T) p) in
    let some = some_cost T.costs a.n task.costs (omega (arith, step_listed T S first.0 a first.1, task.costed)) in
    omega (arith, more, some, costs_count T task p first.0 R first.2)

measures_count : (T : PlanningTask) → IsPlanningTask T → (m : Measure) (p : List ActionId) (S R : Kripke) → after_from T S p ≡ Some R → length p ≤ weight T m p
measures_count T task Length p S R h = omega arith
measures_count T task Cost p S R h = costs_count T task p S R h

printable : (g : GroundTask) (b : Bounds) (p : List ActionId) (S : Kripke) → IsPlanningTask g.problem → b.bound ≤ MOST_BOUND → length g.actions ≡ length g.problem.actions
    → weight g.problem b.measure p ≤ b.bound → after g.problem p ≡ Some S → IsPrintable g p
printable g b p S task few e within h =
    (actions_of_plan g p S e h, omega (arith, few, within, measures_count g.problem task b.measure p g.problem.initial S h))

pub allowed_has_actions : (g : GroundTask) (b : Bounds) (m : Mode) (a : Found) → IsPlanningTask g.problem → b.bound ≤ MOST_BOUND → length g.actions ≡ length g.problem.actions
    → Allowed g.problem b m a → HasItsActions g a
allowed_has_actions g b m (found.Least p) task few e h = printable g b p h.1.reaches.state task few e h.1.within h.1.reaches.is_after
allowed_has_actions g b m (found.Found p) task few e h = printable g b p h.reaches.state task few e h.within h.reaches.is_after
allowed_has_actions g b m found.NoneTo task few e h = tt
allowed_has_actions g b m found.ManyStates task few e h = tt
allowed_has_actions g b m (found.Wide p) task few e h = actions_of_plan g p h.within.state e h.within.is_after

-- ---- answers of planning

pub plans_by : (bounds : Bounds) (m : Mode) (g : GroundTask) (a : Found) (o : Ending)
    → Allowed g.problem bounds m a → o ≡ answers (OfSearch (planned_of g bounds a)) → Plans bounds m g o
unfolding Plans
plans_by bounds m g a o h is = (a, h, is)

-- the text of a plan begins with its version, under either measure
plan_is_behind : (g : GroundTask) (m : Measure) (k : Mark) (p : List ActionId) (status : Status) (text : List ℕ)
    → Answers status text ≡ answers (OfSearch (planned.Plan (plan_text g m k p))) → IsBehind status text
plan_is_behind g Length k p status text e = answers_are status done.Ok text _ e (other_is_behind done.Ok _ tt (λ e. cc) (λ e. cc) refl)
plan_is_behind g Cost k p status text e = answers_are status done.Ok text _ e (other_is_behind done.Ok _ tt (λ e. cc) (λ e. cc) refl)

none_is_behind : (m : Measure) (bound : ℕ) (status : Status) (text : List ℕ) → Answers status text ≡ answers (OfSearch (planned.NoneTo m bound)) → IsBehind status text
none_is_behind Length bound status text e = answers_are status done.No text _ e (other_is_behind done.No _ tt (λ e. cc) (λ e. cc) refl)
none_is_behind Cost bound status text e = answers_are status done.No text _ e (other_is_behind done.No _ tt (λ e. cc) (λ e. cc) refl)

pub told_is_behind : (g : GroundTask) (b : Bounds) (a : Found) (status : Status) (text : List ℕ) → Answers status text ≡ answers (OfSearch (planned_of g b a)) → IsBehind status text
told_is_behind g b (found.Least p) status text e = plan_is_behind g b.measure mark.Least p status text e
told_is_behind g b (found.Found p) status text e = plan_is_behind g b.measure mark.Found p status text e
told_is_behind g b found.NoneTo status text e = none_is_behind b.measure b.bound status text e
told_is_behind g b found.ManyStates status text e = answers_are status done.Undecided text _ e (other_is_behind done.Undecided _ tt (λ e. cc) (λ e. cc) refl)
told_is_behind g b (found.Wide p) status text e = answers_are status done.Undecided text _ e (other_is_behind done.Undecided _ tt (λ e. cc) (λ e. cc) refl)

pub plans_is_behind : (bounds : Bounds) (m : Mode) (g : GroundTask) (status : Status) (text : List ℕ) → Plans bounds m g (Answers status text) → IsBehind status text
unfolding Plans
plans_is_behind bounds m g status text h = told_is_behind g bounds h.0 status text h.2
