-- What the run of a plan leaves.
use Rattle.std.proofs.Common.{◌≡◌, ◌≤◌, ◌<◌, ◌+◌, ℕ, suc, get_or, List, [], ◌∷◌, ◌++◌, length, take, Some, refl, sym, ap, ◌∙◌, subst, arith}
use Rattle.std.specs.List.{AllByRecursion}
use Rattle.std.proofs.lemmas.Option.{same_Some, slice_get_within, get_or_from_slice_get}
use Rattle.std.proofs.lemmas.List.{take_more, take_all}
use Rattle.ep_logic.specs.declared.ids.ActionId.{ActionId}
use Rattle.ep_theory.specs.Kripke.{Kripke}
use Rattle.ep_theory.specs.Product.{product_of}
use Rattle.ep_theory.specs.PlanningTask.{PlanningTask, IsPlanningTask, IsSmall}
use Rattle.ep_theory.specs.Plans.{after}
use Rattle.ep_theory.proofs.CallerLemmas.{step_some, after-snoc, after_state}
use Rattle.ep_plan.specs.Runs.{AreOf, IsMade, RunUnder}
use Rattle.ep_plan.specs.declared.runs.Outcome.{Outcome}
use Rattle.ep_plan.specs.declared.runs.Outcome.TheVariants.{After}
use Rattle.ep_ground.specs.Task.{GroundTask}
use Rattle.ep_ground.specs.Grounding.{IsNamed}
use Rattle.ep_reading.specs.PlanFile.{run_size, AreItsActions}
use Rattle.ep_reading.specs.Steps.{IsLeft}

-- ---- the actions of a plan

by_recursion : {A : Type 0} (P : A → Type 0) (xs : List A) → ((k : ℕ) (d : A) → k < length xs → P (get_or xs k d)) → AllByRecursion P xs
by_recursion P [] h = tt
by_recursion P (x ∷ xs) h = (h 0 x (omega arith), by_recursion P xs (λ k d l. h (suc k) d (omega (arith, l))))

pub actions_of_problem : (g : GroundTask) (plan : List ActionId) → length g.actions ≡ length g.problem.actions → AreItsActions g plan → AreOf g.problem plan
actions_of_problem g plan e h = by_recursion (λ (a : ActionId). a.n < length g.problem.actions) plan (λ k d l. let b = h k d l in omega (arith, b, e))

-- ---- the worlds of what is left

last_made : (T : PlanningTask) (p : List ActionId) (n : ℕ) (S : Kripke) → IsPlanningTask T → length p ≡ n + 1 → IsMade T p run_size n → after T p ≡ Some S → S.worlds ≤ 4096
last_made T p n S t e m leaves =
    let state = (after_state T (take n p) m.state t m.next.leaves).0 in
    let step = (step_some T m.state (product_of m.state m.action) m.next.place state).1 (m.action, m.next.action, m.applicable, refl) in
    let whole : take (n + 1) p ≡ p = take_all (n + 1) p (omega (arith, e)) in
    let longer : take (n + 1) p ≡ take n p ++ m.next.place ∷ [] =
    take_more p n m.next.place (slice_get_within p n m.next.place m.next.listed)
    ∙ ap (λ x. take n p ++ x ∷ []) (get_or_from_slice_get p n m.next.place m.next.place m.next.listed) in
    let product : after T p ≡ Some (product_of m.state m.action) = ap (after T) (sym whole ∙ longer) ∙ after-snoc T (take n p) m.next.place m.state (product_of m.state m.action) m.next.leaves step in
    let is : product_of m.state m.action ≡ S = same_Some (product_of m.state m.action) S (sym product ∙ leaves) in
    subst (λ (R : Kripke). R.worlds ≤ 4096) is m.within.worlds

small : (T : PlanningTask) (p : List ActionId) (n : ℕ) (S : Kripke) → length p ≡ n → IsPlanningTask T → T.initial.worlds ≤ 256 → RunUnder T p run_size (After S) → S.worlds ≤ 4096
small T [] n S e t w r = let is : T.initial ≡ S = same_Some T.initial S r.leaves in subst (λ (R : Kripke). R.worlds ≤ 4096) is (omega (arith, w))
small T (a ∷ p) n S e t w r = last_made T (a ∷ p) (length p) S t (omega arith) (r.made (length p) (omega arith)) r.leaves

-- the run's outcome, for the problem of the task
pub run_is : (g : GroundTask) (plan : List ActionId) (o out : Outcome) (T : PlanningTask) → T ≡ g.problem → RunUnder T plan run_size o → o ≡ out → RunUnder g.problem plan run_size out
run_is g plan o out T e run is = subst (λ (T : PlanningTask). RunUnder T plan run_size out) e (subst (RunUnder T plan run_size) is run)

pub left_of_run : (g : GroundTask) (plan : List ActionId) (o : Outcome) (S : Kripke) (T : PlanningTask) → IsNamed g → T ≡ g.problem → IsPlanningTask g.problem → IsSmall g.problem
    → RunUnder T plan run_size o → o ≡ After S → IsLeft g plan S
left_of_run g plan o S T named e valid few run is =
    let t = valid in
    let r : RunUnder g.problem plan run_size (After S) = run_is g plan o (After S) T e run is in
    let among = after_state g.problem plan S t r.leaves in
    record {
      run = r;
      worlds = small g.problem plan (length plan) S refl t few.worlds r;
      agents = among.1;
      atoms = among.2;
      named_agents = among.1 ∙ sym named.agents;
      named_atoms = among.2 ∙ sym named.atoms;
    }
