-- What a plan of a ground task costs.
use Rattle.std.proofs.Common.{ℕ, zero, suc, ◌*◌, ◌≤◌, ◌<◌, List, [], ◌∷◌, length, get_or, All, subst, arith}
use Rattle.std.specs.List.{AllByRecursion}
use Rattle.std.proofs.lemmas.List.Elements.{All-head, All-tail}
use Rattle.std.proofs.lemmas.List.Sums.{sum-map, sum_by-le}
use Rattle.ep_bounds.specs.declared.bounds.Measure.TheVariants.{Cost}
use Rattle.ep_bounds.specs.declared.bounds.TheConstants.{MOST_COST}
use Rattle.ep_logic.specs.declared.ids.ActionId.{ActionId}
use Rattle.ep_theory.specs.PlanningTask.{PlanningTask}
use Rattle.ep_tree.specs.declared.tree.TaskTree.{TaskTree}
use Rattle.ep_tree.specs.Grammar.{IsRead}
use Rattle.ep_types.specs.Tasks.{declarations}
use Rattle.ep_schema.proofs.CallerLemmas.{costs_most}
use Rattle.ep_theory.specs.Plans.{cost_at, weight}
use Rattle.ep_ground.specs.Grounding.{IsNamed, task_of}
use Rattle.ep_ground.specs.Task.{GroundTask}

-- ---- the actions of a plan are those of the problem

each : {A : Type 0} (P : A → Type 0) (xs : List A) → All P xs → AllByRecursion P xs
each P [] h = tt
each P (x ∷ xs) h = (All-head P x xs h, each P xs (All-tail P x xs h))

pub of_problem : (g : GroundTask) (plan : List ActionId) → IsNamed g → All (λ a. a.n < length g.actions) plan → AllByRecursion (λ a. a.n < length g.problem.actions) plan
of_problem g plan named h = each (λ (a : ActionId). a.n < length g.problem.actions) plan (subst (λ n. All (λ (a : ActionId). a.n < n) plan) named.actions h)

-- ---- how much it is at most

most_at : (costs : List ℕ) (i : ℕ) → AllByRecursion (λ cost. cost ≤ MOST_COST) costs → get_or costs i 0 ≤ MOST_COST
most_at [] i h = omega arith
most_at (cost ∷ costs) zero h = h.0
most_at (cost ∷ costs) (suc i) h = most_at costs i h.1

weight_most : (T : PlanningTask) (plan : List ActionId) → AllByRecursion (λ cost. cost ≤ MOST_COST) T.costs → weight T Cost plan ≤ 100 * length plan
weight_most T plan h =
    omega (arith, sum-map (cost_at T) plan, sum_by-le (cost_at T) 100 plan (λ k d l. most_at T.costs (get_or plan k d).n h))

pub cost_most : (t : TaskTree) (plan : List ActionId) → IsRead t → weight (task_of t).problem Cost plan ≤ 100 * length plan
cost_most t plan read = weight_most (task_of t).problem plan (costs_most (declarations t) t.schemas read.formed.5)
