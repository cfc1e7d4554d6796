-- The cost of one more action.
use Rattle.std.proofs.Common.{◌≡◌, ℕ, ◌+◌, ◌<◌, List, length, take, get_or, slice_get, Some, sym, ◌∙◌, ap₂}
use Rattle.std.proofs.lemmas.List.Sums.{sum-map, sum_by_more}
use Rattle.std.proofs.lemmas.Option.{get_or_from_slice_get}
use Rattle.ep_bounds.specs.declared.bounds.Measure.TheVariants.{Cost}
use Rattle.ep_logic.specs.declared.ids.ActionId.{ActionId}
use Rattle.ep_theory.specs.PlanningTask.{PlanningTask}
use Rattle.ep_theory.specs.Plans.{cost_at, weight}

pub cost_more : (T : PlanningTask) (p : List ActionId) (i : ℕ) (a : ActionId) (cost : ℕ) → i < length p → slice_get T.costs (get_or p i a).n ≡ Some cost → weight T Cost (take (i + 1) p) ≡ weight T Cost (take i p) + cost
cost_more T p i a cost l h =
    sum-map (cost_at T) (take (i + 1) p) ∙ sum_by_more (cost_at T) p i a l
    ∙ ap₂ (λ m n. m + n) (sym (sum-map (cost_at T) (take i p))) (get_or_from_slice_get T.costs (get_or p i a).n cost 0 h)
