use Rattle.std.proofs.Common.{◌≡◌, ◌≤◌, ◌+◌, drop, count_by}
use Rattle.ep_logic.specs.Rows.{value_at}
use Rattle.ep_question.proofs.one_plan.count_true_places.Given as goal

abbrev pub invariant-loop-place : goal.invariant-loop-place
invariant-loop-place l = record {
  few : l.count ≤ l.place-index;
  rest : l.count + count_by (value_at l.row) (drop l.place-index l.places) ≡ count_by (value_at l.row) l.places;
}
