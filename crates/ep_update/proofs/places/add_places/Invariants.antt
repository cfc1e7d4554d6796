use Rattle.std.proofs.Common.{◌≡◌, ◌≤◌, ◌+◌, ◌++◌, map, vec_len}
use Rattle.ep_logic.specs.Numbers.{numbers_where}
use Rattle.ep_update.specs.Places.{is_labelled}
use Rattle.ep_update.proofs.places.add_places.Given as goal

abbrev pub invariant-loop-e : goal.invariant-loop-e
invariant-loop-e l = record {
  list : l.list.items ≡ l.fn.list.items ++ map (λ e. (l.w, e)) (numbers_where (is_labelled l.rows l.w) l.e);
  few : vec_len l.list ≤ vec_len l.fn.list + l.e;
}
