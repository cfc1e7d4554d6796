use Rattle.std.proofs.Common.{◌≡◌, ◌≤◌, ◌*◌, vec_len, length}
use Rattle.ep_logic.specs.Numbers.{table}
use Rattle.ep_update.specs.Places.{labelled_pairs}
use Rattle.ep_update.proofs.places.find_places.Given as goal

abbrev pub invariant-loop-w : goal.invariant-loop-w
invariant-loop-w l = record {
  list : l.list.items ≡ labelled_pairs l.rows l.w;
  firsts : l.firsts.items ≡ table (λ w. length (labelled_pairs l.rows w)) l.w;
  few : vec_len l.list ≤ 16 * l.w;
}
