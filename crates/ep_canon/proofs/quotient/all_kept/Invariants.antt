use Rattle.std.proofs.Common.{◌≡◌, ℕ, ◌<◌, true, false, length, slice_index_or}
use Rattle.ep_canon.proofs.quotient.all_kept.Given as goal

abbrev pub invariant-loop-w : goal.invariant-loop-w
invariant-loop-w l =
    record {
      long : length l.row ≡ l.count;
      set : (v : ℕ) → v < l.w → slice_index_or l.row v false ≡ true;
    }
