use Rattle.std.proofs.Common.{◌≡◌, ℕ, ◌<◌, length, slice_index}
use Rattle.ep_canon.specs.Quotient.{StandFor}
use Rattle.ep_canon.proofs.quotient.one_of_each.Given as goal

abbrev pub invariant-loop-w : goal.invariant-loop-w
invariant-loop-w l =
    record {
      long : length l.chosen.items ≡ l.count;
      each : (v : ℕ) → v < l.w → StandFor l.classes l.chosen.items (slice_index l.classes v);
    }
