use Rattle.std.proofs.Common.{◌≡◌, ℕ, ◌<◌, length, slice_index_or}
use Rattle.ep_theory.specs.Kripke.{links_of}
use Rattle.ep_refine.specs.declared.backward.Backward.{Backward}
use Rattle.ep_refine.specs.Backward.{IsShaped, LeadsBack}
use Rattle.ep_refine.proofs.backward.all_backward.Given as goal

abbrev pub invariant-loop-a : goal.invariant-loop-a
invariant-loop-a l = record {
  one_each : length l.all ≡ l.a;
  shaped : (b : ℕ) (d : Backward) → b < l.a → IsShaped l.s.worlds (slice_index_or l.all b d);
  back : (b : ℕ) (d : Backward) → b < l.a → LeadsBack (links_of l.s b) (slice_index_or l.all b d);
}
