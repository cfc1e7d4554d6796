use Rattle.std.proofs.Common.{◌≡◌, ℕ, ◌<◌, false, length, take, slice_index_or}
use Rattle.ep_logic.specs.Numbers.{has_number}
use Rattle.ep_logic.proofs.bits.Bits.from_places.Given as goal

abbrev pub invariant-loop-place : goal.invariant-loop-place
invariant-loop-place l = record {
  long : length l.row ≡ l.len;
  each : (i : ℕ) → i < l.len → slice_index_or l.row i false ≡ has_number (take l.place-index l.places) i;
}
