use Rattle.std.proofs.Common.{◌≡◌, ℕ, ◌<◌, ◌≤◌, length, slice_index}
use Rattle.ep_refine.specs.Groups.{IsWithin}
use Rattle.ep_refine.specs.Columns.{HasSlot}
use Rattle.ep_refine.proofs.columns.first_worlds.Given as goal

abbrev pub invariant-loop-w : goal.invariant-loop-w
invariant-loop-w l = record {
  long : length l.slots.items ≡ length l.initial.slots.items;
  few : length l.firsts.items ≤ l.w-index;
  firsts : IsWithin (length l.names) l.firsts.items;
  slots : (k : ℕ) → k < l.w-index → HasSlot l.names l.slots.items l.firsts.items (slice_index l.names (slice_index l.worlds k));
}
