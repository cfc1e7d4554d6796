use Rattle.std.proofs.Common.{◌<◌, ◌≤◌, length, slice_index}
use Rattle.ep_refine.specs.Touching.{Listed, Adds}
use Rattle.ep_refine.proofs.leaving.note_places.Given as goal

abbrev pub invariant-loop-p : goal.invariant-loop-p
invariant-loop-p l = record {
  listed : Listed (length l.initial.left) l.left l.moved.items;
  adds : Adds (λ u. (u < length l.b.order.items) × (l.from ≤ slice_index l.b.place.items u) × (slice_index l.b.place.items u < l.p)) l.initial.moved.items l.moved.items;
}
