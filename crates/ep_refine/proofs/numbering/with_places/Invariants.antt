use Rattle.std.proofs.Common.{◌≡◌, length, map}
use Rattle.std.specs.List.{range_with_len}
use Rattle.ep_refine.proofs.numbering.with_places.Given as goal

abbrev pub invariant-loop-key : goal.invariant-loop-key
invariant-loop-key g l =
    record {
      can : (goal.iterator-loop-key g).can_next l.key-iterator;
      ends : (goal.iterator-loop-key g).is_finite l.key-iterator;
      keys : map (λ x. x.key) l.items.items ≡ l.yielded;
      worlds : map (λ x. x.world) l.items.items ≡ range_with_len 0 (length l.yielded);
    }
