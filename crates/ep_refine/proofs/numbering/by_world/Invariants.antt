use Rattle.std.proofs.Common.{◌≡◌, ℕ, ◌<◌, length, get_or}
use Rattle.ep_refine.specs.declared.numbering.Keyed.{Keyed}
use Rattle.ep_refine.proofs.numbering.by_world.Given as goal

abbrev pub invariant-loop-i : goal.invariant-loop-i
invariant-loop-i g l =
    record {
      long : length l.found.items ≡ length l.places;
      put : (j : ℕ) (d : Keyed g.row.K.Denot) → j < l.i → get_or l.found.items (get_or l.places j d).world 0 ≡ get_or l.numbers j 0;
    }
