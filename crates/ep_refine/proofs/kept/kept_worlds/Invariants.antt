use Rattle.std.proofs.Common.{◌≡◌, map}
use Rattle.std.specs.List.{range_with_len}
use Rattle.ep_refine.specs.Kept.{kept_below, kept_before}
use Rattle.ep_refine.proofs.kept.kept_worlds.Given as goal

abbrev pub invariant-loop-w : goal.invariant-loop-w
invariant-loop-w l =
    record {
      worlds : l.worlds.items ≡ kept_below l.keep l.w;
      numbers : l.numbers.items ≡ map (kept_before l.keep) (range_with_len 0 l.w);
    }
