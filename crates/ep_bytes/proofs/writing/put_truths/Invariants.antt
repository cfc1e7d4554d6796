use Rattle.std.proofs.Common.{◌≡◌, ◌++◌, take}
use Rattle.std.specs.List.{flat_map}
use Rattle.ep_bytes.specs.Bytes.{row_bytes}
use Rattle.ep_bytes.proofs.writing.put_truths.Given as goal

abbrev pub invariant-loop-w : goal.invariant-loop-w
invariant-loop-w l = l.bytes.items ≡ l.fn.bytes.items ++ flat_map row_bytes (take l.w l.s.truth)
