use Rattle.std.proofs.Common.{◌≡◌, ◌++◌, take}
use Rattle.std.specs.List.{flat_map}
use Rattle.ep_bytes.specs.Bytes.{row_bytes}
use Rattle.ep_kripke.specs.Interning.{successor_rows}
use Rattle.ep_bytes.proofs.writing.put_links.Given as goal

abbrev pub invariant-loop-a : goal.invariant-loop-a
invariant-loop-a l = l.bytes.items ≡ l.fn.bytes.items ++ flat_map (λ pairs. flat_map row_bytes (successor_rows l.s.worlds pairs)) (take l.a l.s.links)
