use Rattle.std.proofs.Common.{◌≡◌, take}
use Rattle.std.specs.List.{flat_map}
use Rattle.ep_bytes.specs.Bytes.{row_bytes}
use Rattle.ep_kripke.specs.Interning.{row_of}
use Rattle.ep_bytes.proofs.writing.bytes_of_rows.Given as goal

abbrev pub invariant-loop-r : goal.invariant-loop-r
invariant-loop-r l = l.bytes.items ≡ flat_map (λ numbers. row_bytes (row_of l.count numbers)) (take l.r l.rows)
