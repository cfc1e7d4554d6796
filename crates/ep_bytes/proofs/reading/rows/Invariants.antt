use Rattle.std.proofs.Common.{◌≡◌, ◌+◌, ◌*◌}
use Rattle.ep_logic.specs.Numbers.{table}
use Rattle.ep_bytes.specs.Bytes.{row_size}
use Rattle.ep_bytes.specs.Reading.{told_numbers}
use Rattle.ep_bytes.proofs.reading.rows.Given as goal

abbrev pub invariant-loop-w : goal.invariant-loop-w
invariant-loop-w l = l.rows ≡ table (λ w. told_numbers l.bytes (l.at + w * row_size l.worlds) l.worlds) l.w
