use Rattle.std.proofs.Common.{◌≡◌, ◌+◌, ◌*◌}
use Rattle.ep_logic.specs.Numbers.{table}
use Rattle.ep_bytes.specs.Bytes.{row_size}
use Rattle.ep_bytes.specs.Reading.{told_row}
use Rattle.ep_bytes.proofs.reading.truths.Given as goal

abbrev pub invariant-loop-w : goal.invariant-loop-w
invariant-loop-w l = l.rows ≡ table (λ w. told_row l.bytes (5 + w * row_size l.sizes.atoms) l.sizes.atoms) l.w
