use Rattle.std.proofs.Common.{◌≡◌}
use Rattle.ep_logic.specs.Numbers.{numbers_where}
use Rattle.ep_bytes.specs.Reading.{bit_from}
use Rattle.ep_bytes.proofs.reading.numbers.Given as goal

abbrev pub invariant-loop-i : goal.invariant-loop-i
invariant-loop-i l = l.numbers.items ≡ numbers_where (bit_from l.bytes l.at) l.i
