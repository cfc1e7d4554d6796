use Rattle.std.proofs.Common.{◌≡◌, ◌++◌}
use Rattle.ep_logic.specs.Numbers.{table}
use Rattle.ep_logic.specs.Packed.{unpacked}
use Rattle.ep_bytes.specs.Bytes.{row_byte}
use Rattle.ep_bytes.proofs.writing.put_words.Given as goal

abbrev pub invariant-loop-k : goal.invariant-loop-k
invariant-loop-k l = l.bytes.items ≡ l.fn.bytes.items ++ table (row_byte (unpacked l.words l.count)) l.k
