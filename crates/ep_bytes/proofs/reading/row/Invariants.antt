use Rattle.std.proofs.Common.{◌≡◌, length, take}
use Rattle.ep_logic.specs.Numbers.{table}
use Rattle.ep_bytes.specs.Reading.{bit_from}
use Rattle.ep_bytes.proofs.reading.row.Given as goal

abbrev pub invariant-loop-i : goal.invariant-loop-i
invariant-loop-i l =
    record {
      long : length l.row ≡ l.count;
      same : take l.i l.row ≡ table (bit_from l.bytes l.at) l.i;
    }
