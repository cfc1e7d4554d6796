use Rattle.std.proofs.Common.{◌≡◌, take}
use Rattle.ep_kripke.proofs.build.named_rows_of.Given as goal

abbrev pub invariant-loop-at : goal.invariant-loop-at
invariant-loop-at l = l.naming ≡ record { worlds = l.worlds; rows = take l.at l.rows }
