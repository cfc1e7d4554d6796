use Rattle.std.proofs.Common.{[]}
use Rattle.ep_apart.proofs.MissedLemmas.{EachItem, IsWithinRow}
use Rattle.ep_apart.proofs.missed.all_within.Given as goal

abbrev pub invariant-loop-row : goal.invariant-loop-row
invariant-loop-row l = EachItem [] (IsWithinRow l.q l.agent.n l.told) l.all l.row-index
