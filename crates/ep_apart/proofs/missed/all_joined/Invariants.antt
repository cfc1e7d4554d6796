use Rattle.std.proofs.Common.{[]}
use Rattle.ep_apart.proofs.MissedLemmas.{EachItem, IsJoinedRow}
use Rattle.ep_apart.proofs.missed.all_joined.Given as goal

abbrev pub invariant-loop-c : goal.invariant-loop-c
invariant-loop-c l = EachItem [] (IsJoinedRow l.q l.agent.n l.within) l.rows l.c
