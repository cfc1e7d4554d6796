use Rattle.std.proofs.Common.{[]}
use Rattle.ep_apart.specs.Missed.{AreMissed}
use Rattle.ep_apart.proofs.MissedLemmas.{EachItem}
use Rattle.ep_apart.proofs.missed.missed_links.Given as goal

abbrev pub invariant-loop-a : goal.invariant-loop-a
invariant-loop-a l = EachItem [] (AreMissed l.q l.table) l.all l.a
