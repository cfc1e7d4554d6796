use Rattle.std.proofs.Common.{◌≡◌, take}
use Rattle.ep_initial.specs.Valuations.{distinct}
use Rattle.ep_initial.proofs.numbers.keep_distinct.Given as goal

abbrev pub invariant-loop-number : goal.invariant-loop-number
invariant-loop-number l = l.firsts ≡ distinct (take l.number-index l.numbers)
