use Rattle.std.proofs.Common.{◌≡◌, take}
use Rattle.ep_initial.specs.Valuations.{numbers_of}
use Rattle.ep_initial.proofs.numbers.numbers_of.Given as goal

abbrev pub invariant-loop-atom : goal.invariant-loop-atom
invariant-loop-atom l = l.numbers ≡ numbers_of l.universe.names (take l.atom-index l.atoms)
