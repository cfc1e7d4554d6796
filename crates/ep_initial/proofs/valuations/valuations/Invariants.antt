use Rattle.std.proofs.Common.{◌≡◌}
use Rattle.ep_initial.specs.Valuations.{valuations}
use Rattle.ep_initial.proofs.valuations.valuations.Given as goal

abbrev pub invariant-loop-done : goal.invariant-loop-done
invariant-loop-done l = l.all ≡ valuations l._done
