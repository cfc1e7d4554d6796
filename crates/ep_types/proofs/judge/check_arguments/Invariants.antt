use Rattle.std.proofs.Common.{◌≡◌, drop}
use Rattle.ep_types.specs.Faults.{first_fault}
use Rattle.ep_types.specs.Places.{scope}
use Rattle.ep_types.specs.Uses.{argument_uses}
use Rattle.ep_types.proofs.judge.check_arguments.Given as goal

abbrev pub invariant-loop-i : goal.invariant-loop-i
invariant-loop-i l =
    let s = scope l.names l.frame in
    first_fault (argument_uses l.args l.kinds s) ≡ first_fault (argument_uses (drop l.i l.args) (drop l.i l.kinds) s)
