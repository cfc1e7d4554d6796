use Rattle.std.proofs.Common.{◌≡◌, drop}
use Rattle.ep_types.specs.Faults.{first_fault}
use Rattle.ep_types.specs.Places.{scope, with_params}
use Rattle.ep_types.specs.Uses.{param_uses}
use Rattle.ep_types.proofs.formula.bring_into_force.Given as goal

abbrev pub invariant-loop-number : goal.invariant-loop-number
invariant-loop-number l =
    let before = scope l.names l.fn.frame in
    let now = scope l.names l.frame in
    record {
      left : first_fault (param_uses 0 l.list before) ≡ first_fault (param_uses l.number (drop l.number l.list) now);
      in_force : with_params before l.list ≡ with_params now (drop l.number l.list);
    }
