use Rattle.std.proofs.Common.{◌≡◌, drop}
use Rattle.ep_types.specs.Faults.{first_fault}
use Rattle.ep_types.specs.Places.{scope}
use Rattle.ep_types.specs.Uses.{formulas_uses}
use Rattle.ep_types.proofs.formula.+formula.Given as goal

abbrev pub invariant-check_formulas-loop-part : goal.invariant-check_formulas-loop-part
invariant-check_formulas-loop-part l =
    let s = scope l.names l.fn.frame in
    record {
      left : first_fault (formulas_uses l.parts s) ≡ first_fault (formulas_uses (drop l.part-index l.parts) s);
      kept : l.frame ≡ l.fn.frame;
    }
