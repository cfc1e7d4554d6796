use Rattle.std.proofs.Common.{◌≡◌, drop}
use Rattle.ep_types.specs.Faults.{first_fault}
use Rattle.ep_types.specs.Places.{scope}
use Rattle.ep_types.specs.Tasks.{sets_uses}
use Rattle.ep_types.proofs.schema.check_sets.Given as goal

abbrev pub invariant-loop-entry : goal.invariant-loop-entry
invariant-loop-entry l =
    let s = scope l.names l.fn.frame in
    record {
      left : first_fault (sets_uses l.list s) ≡ first_fault (sets_uses (drop l.entry-index l.list) s);
      kept : l.frame ≡ l.fn.frame;
    }
