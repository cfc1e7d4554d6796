use Rattle.std.proofs.Common.{◌≡◌, drop}
use Rattle.ep_types.specs.Faults.{first_fault}
use Rattle.ep_types.specs.Places.{scope, each}
use Rattle.ep_types.specs.Uses.{fact_uses}
use Rattle.ep_types.proofs.init.check_facts_apart.Given as goal

abbrev pub invariant-loop-entry : goal.invariant-loop-entry
invariant-loop-entry l =
    let s = scope l.names l.frame in
    first_fault (each (λ a. fact_uses l.set a s) l.list) ≡ first_fault (each (λ a. fact_uses l.set a s) (drop l.entry-index l.list))
