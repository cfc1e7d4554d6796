use Rattle.std.proofs.Common.{◌≡◌, drop}
use Rattle.ep_types.specs.Faults.{first_fault}
use Rattle.ep_types.specs.Names.{names_of}
use Rattle.ep_types.specs.Places.{each}
use Rattle.ep_types.specs.Tasks.{pair_uses}
use Rattle.ep_types.proofs.links.check_listed.Given as goal

abbrev pub invariant-loop-entry : goal.invariant-loop-entry
invariant-loop-entry l = first_fault (each (pair_uses (names_of l.ends)) l.list) ≡ first_fault (each (pair_uses (names_of l.ends)) (drop l.entry-index l.list))
