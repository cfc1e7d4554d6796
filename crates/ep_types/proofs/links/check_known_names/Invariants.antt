use Rattle.std.proofs.Common.{◌≡◌, drop}
use Rattle.ep_types.specs.Faults.{first_fault}
use Rattle.ep_types.specs.Names.{names_of}
use Rattle.ep_types.specs.Tasks.{known_uses}
use Rattle.ep_types.proofs.links.check_known_names.Given as goal

abbrev pub invariant-loop-name : goal.invariant-loop-name
invariant-loop-name l = first_fault (known_uses (names_of l.ends) l.list) ≡ first_fault (known_uses (names_of l.ends) (drop l.name-index l.list))
