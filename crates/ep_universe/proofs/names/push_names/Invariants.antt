use Rattle.std.proofs.Common.{◌≡◌, ◌++◌, take}
use Rattle.ep_types.specs.Atoms.{texts}
use Rattle.ep_universe.proofs.names.push_names.Given as goal

abbrev pub invariant-loop-name : goal.invariant-loop-name
invariant-loop-name l = l.names ≡ l.initial.names ++ texts (take l.name-index l.more)
