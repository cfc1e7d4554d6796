use Rattle.std.proofs.Common.{◌≡◌, take}
use Rattle.ep_types.specs.Atoms.{texts}
use Rattle.ep_types.proofs.task.copy_texts.Given as goal

abbrev pub invariant-loop-name : goal.invariant-loop-name
invariant-loop-name l = l.copies.items ≡ texts (take l.name-index l.list)
