use Rattle.std.proofs.Common.{◌≡◌, drop}
use Rattle.ep_types.specs.Faults.{first_fault}
use Rattle.ep_types.specs.Tasks.{kind_uses}
use Rattle.ep_types.proofs.task.check_kinds.Given as goal

abbrev pub invariant-loop-number : goal.invariant-loop-number
invariant-loop-number l = first_fault (kind_uses l.types 0 l.list) ≡ first_fault (kind_uses l.types l.number (drop l.number l.list))
