use Rattle.std.proofs.Common.{◌≡◌, drop}
use Rattle.ep_types.specs.Faults.{first_fault}
use Rattle.ep_types.specs.Tasks.{name_uses, with_objects}
use Rattle.ep_types.proofs.task.declare_alike.Given as goal

abbrev pub invariant-loop-name : goal.invariant-loop-name
invariant-loop-name l = record {
  left : first_fault (name_uses l.fn.names l.kind.text l.list) ≡ first_fault (name_uses l.names l.kind.text (drop l.name-index l.list));
  after : with_objects l.fn.names l.kind.text l.list ≡ with_objects l.names l.kind.text (drop l.name-index l.list);
}
