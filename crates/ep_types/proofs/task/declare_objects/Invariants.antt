use Rattle.std.proofs.Common.{◌≡◌, drop}
use Rattle.ep_types.specs.Faults.{first_fault}
use Rattle.ep_types.specs.Tasks.{object_uses, after_objects}
use Rattle.ep_types.proofs.task.declare_objects.Given as goal

abbrev pub invariant-loop-entry : goal.invariant-loop-entry
invariant-loop-entry l = record {
  left : first_fault (object_uses l.fn.names l.list) ≡ first_fault (object_uses l.names (drop l.entry-index l.list));
  after : after_objects l.fn.names l.list ≡ after_objects l.names (drop l.entry-index l.list);
}
