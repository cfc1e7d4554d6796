use Rattle.std.proofs.Common.{◌≡◌, drop}
use Rattle.ep_types.specs.Faults.{first_fault}
use Rattle.ep_types.specs.Tasks.{type_uses, after_types}
use Rattle.ep_types.proofs.task.declare_types.Given as goal

abbrev pub invariant-loop-entry : goal.invariant-loop-entry
invariant-loop-entry l = record {
  left : first_fault (type_uses l.fn.names l.list) ≡ first_fault (type_uses l.names (drop l.entry-index l.list));
  after : after_types l.fn.names l.list ≡ after_types l.names (drop l.entry-index l.list);
}
