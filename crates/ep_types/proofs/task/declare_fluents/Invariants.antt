use Rattle.std.proofs.Common.{◌≡◌, drop}
use Rattle.ep_types.specs.Faults.{first_fault}
use Rattle.ep_types.specs.Tasks.{fluent_uses, after_fluents}
use Rattle.ep_types.proofs.task.declare_fluents.Given as goal

abbrev pub invariant-loop-entry : goal.invariant-loop-entry
invariant-loop-entry l = record {
  left : first_fault (fluent_uses l.fn.names l.list) ≡ first_fault (fluent_uses l.names (drop l.entry-index l.list));
  after : after_fluents l.fn.names l.list ≡ after_fluents l.names (drop l.entry-index l.list);
}
