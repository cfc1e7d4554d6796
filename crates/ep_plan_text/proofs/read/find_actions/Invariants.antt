use Rattle.std.proofs.Common.{◌≢◌, ◌<◌, take}
use Rattle.std.specs.Prelude.{AllPairs}
use Rattle.ep_plan_text.specs.Calls.{NameActions}
use Rattle.ep_plan_text.proofs.read.find_actions.Given as goal

abbrev pub invariant-loop-call : goal.invariant-loop-call
invariant-loop-call l = record {
  named : NameActions l.task (take l.call-index l.calls) l.plan;
  apart : 0 < l.call-index → AllPairs (λ x y. x ≢ y) l.task.actions;
}
