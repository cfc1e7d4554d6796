use Rattle.std.proofs.Common.{◌≡◌, ◌++◌, map, take}
use Rattle.ep_plan_text.specs.PlanText.{action_name}
use Rattle.ep_base.specs.Texts.{lines}
use Rattle.ep_plan_text.proofs.print.push_names.Given as goal

abbrev pub invariant-loop-action : goal.invariant-loop-action
invariant-loop-action l = l.text ≡ l.fn.text ++ lines (map (action_name l.task) (take l.action-index l.plan))
