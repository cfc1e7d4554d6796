use Rattle.std.proofs.Common.{◌++◌, sym, ap, ◌∙◌, append_assoc, map, take}
use Rattle.ep_plan_text.specs.PlanText.{action_name}
use Rattle.ep_base.specs.Texts.{line, lines}
use Rattle.ep_plan_text.proofs.LineLemmas.{lines-next}
use Rattle.ep_plan_text.proofs.print.push_names.Goals as goal

pub loop-action-preserved : goal.loop-action-preserved
loop-action-preserved c =
    let plan = c.args.plan.now in
    let i = c.loop-action.action-index in
    let g = c.args.task.now in
    let name = c.action_name.result.now in
    let more = lines-next g c.as_slice-action-items.result.now plan i _ name c.as_slice-action-items.ensures c.loop-action-test.true c.action_name.ensures in
    c.in_ok-push_line.ensures
    ∙ ap (λ z. c.loop-action.text ++ line z) c.as_slice.ensures.value
    ∙ ap (λ z. z ++ line name) c.loop-action.invariant
    ∙ append_assoc c.args.text.now (lines (map (action_name g) (take i plan))) (line name)
    ∙ ap (λ z. c.args.text.now ++ z) (sym more)
