use Rattle.std.proofs.Common.{◌≡◌, ◌*◌, length, ap, ◌∙◌, arith}
use Rattle.ep_theory.specs.PlanningTask.{PlanningTask}
use Rattle.ep_audit.specs.Certificates.{action_count}
use Rattle.ep_audit.proofs.due.next_step.Goals as goal

pub returns : goal.returns
returns c = λ j f l.
    let n : c.actions-count.result ≡ action_count c.args.task.now = c.actions-count.ensures.value ∙ ap (λ (P : PlanningTask). length P.actions) c.problem.ensures.value in
    let product = ap (λ m. c.args.told.now.count * m) n in
    c.loop-pair.invariant j f (omega (arith, l, product, c.loop-pair-test.false))
