use Rattle.ep_audit.proofs.VerdictLemmas.{ok_map, proves_exactly, wrong_exactly, no_plan_after}
use Rattle.ep_audit.specs.Answers.{IsAudited}
use Rattle.ep_audit.proofs.verdict.audit.Goals as goal

pub returns-clause-proves : goal.returns-clause-proves
returns-clause-proves c = ok_map c.judge.result (IsAudited c.args.task.now c.args.bytes.now) _ c.judge.ensures (λ r h n. proves_exactly c.args.task.now c.known.ensures c.args.bytes.now r h n)

pub returns-clause-wrong : goal.returns-clause-wrong
returns-clause-wrong c = ok_map c.judge.result (IsAudited c.args.task.now c.args.bytes.now) _ c.judge.ensures (λ r h n. wrong_exactly c.args.task.now c.known.ensures c.args.bytes.now r h n)

pub returns-clause-no_plan : goal.returns-clause-no_plan
returns-clause-no_plan c = ok_map c.judge.result (IsAudited c.args.task.now c.args.bytes.now) _ c.judge.ensures (λ r h n. no_plan_after c.args.task.now c.known.ensures c.args.bytes.now r (λ b k. c.a_certificate_excludes_plans.ensures c.args.task.now c.args.bytes.now b c.known.ensures k) h n)
