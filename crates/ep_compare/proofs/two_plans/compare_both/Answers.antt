-- The first plan, its run, and then the second one.
use Rattle.std.proofs.lemmas.Result.{err_from_is_err_and}
use Rattle.std.proofs.Common.{inl, inr, Err}
use Rattle.ep_answer.specs.declared.cause.Subject.TheVariants.{FirstPlan, SecondPlan}
use Rattle.ep_answer.specs.declared.run_stop.Whose.TheVariants.{First, Second}
use Rattle.ep_reading.specs.PlanFile.{PlanFile, Ran}
use Rattle.ep_compare.specs.Comparing.{Compared}
use Rattle.ep_reading.specs.Fetches.{plan_files}
use Rattle.ep_reading.proofs.CallerLemmas.{behind_plan, stops_at_plan, fetches_first, fetches_then}
use Rattle.ep_compare.proofs.CompareLemmas.{behind_run, first_stops}
use Rattle.ep_compare.proofs.two_plans.compare_both.Goals as goal

pub returns-in_err-plan-clause-answer : goal.returns-in_err-plan-clause-answer
returns-in_err-plan-clause-answer g c =
    let p = err_from_is_err_and c.from_residual.result c.from_residual.ensures.1 in
    rw (p.1, p.2) (stops_at_plan _ _ FirstPlan c.args.one.now c.args.task.now (λ files p. Ran First c.args.task.now p (λ S. PlanFile files SecondPlan c.args.two.now c.args.task.now (λ q. Ran Second c.args.task.now q (Compared c.args.comparison c.args.task.now S)))) _ _ _ (λ s name n. inl n) c.in_err-plan.ensures.plan)

pub returns-in_err-first-clause-answer : goal.returns-in_err-first-clause-answer
returns-in_err-first-clause-answer g c =
    let p = err_from_is_err_and c.from_residual-in_err-first.result c.from_residual-in_err-first.ensures.1 in
    let t = c.args.task.now in
    let q = c.in_ok-plan.plan in
    rw (p.1, p.2)
    (behind_plan _ _ _ FirstPlan c.args.one.now t q (λ files p. Ran First t p (λ S. PlanFile files SecondPlan c.args.two.now t (λ q. Ran Second t q (Compared c.args.comparison c.args.task.now S)))) _ _ (Err c.in_err-first.field-0.0)
    c.in_ok-plan.ensures.plan c.in_ok-plan.ensures.goes_on (λ s name n. n)
    (first_stops _ _ _ t q (λ files S. PlanFile files SecondPlan c.args.two.now t (λ q. Ran Second t q (Compared c.args.comparison c.args.task.now S))) c.in_err-first.field-0.0 c.in_err-first.ensures))

pub returns-clause-answer : goal.returns-clause-answer
returns-clause-answer g c =
    let t = c.args.task.now in
    let q = c.in_ok-plan.plan in
    let S = c.in_ok-first.first in
    behind_plan _ _ _ FirstPlan c.args.one.now t q (λ files p. Ran First t p (λ S. PlanFile files SecondPlan c.args.two.now t (λ q. Ran Second t q (Compared c.args.comparison c.args.task.now S)))) _ _ c.compare_with_second.result
    c.in_ok-plan.ensures.plan c.in_ok-plan.ensures.goes_on (λ s name n. inr n)
    (behind_run _ _ First t q S (λ files S. PlanFile files SecondPlan c.args.two.now t (λ q. Ran Second t q (Compared c.args.comparison c.args.task.now S))) _ c.compare_with_second.result c.in_ok-first.ensures.run c.compare_with_second.ensures.answer)

pub returns-in_err-plan-clause-fetches : goal.returns-in_err-plan-clause-fetches
returns-in_err-plan-clause-fetches g c = fetches_first (plan_files c.args.one.now) (plan_files c.args.two.now) _ _ c.read_plan_file.ensures.fetches

pub returns-in_err-first-clause-fetches : goal.returns-in_err-first-clause-fetches
returns-in_err-first-clause-fetches g c = fetches_first (plan_files c.args.one.now) (plan_files c.args.two.now) _ _ c.read_plan_file.ensures.fetches

pub returns-clause-fetches : goal.returns-clause-fetches
returns-clause-fetches g c = fetches_then (plan_files c.args.one.now) (plan_files c.args.two.now) _ _ _ c.in_ok-plan.ensures.whole c.compare_with_second.ensures.fetches
