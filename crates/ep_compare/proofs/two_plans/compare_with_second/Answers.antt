-- The second plan, and what it leaves compared.
use Rattle.std.proofs.lemmas.Result.{err_from_is_err_and}
use Rattle.std.proofs.Common.{Err}
use Rattle.ep_answer.specs.declared.cause.Subject.TheVariants.{SecondPlan}
use Rattle.ep_answer.specs.declared.run_stop.Whose.TheVariants.{Second}
use Rattle.ep_reading.specs.PlanFile.{Ran}
use Rattle.ep_compare.specs.Comparing.{Compared}
use Rattle.ep_reading.specs.Steps.{nothing_behind}
use Rattle.ep_reading.proofs.CallerLemmas.{behind_plan, stops_at_plan, stops_map, tells_is_served, Ran-behind, Ran-weaker}
use Rattle.ep_compare.proofs.CompareLemmas.{second_is_behind, tells_map}
use Rattle.ep_compare.proofs.two_plans.compare_with_second.Goals as goal

pub returns-in_err-plan-clause-answer : goal.returns-in_err-plan-clause-answer
returns-in_err-plan-clause-answer g c =
    let p = err_from_is_err_and c.from_residual.result c.from_residual.ensures.1 in
    rw (p.1, p.2) (stops_at_plan _ _ SecondPlan c.args.word.now c.args.task.now (λ files q. Ran Second c.args.task.now q (Compared c.args.comparison c.args.task.now c.args.first.now)) _ _ _ (λ s name n. n) c.in_err-plan.ensures.plan)

pub returns-in_err-second-clause-answer : goal.returns-in_err-second-clause-answer
returns-in_err-second-clause-answer g c =
    let p = err_from_is_err_and c.from_residual-in_err-second.result c.from_residual-in_err-second.ensures.1 in
    let t = c.args.task.now in
    let q = c.in_ok-plan.plan in
    let S = c.args.first.now in
    let told = stops_map _ _ _ (λ o h. Ran-weaker Second t q nothing_behind (Compared c.args.comparison t S) o (λ R none. absurd none) h) c.in_err-second.ensures in
    rw (p.1, p.2)
    (behind_plan _ _ _ SecondPlan c.args.word.now t q (λ files q. Ran Second t q (Compared c.args.comparison t S)) _ _ (Err c.in_err-second.field-0.0) c.in_ok-plan.ensures.plan c.in_ok-plan.ensures.goes_on (λ s name n. n)
    (tells_is_served (Ran Second t q (Compared c.args.comparison t S)) _ _ _ (Err c.in_err-second.field-0.0) (second_is_behind c.args.comparison t S q) told))

pub returns-clause-answer : goal.returns-clause-answer
returns-clause-answer g c =
    let t = c.args.task.now in
    let q = c.in_ok-plan.plan in
    let S = c.args.first.now in
    let R = c.in_ok-second.second in
    let told = tells_map (Compared c.args.comparison t S R) _ c.compare_states.result (λ o h. Ran-behind Second t q R (Compared c.args.comparison t S) o c.in_ok-second.ensures.run h) c.compare_states.ensures in
    behind_plan _ _ _ SecondPlan c.args.word.now t q (λ files q. Ran Second t q (Compared c.args.comparison t S)) _ _ c.compare_states.result c.in_ok-plan.ensures.plan c.in_ok-plan.ensures.goes_on (λ s name n. n)
    (tells_is_served (Ran Second t q (Compared c.args.comparison t S)) _ _ _ c.compare_states.result (second_is_behind c.args.comparison t S q) told)
