-- The answer of the search is told as an answer of planning, and whether it rests on the guide.
use Rattle.std.proofs.Common.{ap, subst}
use Rattle.ep_theory.specs.PlanningTask.{PlanningTask}
use Rattle.ep_search.specs.Allowed.{Allowed}
use Rattle.ep_answer.specs.declared.answer.Answer.TheVariants.{OfSearch}
use Rattle.ep_answer.specs.declared.planned.Planned.{Planned}
use Rattle.ep_reading.specs.Served.{answers}
use Rattle.ep_planning.proofs.GuideLemmas.{search_was_asked}
use Rattle.ep_planning.proofs.PlanLemmas.{allowed_has_actions, plans_by}
use Rattle.ep_planning.proofs.plan.plan_task.Goals as goal

pub print_answer-requires : goal.print_answer-requires
print_answer-requires g c =
    let t = c.args.task.now in
    let b = c.args.bounds in
    let found = c.in_ok-found.found in
    let allowed = subst (λ (T : PlanningTask). Allowed T b c.args.mode found) c.problem.ensures.value c.in_ok-found.ensures.allowed in
    allowed_has_actions t b c.args.mode found c.problem.ensures.valid c.requires.bound c.known.ensures.actions allowed

pub returns-clause-plans : goal.returns-clause-plans
returns-clause-plans g c =
    let t = c.args.task.now in
    let b = c.args.bounds in
    let found = c.in_ok-found.found in
    let allowed = subst (λ (T : PlanningTask). Allowed T b c.args.mode found) c.problem.ensures.value c.in_ok-found.ensures.allowed in
    plans_by b c.args.mode t found (answers (OfSearch c.in_ok-planned.planned)) allowed (ap (λ (p : Planned). answers (OfSearch p)) c.in_ok-planned.ensures)

pub returns-clause-asked : goal.returns-clause-asked
returns-clause-asked g c some needs =
    search_was_asked c.args.task.now c.args.bounds c.in_ok-found.found (OfSearch c.in_ok-planned.planned) _ _ c.known.ensures.whole (ap OfSearch c.in_ok-planned.ensures) c.in_ok-found.ensures.asked some needs
