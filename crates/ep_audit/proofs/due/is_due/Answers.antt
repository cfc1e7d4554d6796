use Rattle.std.proofs.Common.{◌≡◌, ◌/◌, ◌%◌, ◌<◌, length, refl, ap, ◌∙◌, arith, get_or, Some}
use Rattle.std.specs.Prelude.{slice_get}
use Rattle.std.proofs.lemmas.Option.{slice_get_read}
use Rattle.ep_theory.specs.PlanningTask.{PlanningTask}
use Rattle.ep_audit.specs.NamedTasks.{cost_of}
use Rattle.ep_audit.specs.Certificates.{action_count}
use Rattle.ep_audit.proofs.AnswerLemmas.{due_iff, entry_of}
use Rattle.ep_audit.proofs.due.is_due.Goals as goal

pub returns : goal.returns
returns c =
    let T = c.args.task.now in
    let told = c.args.told.now in
    let q = c.args.pair in
    let n : c.actions-count.result ≡ action_count T = c.actions-count.ensures.value ∙ ap (λ (P : PlanningTask). length P.actions) c.problem.ensures.value in
    let e = c.index-as_slice-pair.result in
    let within : q / action_count T < length told.entries = (let l = entry_of told.count (action_count T) q c.requires.pair in omega (arith, l, c.requires.listed.all)) in
    let is : e ≡ get_or told.entries (q / action_count T) e = c.index-as_slice-pair.is ∙ (λ i. get_or (c.as_slice.ensures i) (q / n i) e) in
    let at : slice_get told.entries (q / action_count T) ≡ Some e = slice_get_read told.entries (length told.entries) (q / action_count T) e refl within is in
    due_iff T told q c.from.result c.from-2.result c.from-3.result e at c.from.ensures (c.from-2.ensures ∙ c.cost-cost.ensures.value ∙ ap (λ m. cost_of T (q % m)) n) c.from-3.ensures
