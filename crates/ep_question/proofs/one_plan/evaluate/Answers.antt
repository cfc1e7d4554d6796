-- How often the formula is true at a designated world.
use Rattle.std.proofs.Common.{◌<◌, All, sym, subst}
use Rattle.ep_truth.proofs.CallerLemmas.{designated_within}
use Rattle.ep_question.proofs.EvaluationLemmas.{evaluates_by}
use Rattle.ep_question.proofs.one_plan.evaluate.Goals as goal

pub count_true_places-requires : goal.count_true_places-requires
count_true_places-requires c =
    let s = c.args.state.now in
    subst (λ n. All (λ v. v < n) c.designated-designated.result.now) (sym c.in_ok-row.ensures.long)
    (subst (λ vs. All (λ v. v < s.worlds) vs) (sym c.designated-designated.ensures.value) (designated_within s c.designated-designated.ensures.valid))

pub returns : goal.returns
returns c =
    evaluates_by c.args.state.now c.args.formula.now c.in_ok-row.row c.designated-designated.result.now c.count_true_places.result c.designated-designated.ensures.valid c.in_ok-row.ensures.tested c.designated-designated.ensures.value c.count_true_places.ensures
