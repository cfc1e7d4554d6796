use Rattle.std.proofs.Common.{◌≡◌, List, ℕ, [], length, get_or, arith}
use Rattle.std.specs.List.{list_all}
use Rattle.std.proofs.lemmas.Result.{IfOk-weaker}
use Rattle.ep_logic.specs.Numbers.{table}
use Rattle.ep_logic.specs.Rows.{value_at}
use Rattle.ep_truth.specs.Labels.{knows_test}
use Rattle.ep_truth.proofs.LabelLemmas.{knows_row}
use Rattle.ep_truth.proofs.labels.label_knows.Goals as goal

pub all_within-requires : goal.all_within-requires
all_within-requires c = omega (arith, c.relation.ensures.rows, c.relation.ensures.bounded.worlds)

pub returns : goal.returns
returns c =
    let s = c.args.s.now in
    let rows : List (List ℕ) = c.relation.result.now in
    IfOk-weaker c.all_within.result
    (λ row. row ≡ table (λ w. list_all (value_at c.args.inner.now) (get_or c.relation.result.now w [])) (length c.relation.result.now))
    (λ row. row ≡ table (knows_test s c.args.a.n c.args.inner.now) s.worlds)
    (λ row e. knows_row s c.args.a.n c.args.inner.now row c.relation.result.now c.relation.ensures.rows c.relation.ensures.each e)
    c.all_within.ensures
