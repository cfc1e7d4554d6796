use Rattle.std.proofs.Common.{subst}
use Rattle.ep_truth.specs.Labels.{IsLabel}
use Rattle.ep_truth.proofs.LabelLemmas.{label_tells_truth, label_is_table}
use Rattle.ep_truth.proofs.labels.label.Goals as goal

pub returns-clause-truth : goal.returns-clause-truth
returns-clause-truth c =
    let s = c.args.s.now in
    label_tells_truth s c.worlds-worlds.ensures.valid c.args.f.now c.in_ok-row.row (subst (λ f. IsLabel s f c.in_ok-row.row) c.node.ensures.value c.in_ok-row.ensures)

pub returns-clause-tested : goal.returns-clause-tested
returns-clause-tested c =
    let s = c.args.s.now in
    label_is_table s c.args.f.now c.in_ok-row.row (subst (λ f. IsLabel s f c.in_ok-row.row) c.node.ensures.value c.in_ok-row.ensures)
