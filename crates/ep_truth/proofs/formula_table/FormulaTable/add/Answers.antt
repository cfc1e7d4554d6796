use Rattle.std.proofs.Common.{subst, ◌∙◌}
use Rattle.ep_truth.specs.FormulaTables.{StayFit}
use Rattle.ep_truth.proofs.FormulaTableLemmas.{stay_after}
use Rattle.ep_truth.proofs.formula_table.FormulaTable.add.Goals as goal

pub returns-clause-fit : goal.returns-clause-fit
returns-clause-fit c =
    let old = c.args.self.now in
    let mid = c.entry_of.new.self in
    let new = c.number_of.new.self in
    let f = c.args.f.now in
    stay_after old mid new f (subst (λ x. StayFit old x mid) c.node.ensures.value c.in_ok-entry.ensures.fit)
    (subst (λ x. StayFit mid x new) (c.in_ok-entry.ensures.entry.tree ∙ c.node.ensures.value) c.in_ok-n.ensures.fit)
