use Rattle.std.proofs.Common.{length, ap, ◌∙◌, arith}
use Rattle.ep_truth.proofs.FormulaTableLemmas.{entries_long}
use Rattle.ep_truth.proofs.formula_table.FormulaTable.len.Goals as goal

pub returns-clause-value : goal.returns-clause-value
returns-clause-value c = ap length c.as_slice.ensures ∙ entries_long c.self.inside.entries c.args.self.now c.self.view_is

pub returns-clause-few : goal.returns-clause-few
returns-clause-few c = omega (arith, c.self.invariant.1, entries_long c.self.inside.entries c.args.self.now c.self.view_is)
