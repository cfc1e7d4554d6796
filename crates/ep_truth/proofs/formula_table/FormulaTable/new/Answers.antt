use Rattle.std.proofs.Common.{ap, ◌∙◌}
use Rattle.ep_truth.specs.FormulaTables.{trees_of}
use Rattle.ep_truth.proofs.FormulaTableLemmas.{trees-none}
use Rattle.ep_truth.proofs.formula_table.FormulaTable.new.Goals as goal

pub returns : goal.returns
returns c = ap trees_of c.new.ensures ∙ trees-none
