use Rattle.ep_truth.proofs.FormulaTableLemmas.{IsNumbering}
use Rattle.ep_truth.proofs.formula_table.FormulaTable.+entries.Given as goal

abbrev pub invariant-numbers_of-loop-part : goal.invariant-numbers_of-loop-part
invariant-numbers_of-loop-part l = IsNumbering l.initial.self l.parts l.part-index l.self l.numbers
