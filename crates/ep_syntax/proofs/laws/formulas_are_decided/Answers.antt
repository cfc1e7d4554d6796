use Rattle.ep_tree.specs.Grammar.{formulas}
use Rattle.ep_reader.proofs.CallerLemmas.{decided}
use Rattle.ep_syntax.specs.FormulaReading.{outer_formula}
use Rattle.ep_syntax.proofs.FormulaLaws.{formula_outcome}
use Rattle.ep_syntax.proofs.laws.formulas_are_decided.Goals as goal

pub returns : goal.returns
returns c = decided formulas outer_formula formula_outcome
