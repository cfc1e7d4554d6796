use Rattle.ep_tree.specs.Grammar.{formulas}
use Rattle.ep_reader.proofs.CallerLemmas.{parsed_by}
use Rattle.ep_syntax.specs.FormulaReading.{outer_formula}
use Rattle.ep_syntax.proofs.FormulaLaws.{formula_outcome}
use Rattle.ep_syntax.proofs.read.read_formula_text.Goals as goal

pub returns : goal.returns
returns c = parsed_by formulas c.args.bytes.now outer_formula formula_outcome c.parse_text.result c.parse_text.ensures
