use Rattle.ep_lex.specs.Tokens.{spellings}
use Rattle.ep_tree.specs.Grammar.{formulas}
use Rattle.ep_reader.proofs.CallerLemmas.{said_read_by}
use Rattle.ep_syntax.specs.FormulaReading.{outer_formula}
use Rattle.ep_syntax.proofs.FormulaLaws.{formula_outcome}
use Rattle.ep_syntax.proofs.read.read_formula.Goals as goal

pub returns : goal.returns
returns c = let ts = spellings c.args.bytes.now c.args.tokens.now.tokens in said_read_by formulas ts outer_formula (formula_outcome ts) c.parse_whole.result c.parse_whole.ensures
