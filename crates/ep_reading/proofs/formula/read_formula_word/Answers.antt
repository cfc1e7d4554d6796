-- The formula of a word, or why there is none.
use Rattle.std.proofs.Common.{subst, arith}
use Rattle.std.proofs.lemmas.Result.{MatchResult-weaker}
use Rattle.ep_reading.specs.FormulaWord.{FormulaRead}
use Rattle.ep_reading.specs.Steps.{IsFormulaOf, StopsBy, nothing_behind}
use Rattle.ep_reading.proofs.FormulaLemmas.{FormulaWord-long, FormulaWord-short}
use Rattle.ep_reading.proofs.formula.read_formula_word.Goals as goal

pub returns-then-word : goal.returns-then-word
returns-then-word c = FormulaWord-long c.args.task.now c.args.word.now (omega (arith, c.if-word.true))

pub returns : goal.returns
returns c =
    let t = c.args.task.now in
    MatchResult-weaker c.read_formula.result c.read_formula.ensures
    (λ f h. subst (λ text. IsFormulaOf t text f) c.as_bytes.ensures.value h)
    (λ stop h. FormulaWord-short t c.args.word.now stop (omega (arith, c.if-word.false)) (subst (λ text. StopsBy (FormulaRead t text nothing_behind) stop) c.as_bytes.ensures.value h))
