-- Where the reading of a formula ends.
use Rattle.std.proofs.lemmas.Result.{err_from_is_err_and, MatchResult-weaker}
use Rattle.ep_reading.proofs.FormulaLemmas.{stops_at_form, stops_at_formula_text}
use Rattle.ep_reading.proofs.formula.read_formula.Goals as goal

pub returns-in_err-parsed : goal.returns-in_err-parsed
returns-in_err-parsed c =
    let p = err_from_is_err_and c.from_residual.result c.from_residual.ensures.1 in
    rw (p.1, p.2) (stops_at_formula_text c.args.task.now c.args.text.now _ c.in_err-parsed.ensures)

pub returns : goal.returns
returns c =
    let parsed = c.in_ok-parsed.parsed in
    MatchResult-weaker c.form_formula.result c.form_formula.ensures
    (λ f h. record { few = c.requires; found = parsed.tokens; tree = parsed.tree; is_text = c.in_ok-parsed.ensures; form = h })
    (λ stop h. stops_at_form c.args.task.now c.args.text.now parsed.tokens parsed.tree stop c.in_ok-parsed.ensures h)
