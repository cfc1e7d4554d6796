use Rattle.std.proofs.Common.{◌≡◌, ◌+◌, ◌-◌, true, false, Err, sym, ap, ◌∙◌, arith}
use Rattle.std.specs.Prelude.{◌==◌}
use Rattle.std.proofs.lemmas.Result.{err_from_is_err_and}
use Rattle.ep_syntax.specs.FormulaReading.{formula, by_token}
use Rattle.ep_reader.specs.Reading.{begins, behind_key, Syntax, TooDeep}
use Rattle.ep_tree.specs.Terminals.{is}
use Rattle.ep_syntax.proofs.FormulaSteps.{formula-suc, formula-deep, formula-none, gives_same}
use Rattle.ep_syntax.proofs.formula.+formula.Goals as goal
use Rattle.ep_syntax.proofs.formula.+formula.Goals.{parse_parts-else-loop-test, parse_parts-then-loop-test+then-not-sees}
use Rattle.ep_reader.proofs.CallerLemmas.{going_on, going_stop, going_stops, going_end}

pub parse_formula-returns-then-depth-gt0 : goal.parse_formula-returns-then-depth-gt0
parse_formula-returns-then-depth-gt0 t c =
    let e = formula-suc c.args.depth c.args.reader.now.0 c.args.reader.now.1 c.if-depth-gt0.true in
    gives_same (formula c.args.depth) (by_token (c.args.depth - 1 == 0) (formula (c.args.depth - 1))) c.args.reader.now c.parse_by_token.result c.parse_by_token.new.reader e c.parse_by_token.ensures

pub parse_formula-returns-then-starts_formula : goal.parse_formula-returns-then-starts_formula
parse_formula-returns-then-starts_formula t c =
    formula-deep c.args.depth _ _ (omega (arith, c.if-depth-gt0.false)) (cc) ∙ ap (λ n. Err (TooDeep n)) (sym c.place-token.ensures.value)

pub parse_formula-returns-else-starts_formula : goal.parse_formula-returns-else-starts_formula
parse_formula-returns-else-starts_formula t c =
    formula-none c.args.depth _ _ (omega (arith, c.if-depth-gt0.false)) (cc) ∙ ap (λ n. Err (Syntax n)) (sym c.place-token.ensures.value)

pub parse_parts-returns-in_err-next : goal.parse_parts-returns-in_err-next
parse_parts-returns-in_err-next t c =
    let here : begins c.args.terminal c.loop.reader.1 ≡ true = cc in
    let rest = c.tokens_left-end.result - (c.loop.counter + 1) in
    let p = err_from_is_err_and c.from_residual-in_err-next.result c.from_residual-in_err-next.ensures.1 in
    rw (p.1, p.2)
    (going_stops (is c.args.terminal) (behind_key c.args.terminal (formula c.args.depth)) rest (omega (arith, c.loop-test.true)) c.loop.invariant here _ c.in_err-next.ensures)

pub parse_parts-loop-preserved : goal.parse_parts-loop-preserved
parse_parts-loop-preserved t c =
    let here : begins c.args.terminal c.loop.reader.1 ≡ true = cc in
    let rest = c.tokens_left-end.result - (c.loop.counter + 1) in
    rw c.in_ok-push-3.ensures.ok
    (going_on (is c.args.terminal) (behind_key c.args.terminal (formula c.args.depth)) rest (omega (arith, c.loop-test.true)) c.loop.invariant here _ c.in_ok-next.ensures)

pub parse_parts-returns : goal.parse_parts-returns
parse_parts-returns t c =
    elim c.loop-test.branch [
      | parse_parts-else-loop-test w ↦ going_end (is c.args.terminal) (behind_key c.args.terminal (formula c.args.depth)) c.loop.invariant (omega (arith, w.loop-test.false))
      | parse_parts-then-loop-test+then-not-sees w ↦
          let none : begins c.args.terminal c.loop.reader.1 ≡ false = cc in
          going_stop (is c.args.terminal) (behind_key c.args.terminal (formula c.args.depth)) c.loop.invariant none
    ]
