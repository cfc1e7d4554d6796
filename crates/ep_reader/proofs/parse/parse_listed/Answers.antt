use Rattle.std.proofs.Common.{◌≡◌, ◌+◌, ◌-◌, true, false, arith}
use Rattle.std.proofs.lemmas.Result.{err_from_is_err_and}
use Rattle.ep_tree.specs.declared.terminal.Terminal.TheVariants as the
use Rattle.ep_reader.specs.Reading.{behind_key, begins}
use Rattle.ep_tree.specs.Terminals.{is}
use Rattle.ep_reader.proofs.Loops.{going_on, going_stop, going_stops, going_end}
use Rattle.ep_reader.proofs.parse.parse_listed.Goals as goal
use Rattle.ep_reader.proofs.parse.parse_listed.Goals.{else-loop-test, then-loop-test+then-not-sees}

pub returns-in_err-item : goal.returns-in_err-item
returns-in_err-item g c =
    let here : begins the.Comma c.loop.reader.1 ≡ true = cc in
    let rest = c.tokens_left-end.result - (c.loop.counter + 1) in
    let p = err_from_is_err_and c.from_residual-in_err-item.result c.from_residual-in_err-item.ensures.1 in
    rw (p.1, p.2)
    (going_stops (is the.Comma) (behind_key the.Comma g.T.Parse.reads) rest (omega (arith, c.loop-test.true)) c.loop.invariant here _ c.in_err-item.ensures)

pub loop-preserved : goal.loop-preserved
loop-preserved g c =
    let here : begins the.Comma c.loop.reader.1 ≡ true = cc in
    let rest = c.tokens_left-end.result - (c.loop.counter + 1) in
    rw c.in_ok-push-2.ensures.ok
    (going_on (is the.Comma) (behind_key the.Comma g.T.Parse.reads) rest (omega (arith, c.loop-test.true)) c.loop.invariant here _ c.in_ok-item.ensures)

pub returns : goal.returns
returns g c =
    elim c.loop-test.branch [
      | else-loop-test w ↦ going_end (is the.Comma) (behind_key the.Comma g.T.Parse.reads) c.loop.invariant (omega (arith, w.loop-test.false))
      | then-loop-test+then-not-sees w ↦
          let none : begins the.Comma c.loop.reader.1 ≡ false = cc in
          going_stop (is the.Comma) (behind_key the.Comma g.T.Parse.reads) c.loop.invariant none
    ]
