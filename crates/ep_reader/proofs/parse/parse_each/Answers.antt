use Rattle.std.proofs.Common.{◌≡◌, ◌+◌, ◌-◌, true, false, arith}
use Rattle.std.proofs.lemmas.Result.{err_from_is_err_and}
use Rattle.ep_reader.specs.Reading.{heads}
use Rattle.ep_reader.proofs.Loops.{going_on, going_stop, going_stops, going_end}
use Rattle.ep_reader.proofs.parse.parse_each.Goals as goal
use Rattle.ep_reader.proofs.parse.parse_each.Goals.{else-loop-test, then-loop-test+then-not-begins}

pub returns-in_err-item : goal.returns-in_err-item
returns-in_err-item g c =
    let here : heads g.T.Parse.starts c.loop.reader.1 ≡ true = cc in
    let rest = c.tokens_left-end.result - (c.loop.counter + 1) in
    let p = err_from_is_err_and c.from_residual.result c.from_residual.ensures.1 in
    rw (p.1, p.2) (going_stops g.T.Parse.starts g.T.Parse.reads rest (omega (arith, c.loop-test.true)) c.loop.invariant here _ c.in_err-item.ensures)

pub loop-preserved : goal.loop-preserved
loop-preserved g c =
    let here : heads g.T.Parse.starts c.loop.reader.1 ≡ true = cc in
    let rest = c.tokens_left-end.result - (c.loop.counter + 1) in
    rw c.in_ok-push.ensures.ok
    (going_on g.T.Parse.starts g.T.Parse.reads rest (omega (arith, c.loop-test.true)) c.loop.invariant here _ c.in_ok-item.ensures)

pub returns : goal.returns
returns g c =
    elim c.loop-test.branch [
      | else-loop-test w ↦ going_end g.T.Parse.starts g.T.Parse.reads c.loop.invariant (omega (arith, w.loop-test.false))
      | then-loop-test+then-not-begins w ↦
          let none : heads g.T.Parse.starts c.loop.reader.1 ≡ false = cc in
          going_stop g.T.Parse.starts g.T.Parse.reads c.loop.invariant none
    ]
