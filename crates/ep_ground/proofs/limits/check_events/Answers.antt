use Rattle.std.proofs.Common.{◌≡◌, ◌∙◌, get_or, arith}
use Rattle.ep_ground.proofs.FirstLemmas.{many_here, many_nowhere}
use Rattle.ep_ground.proofs.limits.check_events.Goals as goal

pub returns-then-count-gt-MOST_EVENTS : goal.returns-then-count-gt-MOST_EVENTS
returns-then-count-gt-MOST_EVENTS c =
    many_here c.args.schemas.now c.loop-number.number c.event_count-count.result c.index-schemas-number.result (omega (arith, c.loop-number-test.true)) c.index-schemas-number.is c.event_count-count.ensures
    (omega (arith, c.if-count-gt-MOST_EVENTS.true)) c.loop-number.invariant

pub returns : goal.returns
returns c = many_nowhere c.args.schemas.now c.loop-number.number (omega (arith, c.loop-number-test.false)) c.loop-number.invariant
