use Rattle.std.proofs.Common.{◌<◌, length, arith, refl}
use Rattle.std.proofs.lemmas.Bool.{false≢true}
use Rattle.ep_theory.specs.Events.{event_at, no_event}
use Rattle.ep_theory.specs.Fits.{EventFits}
use Rattle.ep_theory.proofs.CallerLemmas.{All-at}
use Rattle.ep_update.proofs.FittingLemmas.{event_fits}
use Rattle.ep_update.proofs.ListLemmas.{all_more}
use Rattle.ep_update.proofs.fitting.events_fit.Goals as goal

pub returns-then-not-event_fits : goal.returns-then-not-event_fits
returns-then-not-event_fits c =
    let here : c.loop-e.e < length c.args.a.now.events = omega (arith, c.loop-e-test.true, c.events-e-end.ensures.value) in
    let fits = event_fits c.args.s.now (event_at c.args.a.now c.loop-e.e) c.pre.result.now c.sets.result.now c.as_slice.result.now c.pre.ensures.value c.sets.ensures.value c.as_slice.ensures in
    (λ t. absurd (false≢true t), λ all. c.if-not-event_fits.ensures.1 (fits.1 (All-at (EventFits c.args.s.now) c.args.a.now.events c.loop-e.e no_event here all)))

pub loop-e-preserved : goal.loop-e-preserved
loop-e-preserved c =
    let here : c.loop-e.e < length c.args.a.now.events = omega (arith, c.loop-e-test.true, c.events-e-end.ensures.value) in
    let fits = event_fits c.args.s.now (event_at c.args.a.now c.loop-e.e) c.pre.result.now c.sets.result.now c.as_slice.result.now c.pre.ensures.value c.sets.ensures.value c.as_slice.ensures in
    all_more (EventFits c.args.s.now) c.args.a.now.events c.loop-e.e no_event here c.loop-e.invariant (fits.0 (c.if-not-event_fits.ensures.0 refl))
