use Rattle.std.proofs.Common.{◌∙◌, ap, arith}
use Rattle.ep_theory.specs.Events.{Event, no_event}
use Rattle.ep_update.specs.Places.{label_of}
use Rattle.ep_update.proofs.ListLemmas.{map_push}
use Rattle.ep_update.proofs.labelling.labels.Goals as goal

pub loop-e-preserved : goal.loop-e-preserved
loop-e-preserved c =
    map_push (λ (event : Event). label_of c.args.s.now event.pre) c.args.a.now.events c.loop-e.e no_event c.loop-e.rows c.push.new.self c.in_ok-label.field-0
    (omega (arith, c.loop-e-test.true, c.events-e-end.ensures.value)) c.loop-e.invariant (c.in_ok-label.ensures.tested ∙ ap (label_of c.args.s.now) c.pre.ensures.value) c.in_ok-push.ensures.ok
