use Rattle.std.proofs.Common.{◌∙◌, ap}
use Rattle.ep_event.specs.declared.parts.Assign.{Assign}
use Rattle.ep_update.specs.Places.{label_of}
use Rattle.ep_update.proofs.ListLemmas.{map_push}
use Rattle.ep_update.proofs.labelling.assigned_labels.Goals as goal

pub loop-set-preserved : goal.loop-set-preserved
loop-set-preserved c =
    map_push (λ (set : Assign). label_of c.args.s.now set.value) c.args.sets.now c.loop-set.set-index c.set-item.result c.loop-set.rows c.push.new.self c.in_ok-label.field-0
    c.loop-set-test.true c.loop-set.invariant (c.in_ok-label.ensures.tested ∙ ap (λ (set : Assign). label_of c.args.s.now set.value) c.set-item.is) c.in_ok-push.ensures.ok
