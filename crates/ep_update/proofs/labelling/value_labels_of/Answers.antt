use Rattle.std.proofs.Common.{◌<◌, ◌∙◌, ℕ, sym, subst, length, arith, map}
use Rattle.std.specs.List.{AllByRecursion}
use Rattle.ep_logic.specs.declared.formula.Node.{Node}
use Rattle.ep_theory.specs.Events.{Event, event_at, no_event}
use Rattle.ep_theory.specs.Fits.{EventFits, SetFits}
use Rattle.ep_theory.proofs.CallerLemmas.{All-at}
use Rattle.ep_update.specs.Assigned.{AssignFits}
use Rattle.ep_update.specs.Places.{label_of}
use Rattle.ep_update.proofs.FittingLemmas.{from_sets}
use Rattle.ep_update.proofs.LabelLemmas.{kept_labels}
use Rattle.ep_update.proofs.ListLemmas.{map_push}
use Rattle.ep_update.proofs.labelling.value_labels_of.Goals as goal

pub assigned_labels-requires : goal.assigned_labels-requires
assigned_labels-requires c =
    let here : c.loop-e.e < length c.args.a.now.events = omega (arith, c.loop-e-test.true, c.events-e-end.ensures.value) in
    let fits = All-at (EventFits c.args.s.now) c.args.a.now.events c.loop-e.e no_event here c.requires.events in
    subst (AllByRecursion (AssignFits c.args.s.now)) (sym c.as_slice.ensures) (from_sets c.args.s.now c.sets.result.now (subst (AllByRecursion (SetFits c.args.s.now)) (sym c.sets.ensures.value) fits.sets))

pub loop-e-preserved : goal.loop-e-preserved
loop-e-preserved c =
    map_push (λ (event : Event). map (λ (set : ℕ × Node). label_of c.args.s.now set.1) event.sets) c.args.a.now.events c.loop-e.e no_event c.loop-e.all c.push.new.self c.in_ok-assigned_labels.field-0
    (omega (arith, c.loop-e-test.true, c.events-e-end.ensures.value)) c.loop-e.invariant
    (c.in_ok-assigned_labels.ensures ∙ kept_labels c.args.s.now c.as_slice.result.now c.sets.result.now (event_at c.args.a.now c.loop-e.e).sets c.as_slice.ensures c.sets.ensures.value)
    c.in_ok-push.ensures.ok
