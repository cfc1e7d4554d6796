use Rattle.ep_event.proofs.KindLemmas.{sense_put_together, sense_is_sound}
use Rattle.ep_event.proofs.action.Action.sense.Goals as goal

pub invariant_of-result : goal.invariant_of-result
invariant_of-result c =
    sense_is_sound c.args.agents c.args.f c.args.group c.in_ok-two_events.field-0 c.in_ok-told_apart_by.field-0 c.in_ok-from_slice.field-0 (rw c.in_ok-no.ensures at c.in_ok-two_events.ensures) c.in_ok-told_apart_by.ensures c.in_ok-from_slice.ensures c.requires.agents

pub returns : goal.returns
returns c =
    sense_put_together c.args.agents c.args.f c.args.group c.in_ok-two_events.field-0 c.in_ok-told_apart_by.field-0 c.in_ok-from_slice.field-0 (rw c.in_ok-no.ensures at c.in_ok-two_events.ensures) c.in_ok-told_apart_by.ensures c.in_ok-from_slice.ensures
