use Rattle.ep_dynamic.proofs.EventLemmas.{pair_events}
use Rattle.ep_dynamic.proofs.events.events_by_both.Goals as goal

pub event_by_both-requires-clause-first : goal.event_by_both-requires-clause-first
event_by_both-requires-clause-first c = (pair_events c.args.a.now c.args.b.now c.args.pairs.now c.loop-at.at-index c.requires c.loop-at-test.true).0

pub event_by_both-requires-clause-second : goal.event_by_both-requires-clause-second
event_by_both-requires-clause-second c = (pair_events c.args.a.now c.args.b.now c.args.pairs.now c.loop-at.at-index c.requires c.loop-at-test.true).1
