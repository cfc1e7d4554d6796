use Rattle.ep_update.proofs.RowLemmas.{place_in}
use Rattle.ep_update.proofs.truth.truth_table.Goals as goal

pub push_truth-requires-clause-world : goal.push_truth-requires-clause-world
push_truth-requires-clause-world c = (place_in c.args.s.now c.args.a.now c.args.list.now c.loop-at.at-index c.requires.list c.loop-at-test.true).0

pub push_truth-requires-clause-event : goal.push_truth-requires-clause-event
push_truth-requires-clause-event c = (place_in c.args.s.now c.args.a.now c.args.list.now c.loop-at.at-index c.requires.list c.loop-at-test.true).1
