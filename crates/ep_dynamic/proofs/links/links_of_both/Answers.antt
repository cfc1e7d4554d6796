use Rattle.std.proofs.Common.{◌∙◌, length, ap}
use Rattle.ep_dynamic.proofs.LinkLemmas.{among_more, among_all, end_within}
use Rattle.ep_dynamic.proofs.links.links_of_both.Goals as goal

pub put_links-requires-clause-from : goal.put_links-requires-clause-from
put_links-requires-clause-from c = (end_within c.as_slice-at-items.result.now c.loop-at.at-index (length c.args.pairs.now) c.loop-at-test.true (c.as_slice-at-items.ensures ∙ c.in_ok-ends.ensures)).0

pub put_links-requires-clause-to : goal.put_links-requires-clause-to
put_links-requires-clause-to c = (end_within c.as_slice-at-items.result.now c.loop-at.at-index (length c.args.pairs.now) c.loop-at-test.true (c.as_slice-at-items.ensures ∙ c.in_ok-ends.ensures)).1

pub loop-at-preserved : goal.loop-at-preserved
loop-at-preserved c = among_more c.args.a.now c.args.b.now c.as_slice-at-items.result.now c.loop-at.at-index c.loop-at.links c.put_links.new.links c.loop-at-test.true c.loop-at.invariant c.in_ok-put_links.ensures

pub returns : goal.returns
returns c = among_all c.args.a.now c.args.b.now c.as_slice-at-items.result.now c.loop-at.at-index (length c.args.pairs.now) c.loop-at.links c.loop-at-test.false
    (c.as_slice-at-items.ensures ∙ c.in_ok-ends.ensures) (ap length c.requires.pairs) c.loop-at.invariant
