use Rattle.std.proofs.Common.{[], ◌∙◌}
use Rattle.std.proofs.lemmas.List.{get_or_default}
use Rattle.ep_apart.proofs.MissedLemmas.{each_push, within_row, IsWithinRow}
use Rattle.ep_apart.proofs.missed.all_within.Goals as goal

pub loop-row-preserved : goal.loop-row-preserved
loop-row-preserved c =
    let told = c.args.told.now in
    let i = c.loop-row.row-index in
    each_push [] (IsWithinRow c.args.q.now c.args.agent.n told) c.loop-row.all c.push.new.self c.in_ok-all_within.field-0 i c.loop-row.invariant
    (within_row c.args.q.now c.args.agent.n i told c.relation.result.now c.row-item.result c.in_ok-all_within.field-0
    (c.row-item.is ∙ get_or_default told i c.row-item.result [] c.loop-row-test.true) c.relation.ensures.rows c.relation.ensures.each c.in_ok-all_within.ensures)
    c.in_ok-push.ensures.ok
