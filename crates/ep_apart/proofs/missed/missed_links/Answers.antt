use Rattle.std.proofs.Common.{[], subst}
use Rattle.ep_apart.specs.Missed.{AreJoined, AreMissed, AreWithin, MarkLines}
use Rattle.ep_apart.proofs.MissedLemmas.{each_push, missed}
use Rattle.ep_apart.proofs.missed.missed_links.Goals as goal

pub loop-a-preserved : goal.loop-a-preserved
loop-a-preserved c = each_push [] (AreMissed c.args.q.now c.args.table.now) c.loop-a.all c.push.new.self c.in_ok-rows.rows c.loop-a.a c.loop-a.invariant
    (missed c.args.q.now c.worlds.ensures.valid c.args.table.now c.loop-a.a c.in_ok-told.told c.in_ok-within.within c.in_ok-rows.rows (subst (λ n. MarkLines c.args.table.now n c.in_ok-told.told) c.worlds.ensures.value c.in_ok-told.ensures) (subst (λ t. AreWithin c.args.q.now c.loop-a.a t c.in_ok-within.within) c.as_slice.ensures c.in_ok-within.ensures)
    (subst (λ w. AreJoined c.args.q.now c.loop-a.a w c.in_ok-rows.rows) c.as_slice-in-loop-a.ensures c.in_ok-rows.ensures))
    c.in_ok-push.ensures.ok
