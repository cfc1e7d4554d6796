use Rattle.std.proofs.Common.{refl, add-one}
use Rattle.ep_event.proofs.KindLemmas.{has_is_member}
use Rattle.ep_event.proofs.relations.told_apart_by.Goals as goal

pub loop-n-preserved : goal.loop-n-preserved
loop-n-preserved c =
    let member = has_is_member c.has.result c.args.group.now c.loop-n.n c.has.ensures in
    rw (c.in_ok-push.ensures.ok, c.loop-n.invariant, c.in_ok-row_pair.ensures, member, add-one) refl
