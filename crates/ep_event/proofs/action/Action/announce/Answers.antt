use Rattle.std.proofs.Common.{refl, []}
use Rattle.ep_event.proofs.KindLemmas.{assign_put_together, assign_is_sound}
use Rattle.ep_event.proofs.action.Action.announce.Goals as goal

pub invariant_of-result : goal.invariant_of-result
invariant_of-result c =
    assign_is_sound c.args.agents c.args.f [] c.in_ok-one_event.field-0 c.in_ok-loops.field-0 c.in_ok-from_slice.field-0 (rw c.new.ensures at c.in_ok-one_event.ensures) c.in_ok-loops.ensures c.in_ok-from_slice.ensures refl c.requires

pub returns : goal.returns
returns c =
    assign_put_together c.args.agents c.args.f [] c.in_ok-one_event.field-0 c.in_ok-loops.field-0 c.in_ok-from_slice.field-0 (rw c.new.ensures at c.in_ok-one_event.ensures) c.in_ok-loops.ensures c.in_ok-from_slice.ensures
