use Rattle.std.proofs.Common.{length, take}
use Rattle.ep_refine.specs.Touching.{Listed}
use Rattle.ep_refine.specs.Rounds.{AreLeft}
use Rattle.ep_refine.proofs.leaving.leave.Given as goal

abbrev pub invariant-loop-from : goal.invariant-loop-from
invariant-loop-from l = record {
  listed : Listed (length l.b.order.items) l.left l.moved.items;
  left : AreLeft l.b (take l.from-index l.spans) l.moved.items;
}
