use Rattle.std.proofs.Common.{length}
use Rattle.ep_refine.specs.Rounds.{Seen}
use Rattle.ep_refine.proofs.rounds.find_rests.Given as goal

abbrev pub invariant-loop-w : goal.invariant-loop-w
invariant-loop-w l = Seen (length l.b.order.items) l.b l.touched.left l.touched.worlds.items l.unseen l.worlds.items l.spans.items l.w-index
