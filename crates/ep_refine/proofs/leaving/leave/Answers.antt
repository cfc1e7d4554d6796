use Rattle.std.proofs.Common.{◌≡◌, ℕ, List, take, take_all, get_or, subst, refl}
use Rattle.ep_refine.specs.Touching.{Listed}
use Rattle.ep_refine.specs.Rounds.{AreLeft}
use Rattle.ep_refine.proofs.LeaveLemmas.{left_more}
use Rattle.ep_refine.proofs.leaving.leave.Goals as goal

pub loop-from-preserved : goal.loop-from-preserved
loop-from-preserved c = record {
  listed = subst (λ m. Listed m c.leave_span.new.left c.leave_span.new.moved.items) c.loop-from.invariant.listed.long c.in_ok-leave_span.ensures.listed;
  left = left_more c.args.b.now c.args.spans.now c.loop-from.from-index c.loop-from.moved.items c.leave_span.new.moved.items (get_or c.args.spans.now c.loop-from.from-index (0, 0)) c.loop-from-test.true refl
      c.loop-from.invariant.left c.in_ok-leave_span.ensures.leaves;
}

pub returns-clause-left : goal.returns-clause-left
returns-clause-left c =
    let all : take c.loop-from.from-index c.args.spans.now ≡ c.args.spans.now = take_all _ _ c.loop-from-test.false in
    subst (λ (s : List (ℕ × ℕ)). AreLeft c.args.b.now s c.loop-from.moved.items) all c.loop-from.invariant.left
