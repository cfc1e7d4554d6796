use Rattle.std.proofs.Common.{◌≡◌, ◌+◌, subst, sym, ap, ◌∙◌, arith}
use Rattle.std.specs.List.{range_with_len}
use Rattle.ep_refine.specs.declared.blocks.Blocks.{Blocks}
use Rattle.ep_refine.specs.Blocks.{AreBlocks}
use Rattle.ep_refine.proofs.StartLemmas.{range_next, one_block_is, rank_at}
use Rattle.ep_refine.proofs.rounds.one_block.Goals as goal

pub loop-w-preserved : goal.loop-w-preserved
loop-w-preserved c = record {
  order = range_next c.loop-w.order.items c.push.new.self.items c.loop-w.w (c.loop-w.w + 1) c.loop-w.invariant.order c.in_ok-push.ensures.items (omega arith);
  place = range_next c.loop-w.place.items c.push-in-loop-w.new.self.items c.loop-w.w (c.loop-w.w + 1) c.loop-w.invariant.place c.in_ok-push-2.ensures.items (omega arith);
}

pub returns-clause-valid : goal.returns-clause-valid
returns-clause-valid c =
    let n = c.worlds-n.result in
    let v = c.worlds-n.ensures.value in
    let q : c.loop-w.w ≡ n = (let t = c.loop-w-test.false in let a = c.loop-w.auto.w-end in omega (arith, t, a)) in
    let some = c.worlds-n.ensures.valid.some_world in
    let few = c.worlds-n.ensures.bounded.worlds in
    let b : Blocks = (record { order = c.loop-w.order; place = c.loop-w.place; ranks = c.in_ok-ranks.ranks; starts = c.in_ok-starts.starts; ends = c.in_ok-ends.ends }) in
    subst (λ m. AreBlocks m b) v
    (one_block_is n b (omega (arith, v, some)) (omega (arith, v, few)) (c.loop-w.invariant.order ∙ ap (range_with_len 0) q) (c.loop-w.invariant.place ∙ ap (range_with_len 0) q)
    (c.in_ok-ranks.ensures.items_if_clones_equal (λ y e. e)) (c.in_ok-starts.ensures.items_if_clones_equal (λ y e. e)) (c.in_ok-ends.ensures.items_if_clones_equal (λ y e. e)))

pub returns-clause-one : goal.returns-clause-one
returns-clause-one c = λ u v a b.
    let n = c.worlds-n.result in
    let w = c.worlds-n.ensures.value in
    let q : c.loop-w.w ≡ n = (let t = c.loop-w-test.false in let a = c.loop-w.auto.w-end in omega (arith, t, a)) in
    let some = c.worlds-n.ensures.valid.some_world in
    let few = c.worlds-n.ensures.bounded.worlds in
    let at = rank_at n (record { order = c.loop-w.order; place = c.loop-w.place; ranks = c.in_ok-ranks.ranks; starts = c.in_ok-starts.starts; ends = c.in_ok-ends.ends }) (omega (arith, w, some)) (omega (arith, w, few))
    (c.loop-w.invariant.order ∙ ap (range_with_len 0) q) (c.loop-w.invariant.place ∙ ap (range_with_len 0) q)
    (c.in_ok-ranks.ensures.items_if_clones_equal (λ y e. e)) (c.in_ok-starts.ensures.items_if_clones_equal (λ y e. e)) (c.in_ok-ends.ensures.items_if_clones_equal (λ y e. e)) in
    at u (omega (arith, a, w)) ∙ sym (at v (omega (arith, b, w)))
