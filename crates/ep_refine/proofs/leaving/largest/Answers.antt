use Rattle.std.proofs.Common.{◌≡◌, ◌<◌, ◌≤◌, length, slice_index, ⊎_elim, ap, ◌∙◌, arith}
use Rattle.ep_refine.specs.Blocks.{end_of}
use Rattle.ep_refine.proofs.BlockLemmas.{lt_or_le}
use Rattle.ep_refine.proofs.LeaveLemmas.{same_block, end_ahead, block_size}
use Rattle.ep_refine.proofs.leaving.largest.Goals as goal

pub loop-p-preserved : goal.loop-p-preserved
loop-p-preserved c =
    let n = length c.args.b.now.order.items in
    let b = c.args.b.now in
    let l = c.loop-p in
    let p = l.p in
    let best = c.larger-best.result in
    let e = c.larger-best.ensures in
    let t = c.loop-p-test.true in
    let d = c.requires.inside in
    let p_n : p < n = omega (arith, t, d) in
    let i = l.invariant in
    let i0 = i.from in let i1 = i.to in let i2 = i.here in
    let w = c.world_at.ensures.here in
    let end_is : c.end-p.result ≡ end_of b (slice_index b.order.items p) = c.end-p.ensures ∙ ap (end_of b) w in
    let ahead = end_ahead n b c.requires.valid p p_n in
    let closed = (c.requires.closed p i2 t).1 in
    record {
      from = ⊎_elim (λ (q : best ≡ l.best). omega (arith, q, i0)) (λ (q : best ≡ p). omega (arith, q, i2)) e.one;
      to = ⊎_elim (λ (q : best ≡ l.best). omega (arith, q, i1)) (λ (q : best ≡ p). omega (arith, q, t)) e.one;
      here = omega (arith, end_is, ahead, i2);
      inside = omega (arith, end_is, closed);
      largest = λ q f g. ⊎_elim
          (λ (h : q < p). let a = i.largest q f h in let k = e.first in omega (arith, a, k))
          (λ (h : p ≤ q).
          let a = block_size n b c.requires.valid (slice_index b.order.items q) (slice_index b.order.items p) (same_block n b c.requires.valid p q p_n h (omega (arith, end_is, g))) in
          let k = e.second in omega (arith, a, k))
          (lt_or_le q p);
    }
