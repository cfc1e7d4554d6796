use Rattle.std.proofs.Common.{◌≡◌, ◌<◌, ◌≤◌, ◌+◌, suc, length, slice_index, ⊎_elim, inl, inr, subst, sym, ap, ◌∙◌, arith}
use Rattle.ep_theory.proofs.CallerLemmas.{last_or_before}
use Rattle.ep_refine.specs.Touching.{Listed, Adds}
use Rattle.ep_refine.proofs.TouchLemmas.{adds_both}
use Rattle.ep_refine.proofs.leaving.note_places.Goals as goal

pub loop-p-preserved : goal.loop-p-preserved
loop-p-preserved c =
    let n = length c.args.b.now.order.items in
    let P = slice_index c.args.b.now.place.items in
    let p = c.loop-p.p in
    let w = c.world_at.result in
    let t = c.loop-p-test.true in
    let f = c.loop-p.auto.p in
    let d = c.requires.inside in
    let p_n : p < n = omega (arith, t, d) in
    let w_is = c.world_at.ensures.here in
    let place_w : P w ≡ p = ap P w_is ∙ (c.requires.valid.parts.ordered p p_n).1 in
    record {
      listed = subst (λ m. Listed m c.note.new.left c.note.new.list.items) c.loop-p.invariant.listed.long c.in_ok-note.ensures.listed;
      adds = adds_both (λ u. (u < n) × (c.args.from ≤ P u) × (P u < p)) (λ u. u ≡ w) (λ u. (u < n) × (c.args.from ≤ P u) × (P u < p + 1)) c.args.moved.now.items c.loop-p.moved.items c.note.new.list.items
          (λ u h. ⊎_elim
          (λ (q : P u ≡ p). inr (sym (c.requires.valid.parts.placed u h.0).1 ∙ ap (slice_index c.args.b.now.order.items) q ∙ sym w_is))
          (λ (l : P u < p). inl (h.0, h.1, l))
          (last_or_before (P u) p (let k = h.2 in let z : P u < suc p = omega (arith, k) in z)))
          (λ u h. ⊎_elim
          (λ (k : (u < n) × (c.args.from ≤ P u) × (P u < p)). (k.0, k.1, (let l = k.2 in omega (arith, l))))
          (λ (q : u ≡ w). let e : P u ≡ p = ap P q ∙ place_w in let b = c.world_at.ensures.world in (omega (arith, q, b), omega (arith, e, f), omega (arith, e)))
          h)
          c.loop-p.invariant.adds c.in_ok-note.ensures.adds;
    }

pub returns-clause-adds : goal.returns-clause-adds
returns-clause-adds c =
    let t = c.loop-p-test.false in
    let e = c.loop-p.auto.p-end c.requires.rising in
    let q : c.loop-p.p ≡ c.args.to = omega (arith, t, e) in
    subst (λ to. Adds (λ u. (u < length c.args.b.now.order.items) × (c.args.from ≤ slice_index c.args.b.now.place.items u) × (slice_index c.args.b.now.place.items u < to)) c.args.moved.now.items c.loop-p.moved.items) q c.loop-p.invariant.adds
