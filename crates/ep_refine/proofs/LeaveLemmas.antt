-- The blocks between two places, of which a largest one is kept.
use Rattle.std.proofs.Common.{◌≡◌, ℕ, ◌<◌, ◌≤◌, ◌+◌, ◌-◌, ◌*◌, ◌⊎◌, inl, inr, ⊎_elim, List, [], ◌∷◌, ◌++◌, length, get_or, take, slice_index, sym, ap, subst, ◌∙◌, arith}
use Rattle.std.proofs.lemmas.List.{take_more}
use Rattle.ep_theory.specs.Rising.{IsIn}
use Rattle.ep_theory.proofs.CallerLemmas.{in_left, in_right, in_parts}
use Rattle.ep_refine.specs.declared.blocks.Blocks.{Blocks}
use Rattle.ep_refine.specs.Blocks.{AreBlocks, rank_of, start_of, end_of}
use Rattle.ep_refine.specs.Touching.{Adds}
use Rattle.ep_refine.specs.Rounds.{size_of, IsClosed, Leaves, AreLeft}
use Rattle.ep_refine.proofs.BlockLemmas.{lt_or_le}

module _ (n : ℕ) (b : Blocks) (valid : AreBlocks n b) where
  O : ℕ → ℕ
  O = slice_index b.order.items

  -- worlds of one block
  pub block_size : (u v : ℕ) → rank_of b u ≡ rank_of b v → size_of b u ≡ size_of b v
  block_size u v e = ap (λ r. slice_index b.ends.items r - slice_index b.starts.items r) e

  -- the places of a block after one of its places
  pub same_block : (p q : ℕ) → p < n → p ≤ q → q < end_of b (slice_index b.order.items p) → rank_of b (slice_index b.order.items q) ≡ rank_of b (slice_index b.order.items p)
  same_block p q l f t =
      let o = valid.parts.ordered p l in
      let s = valid.parts.start_place (slice_index b.order.items p) o.0 in
      let e = o.1 in
      valid.parts.alike (slice_index b.order.items p) q o.0 (omega (arith, s, e, f)) t

  pub end_ahead : (p : ℕ) → p < n → p < end_of b (slice_index b.order.items p)
  end_ahead p l = let o = valid.parts.ordered p l in let t = valid.parts.place_end (slice_index b.order.items p) o.0 in let e = o.1 in omega (arith, t, e)

  -- two blocks are one or apart
  pub blocks_apart : (u w : ℕ) → u < n → w < n → slice_index b.place.items u < start_of b w → end_of b u ≤ start_of b w
  blocks_apart u w a c l = ⊎_elim
      (λ (g : start_of b w < end_of b u).
      let s = valid.parts.start_place u a in
      let k = valid.parts.start_place w c in let j = valid.parts.place_end w c in
      let x = valid.parts.alike u (start_of b w) a (omega (arith, s, l)) g in
      let y = valid.parts.alike w (start_of b w) c (omega arith) (omega (arith, k, j)) in
      let e : start_of b u ≡ start_of b w = ap (slice_index b.starts.items) (sym x ∙ y) in
      absurd (omega (arith, e, s, l)))
      (λ (h : end_of b u ≤ start_of b w). h)
      (lt_or_le (start_of b w) (end_of b u))

  pub blocks_behind : (u w : ℕ) → u < n → w < n → end_of b w ≤ slice_index b.place.items u → end_of b w ≤ start_of b u
  blocks_behind u w a c l = ⊎_elim
      (λ (g : start_of b u < end_of b w).
      ⊎_elim
      (λ (h : start_of b w ≤ start_of b u).
      let x = valid.parts.alike w (start_of b u) c h g in
      let k = valid.parts.start_place u a in let j = valid.parts.place_end u a in
      let y = valid.parts.alike u (start_of b u) a (omega arith) (omega (arith, k, j)) in
      let e : end_of b u ≡ end_of b w = ap (slice_index b.ends.items) (sym y ∙ x) in
      absurd (omega (arith, e, j, l)))
      (λ (h : start_of b u < start_of b w).
      let k = valid.parts.start_place w c in let j = valid.parts.place_end w c in
      let i = valid.parts.place_end u a in
      let x = valid.parts.alike u (start_of b w) a (omega (arith, h)) (omega (arith, k, j, l, i)) in
      let y = valid.parts.alike w (start_of b w) c (omega arith) (omega (arith, k, j)) in
      let e : start_of b u ≡ start_of b w = ap (slice_index b.starts.items) (sym x ∙ y) in
      absurd (omega (arith, e, h)))
      (le_or_lt (start_of b w) (start_of b u)))
      (λ (h : end_of b w ≤ start_of b u). h)
      (lt_or_le (start_of b u) (end_of b w))
    where
      le_or_lt : (m n : ℕ) → (m ≤ n) ⊎ (n < m)
      le_or_lt m n = grind arith

  -- one block between two places is kept
  module _ (from to p : ℕ) (inside : to ≤ n) (closed : IsClosed b from to) (f_p : from ≤ p) (p_t : p < to)
      (largest : (q : ℕ) → from ≤ q → q < to → size_of b (slice_index b.order.items q) ≤ size_of b (slice_index b.order.items p)) (before mid after : List ℕ)
      (first : Adds (λ u. (u < n) × (from ≤ slice_index b.place.items u) × (slice_index b.place.items u < start_of b (slice_index b.order.items p))) before mid)
      (second : Adds (λ u. (u < n) × (end_of b (slice_index b.order.items p) ≤ slice_index b.place.items u) × (slice_index b.place.items u < to)) mid after) where
    p_n : p < n
    p_n = omega (arith, p_t, inside)

    w_n : slice_index b.order.items p < n
    w_n = (valid.parts.ordered p p_n).0

    kept_rank : (q : ℕ) → from ≤ q → q < to → (IsIn (slice_index b.order.items q) after → ⊥) → rank_of b (slice_index b.order.items q) ≡ rank_of b (slice_index b.order.items p)
    kept_rank q f t out =
        let q_n : q < n = omega (arith, t, inside) in
        let o = valid.parts.ordered q q_n in
        let e = o.1 in
        valid.parts.alike (slice_index b.order.items p) q w_n
        (⊎_elim (λ (l : q < start_of b (slice_index b.order.items p)). absurd (out (second.keeps (slice_index b.order.items q) (first.adds (slice_index b.order.items q) (o.0, omega (arith, e, f), omega (arith, e, l))))))
        (λ (l : start_of b (slice_index b.order.items p) ≤ q). l) (lt_or_le q (start_of b (slice_index b.order.items p))))
        (⊎_elim (λ (l : q < end_of b (slice_index b.order.items p)). l)
        (λ (l : end_of b (slice_index b.order.items p) ≤ q). absurd (out (second.adds (slice_index b.order.items q) (o.0, omega (arith, e, l), omega (arith, e, t)))))
        (lt_or_le q (end_of b (slice_index b.order.items p))))

    size_at : (u : ℕ) → u < n → from ≤ slice_index b.place.items u → slice_index b.place.items u < to → (size_of b u ≤ size_of b (slice_index b.order.items p)) × (from ≤ start_of b u) × (end_of b u ≤ to)
    size_at u l f t =
        let e = (valid.parts.placed u l).1 in
        let c = closed (slice_index b.place.items u) f t in (
          subst (λ v. size_of b v ≤ size_of b (slice_index b.order.items p)) e (largest (slice_index b.place.items u) f t),
          subst (λ v. from ≤ start_of b v) e c.0,
          subst (λ v. end_of b v ≤ to) e c.1,
        )

    pub leaves : Leaves b from to before after
    leaves = record {
      keeps = λ u i. second.keeps u (first.keeps u i);
      one = λ x y f t g h i j. kept_rank x f t i ∙ sym (kept_rank y g h j);
      only = λ u i. ⊎_elim
          (λ (k : IsIn u mid). ⊎_elim (λ (d : IsIn u before). inl d)
          (λ (d : (u < n) × (from ≤ slice_index b.place.items u) × (slice_index b.place.items u < start_of b (slice_index b.order.items p))).
          let c = closed p f_p p_t in let c1 = c.1 in let c0 = c.0 in
          let wp = valid.parts.place_end (slice_index b.order.items p) w_n in
          let ws = valid.parts.start_place (slice_index b.order.items p) w_n in
          let d2 = d.2 in
          let below : slice_index b.place.items u < to = omega (arith, d2, c1, ws, wp) in
          let z = size_at u d.0 d.1 below in
          let z0 = z.0 in let z1 = z.1 in
          let a = blocks_apart u (slice_index b.order.items p) d.0 w_n d.2 in
          inr (d.1, below, omega (arith, z0, z1, a, c1, ws, wp)))
          (first.only u k))
          (λ (d : (u < n) × (end_of b (slice_index b.order.items p) ≤ slice_index b.place.items u) × (slice_index b.place.items u < to)).
          let c = closed p f_p p_t in let c0 = c.0 in
          let wp = valid.parts.place_end (slice_index b.order.items p) w_n in
          let ws = valid.parts.start_place (slice_index b.order.items p) w_n in
          let d1 = d.1 in
          let above : from ≤ slice_index b.place.items u = omega (arith, d1, c0, ws, wp) in
          let z = size_at u d.0 above d.2 in
          let z0 = z.0 in let z2 = z.2 in
          let a = blocks_behind u (slice_index b.order.items p) d.0 w_n d.1 in
          inr (above, d.2, omega (arith, z0, z2, a, c0, ws, wp)))
          (second.only u i);
    }

only : (v y : ℕ × ℕ) → IsIn v (y ∷ []) → v ≡ y
only v y (inl k) = k
only v y (inr k) = absurd k

pub left_none : (b : Blocks) (spans : List (ℕ × ℕ)) → AreLeft b (take 0 spans) []
left_none b spans = record { one = λ s i. absurd i; only = λ u i. absurd i }

-- one more span
pub left_more : (b : Blocks) (spans : List (ℕ × ℕ)) (i : ℕ) (before after : List ℕ) (s : ℕ × ℕ) → i < length spans → s ≡ get_or spans i (0, 0) → AreLeft b (take i spans) before → Leaves b s.0 s.1 before after → AreLeft b (take (i + 1) spans) after
left_more b spans i before after s l e h g = record {
  one = λ x j p q f t f' t' k m. ⊎_elim
      (λ (y : IsIn x (take i spans)). h.one x y p q f t f' t' (λ z. k (g.keeps (slice_index b.order.items p) z)) (λ z. m (g.keeps (slice_index b.order.items q) z)))
      (λ (y : x ≡ s). g.one p q (subst (λ (v : ℕ × ℕ). v.0 ≤ p) y f) (subst (λ (v : ℕ × ℕ). p < v.1) y t) (subst (λ (v : ℕ × ℕ). v.0 ≤ q) y f') (subst (λ (v : ℕ × ℕ). q < v.1) y t') k m)
      (which x j);
  only = λ u j. ⊎_elim
      (λ (k : IsIn u before). let r = h.only u k in (r.0, subst (IsIn r.0) (sym more) (in_left r.0 (take i spans) (get_or spans i (0, 0) ∷ []) r.1), r.2, r.3, r.4))
      (λ (k : (s.0 ≤ slice_index b.place.items u) × (slice_index b.place.items u < s.1) × (2 * size_of b u ≤ s.1 - s.0)).
      (s, subst (IsIn s) (sym more) (in_right s (take i spans) (get_or spans i (0, 0) ∷ []) (inl e)), k.0, k.1, k.2))
      (g.only u j);
}
  where
    more : take (i + 1) spans ≡ take i spans ++ get_or spans i (0, 0) ∷ []
    more = take_more spans i (0, 0) l

    which : (x : ℕ × ℕ) → IsIn x (take (i + 1) spans) → IsIn x (take i spans) ⊎ (x ≡ s)
    which x j = ⊎_elim (λ (y : IsIn x (take i spans)). inl y) (λ (y : IsIn x (get_or spans i (0, 0) ∷ [])). inr (only x (get_or spans i (0, 0)) y ∙ sym e))
        (in_parts x (take i spans) (get_or spans i (0, 0) ∷ []) (subst (IsIn x) more j))
