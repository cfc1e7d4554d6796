-- For each block with a touched world one that is not, if there is one.
use Rattle.std.proofs.Common.{◌≡◌, ◌≢◌, ℕ, suc, ◌<◌, ◌≤◌, ◌+◌, ◌⊎◌, inl, inr, ⊎_elim, Bool, true, false, List, [], ◌∷◌, ◌++◌, length, get_or, set, refl, sym, ap, subst, ◌∙◌, arith, length-append}
use Rattle.std.proofs.lemmas.List.{length-set}
use Rattle.std.proofs.Math.ListN.{get_or-append}
use Rattle.std.proofs.Math.Seq.{get_or-append_seam}
use Rattle.ep_theory.specs.Rising.{IsIn}
use Rattle.ep_theory.proofs.CallerLemmas.{in_left, in_right, in_parts, last_or_before, IsIn-at}
use Rattle.ep_refine.specs.declared.blocks.Blocks.{Blocks}
use Rattle.ep_theory.specs.Kripke.{Kripke}
use Rattle.ep_theory.specs.Ranks.{signature}
use Rattle.ep_refine.specs.Touching.{is_listed, Listed}
use Rattle.ep_refine.specs.Blocks.{AreBlocks, rank_of, start_of, end_of}
use Rattle.ep_refine.specs.Rounds.{RestAlike, AreRests, AreSpans, IsAlone, Seen}
use Rattle.ep_refine.proofs.BlockLemmas.{same_or_not}
use Rattle.ep_refine.proofs.TouchLemmas.{in_marked, place_in, listed_here, listed_other}

-- where the block of a world starts and ends
abbrev pub block_at : Blocks → ℕ → ℕ × ℕ
block_at b w = (start_of b w, end_of b w)

only : {A : Type 0} (v y : A) → IsIn v (y ∷ []) → v ≡ y
only v y (inl k) = k
only v y (inr k) = absurd k

-- the block of the next world was seen
pub seen_same : (n : ℕ) (b : Blocks) (row : List Bool) (ws : List ℕ) (seen : List Bool) (rests : List ℕ) (spans : List (ℕ × ℕ)) (i : ℕ) → Seen n b row ws seen rests spans i → rank_of b (get_or ws i 0) < n → is_listed seen (rank_of b (get_or ws i 0)) ≡ true →
    Seen n b row ws seen rests spans (i + 1)
seen_same n b row ws seen rests spans i h c_n m = record {
  long = h.long;
  within = h.within;
  apart = h.apart;
  unmarked = h.unmarked;
  few = let f = h.few in omega (arith, f);
  has = λ k l. ⊎_elim (λ (q : k ≡ i). subst (λ z. is_listed seen (rank_of b (get_or ws z 0)) ≡ true) (sym q) m) (λ (d : k < i). h.has k d) (before k l);
  rest_has = h.rest_has;
  from = λ c a e. let k = h.from c a e in (k.0, (let l = k.1 in omega (arith, l)), k.2);
  each = λ u k a e l q. ⊎_elim
      (λ (z : k ≡ i). h.each u old.0 a e old.1 (old.2 ∙ ap (λ y. rank_of b (get_or ws y 0)) (sym z) ∙ q))
      (λ (d : k < i). h.each u k a e d q) (before k l);
  spanned = λ k l. ⊎_elim
      (λ (z : k ≡ i). subst (λ (s : ℕ × ℕ). IsIn s spans) (same_block old.0 k (old.2 ∙ ap (λ y. rank_of b (get_or ws y 0)) (sym z))) (h.spanned old.0 old.1))
      (λ (d : k < i). h.spanned k d) (before k l);
  spans_from = λ s j. let k = h.spans_from s j in (k.0, (let l = k.1 in omega (arith, l)), k.2, k.3);
}
  where
    before : (k : ℕ) → k < i + 1 → (k ≡ i) ⊎ (k < i)
    before k l = last_or_before k i (let z : k < suc i = omega (arith, l) in z)

    old : (k : ℕ) × (k < i) × (rank_of b (get_or ws k 0) ≡ rank_of b (get_or ws i 0))
    old = h.from (rank_of b (get_or ws i 0)) c_n m

    same_block : (j k : ℕ) → rank_of b (get_or ws j 0) ≡ rank_of b (get_or ws k 0) → block_at b (get_or ws j 0) ≡ block_at b (get_or ws k 0)
    same_block j k q = ap {B = ℕ × ℕ} (λ r. (get_or b.starts.items r 0, get_or b.ends.items r 0)) q

-- the block of the next world is new
module _ (n : ℕ) (b : Blocks) (row : List Bool) (ws : List ℕ) (seen : List Bool) (rests : List ℕ) (spans : List (ℕ × ℕ)) (i : ℕ) (h : Seen n b row ws seen rests spans i)
    (c_n : rank_of b (get_or ws i 0) < n) (new : is_listed seen (rank_of b (get_or ws i 0)) ≡ false) where
  seen' : List Bool
  seen' = set seen (rank_of b (get_or ws i 0)) false

  before : (k : ℕ) → k < i + 1 → (k ≡ i) ⊎ (k < i)
  before k l = last_or_before k i (let z : k < suc i = omega (arith, l) in z)

  here : is_listed (set seen (rank_of b (get_or ws i 0)) false) (rank_of b (get_or ws i 0)) ≡ true
  here = listed_here seen (rank_of b (get_or ws i 0)) (let e = h.long in omega (arith, e, c_n))

  mark : (x : ℕ) → is_listed seen x ≡ true → is_listed (set seen (rank_of b (get_or ws i 0)) false) x ≡ true
  mark x e = ⊎_elim
      (λ (q : x ≡ rank_of b (get_or ws i 0)). subst (λ y. is_listed (set seen (rank_of b (get_or ws i 0)) false) y ≡ true) (sym q) here)
      (λ (q : x ≢ rank_of b (get_or ws i 0)). listed_other seen (rank_of b (get_or ws i 0)) x q ∙ e)
      (same_or_not x (rank_of b (get_or ws i 0)))

  has' : (k : ℕ) → k < i + 1 → is_listed (set seen (rank_of b (get_or ws i 0)) false) (rank_of b (get_or ws k 0)) ≡ true
  has' k l = ⊎_elim (λ (q : k ≡ i). subst (λ z. is_listed (set seen (rank_of b (get_or ws i 0)) false) (rank_of b (get_or ws z 0)) ≡ true) (sym q) here) (λ (d : k < i). mark (rank_of b (get_or ws k 0)) (h.has k d)) (before k l)

  from' : (c : ℕ) → c < n → is_listed (set seen (rank_of b (get_or ws i 0)) false) c ≡ true → (k : ℕ) × (k < i + 1) × (rank_of b (get_or ws k 0) ≡ c)
  from' c a e = ⊎_elim
      (λ (q : c ≡ rank_of b (get_or ws i 0)). (i, omega arith, sym q))
      (λ (q : c ≢ rank_of b (get_or ws i 0)). let k = h.from c a (sym (listed_other seen (rank_of b (get_or ws i 0)) c q) ∙ e) in (k.0, (let l = k.1 in omega (arith, l)), k.2))
      (same_or_not c (rank_of b (get_or ws i 0)))

  spanned' : (k : ℕ) → k < i + 1 → IsIn (block_at b (get_or ws k 0)) (spans ++ block_at b (get_or ws i 0) ∷ [])
  spanned' k l = ⊎_elim
      (λ (q : k ≡ i). subst (λ z. IsIn (block_at b (get_or ws z 0)) (spans ++ block_at b (get_or ws i 0) ∷ [])) (sym q) (in_right (block_at b (get_or ws i 0)) spans (block_at b (get_or ws i 0) ∷ []) (inl (λ j. block_at b (get_or ws i 0)))))
      (λ (d : k < i). in_left (block_at b (get_or ws k 0)) spans (block_at b (get_or ws i 0) ∷ []) (h.spanned k d)) (before k l)

  spans_from' : (s : ℕ × ℕ) → IsIn s (spans ++ block_at b (get_or ws i 0) ∷ []) → (k : ℕ) × (k < i + 1) × (start_of b (get_or ws k 0) ≡ s.0) × (end_of b (get_or ws k 0) ≡ s.1)
  spans_from' s j = ⊎_elim
      (λ (m : IsIn s spans). let k = h.spans_from s m in (k.0, (let l = k.1 in omega (arith, l)), k.2, k.3))
      (λ (m : IsIn s (block_at b (get_or ws i 0) ∷ [])). let q = only s (block_at b (get_or ws i 0)) m in (i, omega arith, ap {A = ℕ × ℕ} (λ p. p.0) (sym q), ap {A = ℕ × ℕ} (λ p. p.1) (sym q)))
      (in_parts s spans (block_at b (get_or ws i 0) ∷ []) j)

  clash : (b : Bool) → b ≡ true → b ≡ false → ⊥
  clash b p q = cc

  pub seen_none : ((u : ℕ) → u < n → rank_of b u ≡ rank_of b (get_or ws i 0) → is_listed row u ≡ true) →
      Seen n b row ws (set seen (rank_of b (get_or ws i 0)) false) rests (spans ++ block_at b (get_or ws i 0) ∷ []) (i + 1)
  seen_none none = record {
    long = length-set seen (rank_of b (get_or ws i 0)) false ∙ h.long;
    within = h.within;
    apart = h.apart;
    unmarked = h.unmarked;
    few = let f = h.few in omega (arith, f);
    has = has';
    rest_has = λ k l. mark (rank_of b (get_or rests k 0)) (h.rest_has k l);
    from = from';
    each = λ u k a e l q. ⊎_elim
        (λ (z : k ≡ i). absurd (clash (is_listed row u) (none u a (sym q ∙ ap (λ y. rank_of b (get_or ws y 0)) z)) e))
        (λ (d : k < i). h.each u k a e d q) (before k l);
    spanned = spanned';
    spans_from = spans_from';
  }

  pub seen_some : (r : ℕ) → r < n → is_listed row r ≡ false → rank_of b r ≡ rank_of b (get_or ws i 0) →
      Seen n b row ws (set seen (rank_of b (get_or ws i 0)) false) (rests ++ r ∷ []) (spans ++ block_at b (get_or ws i 0) ∷ []) (i + 1)
  seen_some r r_n free same = record {
    long = length-set seen (rank_of b (get_or ws i 0)) false ∙ h.long;
    within = λ k l. at_each (λ v. v < n) h.within r_n k l;
    apart = λ j k l m q. ⊎_elim
        (λ (z : k ≡ length rests).
        let j_in : j < length rests = omega (arith, l, z) in
        let e : rank_of b (get_or rests j 0) ≡ rank_of b (get_or ws i 0) = ap (rank_of b) (sym (front j j_in)) ∙ q ∙ ap (λ y. rank_of b (get_or (rests ++ r ∷ []) y 0)) z ∙ ap (rank_of b) at_end ∙ same in
        clash (is_listed seen (rank_of b (get_or ws i 0))) (subst (λ c. is_listed seen c ≡ true) e (h.rest_has j j_in)) new)
        (λ (d : k < length rests). h.apart j k l d (ap (rank_of b) (sym (front j (omega (arith, l, d)))) ∙ q ∙ ap (rank_of b) (front k d)))
        (last_place k m);
    unmarked = λ k l. at_each (λ v. is_listed row v ≡ false) h.unmarked free k l;
    few = let f = h.few in let e = long in omega (arith, f, e);
    has = has';
    rest_has = λ k l. at_each (λ v. is_listed (set seen (rank_of b (get_or ws i 0)) false) (rank_of b v) ≡ true) (λ k l. mark (rank_of b (get_or rests k 0)) (h.rest_has k l))
        (subst (λ c. is_listed (set seen (rank_of b (get_or ws i 0)) false) c ≡ true) (sym same) here) k l;
    from = from';
    each = λ u k a e l q. ⊎_elim
        (λ (z : k ≡ i). (r, in_right r rests (r ∷ []) (inl (λ j. r)), same ∙ ap (λ y. rank_of b (get_or ws y 0)) (sym z) ∙ q))
        (λ (d : k < i). let m = h.each u k a e d q in (m.0, in_left m.0 rests (r ∷ []) m.1, m.2)) (before k l);
    spanned = spanned';
    spans_from = spans_from';
  }
    where
      long : length (rests ++ r ∷ []) ≡ length rests + 1
      long = length-append rests (r ∷ [])

      at_end : get_or (rests ++ r ∷ []) (length rests) 0 ≡ r
      at_end = get_or-append_seam rests r [] 0

      front : (k : ℕ) → k < length rests → get_or (rests ++ r ∷ []) k 0 ≡ get_or rests k 0
      front k l = get_or-append rests (r ∷ []) 0 k l

      last_place : (k : ℕ) → k < length (rests ++ r ∷ []) → (k ≡ length rests) ⊎ (k < length rests)
      last_place k l = last_or_before k (length rests) (let e = long in omega (arith, e, l))

      at_each : (P : ℕ → Type 0) → ((k : ℕ) → k < length rests → P (get_or rests k 0)) → P r → (k : ℕ) → k < length (rests ++ r ∷ []) → P (get_or (rests ++ r ∷ []) k 0)
      at_each P f p k l = ⊎_elim
          (λ (z : k ≡ length rests). subst (λ y. P (get_or (rests ++ r ∷ []) y 0)) (sym z) (subst P (sym at_end) p))
          (λ (d : k < length rests). subst P (sym (front k d)) (f k d))
          (last_place k l)

-- what all worlds give
pub seen_all : (n : ℕ) (b : Blocks) (row : List Bool) (ws : List ℕ) (seen : List Bool) (rests : List ℕ) (spans : List (ℕ × ℕ)) (i : ℕ) → length ws ≤ i → Seen n b row ws seen rests spans i →
    AreRests n b row ws rests × (i ≤ length ws → AreSpans b ws spans)
seen_all n b row ws seen rests spans i l h = (
  record {
    within = h.within;
    apart = h.apart;
    unmarked = h.unmarked;
    each = λ u w a e j q. let k = place_in w ws j in h.each u k.0 a e (let z = k.1 in omega (arith, z, l)) (ap (rank_of b) k.2 ∙ q);
  },
  λ all. (
    λ w j. let k = place_in w ws j in subst (λ v. IsIn (block_at b v) spans) k.2 (h.spanned k.0 (let z = k.1 in omega (arith, z, l))),
    λ s j. let k = h.spans_from s j in (get_or ws k.0 0, IsIn-at ws k.0 0 (let z = k.1 in omega (arith, z, all)), k.2, k.3),
  ),
)

pub seen_start : (n : ℕ) (b : Blocks) (row : List Bool) (ws : List ℕ) (seen : List Bool) → length seen ≡ n → ((c : ℕ) → c < n → is_listed seen c ≡ false) → Seen n b row ws seen [] [] 0
seen_start n b row ws seen long none = record {
  long = long;
  within = λ k l. absurd (omega (arith, l));
  apart = λ j k l m q. omega (arith, m);
  unmarked = λ k l. absurd (omega (arith, l));
  few = omega arith;
  has = λ k l. absurd (omega (arith, l));
  rest_has = λ k l. absurd (omega (arith, l));
  from = λ c a e. absurd (clash_at (is_listed seen c) e (none c a));
  each = λ u k a e l q. absurd (omega (arith, l));
  spanned = λ k l. absurd (omega (arith, l));
  spans_from = λ s j. absurd j;
}
  where
    clash_at : (b : Bool) → b ≡ true → b ≡ false → ⊥
    clash_at b p q = cc

-- two worlds of the block of a world that is alone are one
alone_same : (n : ℕ) (b : Blocks) (u v : ℕ) → AreBlocks n b → u < n → v < n → rank_of b u ≡ rank_of b v → IsAlone b u → u ≡ v
alone_same n b u v valid l m e a =
    let p = valid.parts in
    let su = p.start_place u l in
    let eu = p.place_end u l in
    let sv = p.start_place v m in
    let ev = p.place_end v m in
    let s = ap (λ r. get_or b.starts.items r 0) e in
    let t = ap (λ r. get_or b.ends.items r 0) e in
    let same : get_or b.place.items u 0 ≡ get_or b.place.items v 0 = omega (arith, su, eu, sv, ev, s, t, a) in
    sym (p.placed u l).1 ∙ ap (λ k. get_or b.order.items k 0) same ∙ (p.placed v m).1

-- where those that are alone are left too, the worlds that are left still have one signature in each class
pub rest_crowded : (S : Kripke) (b : Blocks) (row : List Bool) (ws : List ℕ) (row' : List Bool) (ws' : List ℕ) → AreBlocks S.worlds b → Listed S.worlds row ws → Listed S.worlds row' ws' →
    ((u : ℕ) → IsIn u ws → IsIn u ws' ⊎ IsAlone b u) → RestAlike S (rank_of b) row → RestAlike S (rank_of b) row'
rest_crowded S b row ws row' ws' valid listed listed' all rest u v l m f g e = go (is_listed row u) (is_listed row v) refl refl
  where
    clash : (b : Bool) → b ≡ true → b ≡ false → ⊥
    clash b p q = cc

    alone : (x : ℕ) → x < S.worlds → is_listed row' x ≡ false → is_listed row x ≡ true → IsAlone b x
    alone x k f t = ⊎_elim (λ (i : IsIn x ws'). absurd (clash (is_listed row' x) (in_marked S.worlds row' ws' listed' x i) f)) (λ (a : IsAlone b x). a) (all x (listed.marked x k t))

    go : (p q : Bool) → is_listed row u ≡ p → is_listed row v ≡ q → signature S (rank_of b) u ≡ signature S (rank_of b) v
    go false false p q = rest u v l m p q e
    go true q p r = ap (signature S (rank_of b)) (alone_same S.worlds b u v valid l m e (alone u l f p))
    go false true p q = ap (signature S (rank_of b)) (sym (alone_same S.worlds b v u valid m l (sym e) (alone v m g q)))
