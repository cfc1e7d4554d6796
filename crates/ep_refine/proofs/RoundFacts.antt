-- One round of a refinement by a worklist.
use Rattle.std.proofs.Common.{◌≡◌, ℕ, zero, suc, ◌<◌, ◌≤◌, inl, inr, ⊎_elim, Bool, true, false, cond, List, [], ◌∷◌, ◌++◌, length, get_or, sum_by, slice_index, refl, sym, ap, subst, ◌∙◌, arith, Ordering, Equal, IsPermutation, nat_eq}
use Rattle.std.specs.Ordering.{nat_cmp, ordering_then}
use Rattle.std.proofs.lemmas.Bool.Decides.{Decides-eqb}
use Rattle.std.specs.Cmp.Lexicographic.{slice_cmp}
use Rattle.std.proofs.lemmas.Cmp.{nat_eq_equiv, tied_itself}
use Rattle.std.proofs.lemmas.List.Sorted.{Contains-permutation, IsPermutation-sym}
use Rattle.std.proofs.lemmas.Map.Keys.{IsDistinct-IsPermutation}
use Rattle.std.proofs.lemmas.Map.Made.{AllPairs-from_IsDistinct, IsDistinct-from_AllPairs}
use Rattle.std.proofs.lemmas.List.{get_or_default}
use Rattle.std.proofs.lemmas.List.Sums.{sum_by-cons}
use Rattle.ep_theory.specs.Rising.{IsIn}
use Rattle.ep_theory.specs.Kripke.{Kripke, IsState}
use Rattle.ep_theory.specs.Kind.{node_cmp}
use Rattle.ep_theory.specs.Ranks.{signature}
use Rattle.ep_theory.proofs.CallerLemmas.{in_left, in_right, in_parts, numbers, IsIn-at, Contains-from_in}
use Rattle.ep_theory.proofs.lists.Orders.{nodes}
use Rattle.ep_theory.proofs.lists.Bridges.{in_from_Contains}
use Rattle.ep_kripke.proofs.StateLemmas.{less_from_cmp}
use Rattle.ep_refine.specs.declared.blocks.Blocks.{Blocks}
use Rattle.ep_refine.specs.Touching.{is_listed, Listed}
use Rattle.ep_refine.specs.Bound.{sum_below}
use Rattle.ep_refine.specs.Numbering.{IsGrouped}
use Rattle.ep_refine.specs.Blocks.{AreBlocks, rank_of, start_of, end_of}
use Rattle.ep_refine.specs.Groups.{Suits, IsWithin, AreDistinct}
use Rattle.ep_refine.specs.Rounds.{AreRests, AreSpans, IsSpan, AreLeft, IsRound}
use Rattle.ep_refine.proofs.Splitting.{is_less, is_equal, from_equal}
use Rattle.ep_refine.proofs.Sides.{to_bool}
use Rattle.ep_refine.proofs.TouchLemmas.{place_in, in_marked, in_within, sum_listed}
use Rattle.ep_refine.proofs.Unsigned.{next_level}

-- what a permutation keeps
pub moved_in : (xs ys : List ℕ) → IsPermutation xs ys → (u : ℕ) → IsIn u xs → (k : ℕ) × (k < length ys) × (get_or ys k 0 ≡ u)
moved_in xs ys p u i = let r = Contains-permutation xs ys u p (Contains-from_in u xs i) in (r.0, r.1, get_or_default ys r.0 0 u r.1 ∙ r.2)

pub moved_back : (xs ys : List ℕ) → IsPermutation xs ys → (k : ℕ) → k < length ys → IsIn (get_or ys k 0) xs
moved_back xs ys p k l = in_from_Contains (get_or ys k 0) xs (Contains-permutation ys xs (get_or ys k 0) (IsPermutation-sym xs ys p) (Contains-from_in (get_or ys k 0) ys (IsIn-at ys k 0 l)))

pub moved_within : (n : ℕ) (xs ys : List ℕ) → IsPermutation xs ys → IsWithin n xs → IsWithin n ys
moved_within n xs ys p h k l = in_within n xs h (get_or ys k 0) (moved_back xs ys p k l)

pub moved_distinct : (xs ys : List ℕ) → IsPermutation xs ys → AreDistinct xs → AreDistinct ys
moved_distinct xs ys p h i j l b q =
    AllPairs-from_IsDistinct Decides-eqb ys (IsDistinct-IsPermutation nat_eq (λ x y. nat_eq_equiv.symm x y) xs ys p
    (IsDistinct-from_AllPairs Decides-eqb xs (λ i j d l b q. h i j l b (get_or_default xs i 0 d (omega (arith, l, b)) ∙ q ∙ get_or_default xs j d 0 b))))
    i j 0 l b q

-- distinct worlds below n are at most n
pub few_worlds : (n : ℕ) (ws : List ℕ) → IsWithin n ws → AreDistinct ws → length ws ≤ n
few_worlds n ws within distinct =
    let a = sum_listed (λ _. 1) n (λ _. true) ws within distinct (λ k l. refl) in
    let b = ones ws in
    let c = all_ones n in
    omega (arith, a, b, c)
  where
    ones : (ws : List ℕ) → sum_by (λ _. 1) ws ≡ length ws
    ones [] = refl
    ones (x ∷ xs) = let e = sum_by-cons (λ _. 1) x xs in let h = ones xs in omega (arith, e, h)

    all_ones : (n : ℕ) → sum_below (λ n'. cond true 1 0) n ≡ n
    all_ones zero = refl
    all_ones (suc n) = let h = all_ones n in omega (arith, h)

-- the touched worlds and the others that are signed
module _ (n : ℕ) (b : Blocks) (row : List Bool) (ws rests : List ℕ) (listed : Listed n row ws) (are : AreRests n b row ws rests) where
  clash : (b : Bool) → b ≡ true → b ≡ false → ⊥
  clash b p q = cc

  in_rests : (u : ℕ) → IsIn u rests → (u < n) × (is_listed row u ≡ false)
  in_rests u i = let k = place_in u rests i in (subst (λ v. v < n) k.2 (are.within k.0 k.1), subst (λ v. is_listed row v ≡ false) k.2 (are.unmarked k.0 k.1))

  pub all_within : IsWithin n (ws ++ rests)
  all_within k l = ⊎_elim (λ (i : IsIn (get_or (ws ++ rests) k 0) ws). in_within n ws listed.within (get_or (ws ++ rests) k 0) i) (λ (i : IsIn (get_or (ws ++ rests) k 0) rests). (in_rests (get_or (ws ++ rests) k 0) i).0)
      (in_parts (get_or (ws ++ rests) k 0) ws rests (IsIn-at (ws ++ rests) k 0 l))

  pub all_distinct : AreDistinct (ws ++ rests)
  all_distinct = append_distinct ws rests listed.distinct (λ i j l d q. are.apart i j l d (ap (rank_of b) q)) (λ u i j. clash (is_listed row u) (in_marked n row ws listed u i) (in_rests u j).1)
    where
      append_distinct : (xs ys : List ℕ) → AreDistinct xs → AreDistinct ys → ((u : ℕ) → IsIn u xs → IsIn u ys → ⊥) → AreDistinct (xs ++ ys)
      append_distinct [] ys f g h i j l b q = g i j l b q
      append_distinct (x ∷ xs) ys f g h zero zero l b q = absurd (omega (arith, l))
      append_distinct (x ∷ xs) ys f g h zero (suc j) l b q =
          let i : IsIn x (xs ++ ys) = subst (λ v. IsIn v (xs ++ ys)) (sym q) (IsIn-at (xs ++ ys) j 0 (omega (arith, b))) in
          ⊎_elim (λ (k : IsIn x xs). let m = place_in x xs k in f 0 (suc m.0) (omega arith) (let e = m.1 in omega (arith, e)) (sym m.2)) (λ (k : IsIn x ys). h x (inl refl) k) (in_parts x xs ys i)
      append_distinct (x ∷ xs) ys f g h (suc i) zero l b q = absurd (omega (arith, l))
      append_distinct (x ∷ xs) ys f g h (suc i) (suc j) l b q =
          append_distinct xs ys (λ i j l b. f (suc i) (suc j) (omega (arith, l)) (omega (arith, b))) g (λ u k m. h u (inr k) m) i j (omega (arith, l)) (omega (arith, b)) q

  module _ (S : Kripke) (worlds_n : S.worlds ≡ n) (g : ℕ → ℕ) (order : (u v : ℕ) → u < n → v < n → nat_cmp (g u) (g v) ≡ node_cmp nat_cmp (signature S (rank_of b) u) (signature S (rank_of b) v))
      (rest : (u v : ℕ) → u < n → v < n → is_listed row u ≡ false → is_listed row v ≡ false → rank_of b u ≡ rank_of b v → signature S (rank_of b) u ≡ signature S (rank_of b) v)
      (worlds groups : List ℕ) (moved : IsPermutation (ws ++ rests) worlds) (grouped : IsGrouped g groups worlds) where
    pub rest_group : (u v : ℕ) → u < n → v < n → is_listed row u ≡ false → is_listed row v ≡ false → rank_of b u ≡ rank_of b v → g u ≡ g v
    rest_group u v a c p q e = from_equal (g u) (g v) (order u v a c ∙ subst (λ s. node_cmp nat_cmp (signature S (rank_of b) u) s ≡ Equal) (rest u v a c p q e) (tied_itself (nodes nat_cmp numbers).total (signature S (rank_of b) u)))

    pub suits : Suits n (rank_of b) g (is_listed row) worlds
    suits = record {
      within = moved_within n (ws ++ rests) worlds moved all_within;
      sorted = grouped.sorted;
      listed = λ u l m. moved_in (ws ++ rests) worlds moved u (in_left u ws rests (listed.marked u l m));
      resting = rest_group;
      chosen = λ u k l m t e. ⊎_elim
          (λ (i : IsIn (get_or worlds k 0) ws).
          let r = are.each u (get_or worlds k 0) l m i e in
          let p = moved_in (ws ++ rests) worlds moved r.0 (in_right r.0 ws rests r.1) in
          (p.0, p.1, ap (is_listed row) p.2 ∙ (in_rests r.0 r.1).1, ap (rank_of b) p.2 ∙ r.2))
          (λ (i : IsIn (get_or worlds k 0) rests). (k, t, (in_rests (get_or worlds k 0) i).1, e))
          (in_parts (get_or worlds k 0) ws rests (moved_back (ws ++ rests) worlds moved k t));
      classes = λ u v a c l. less_from_cmp (g u) (g v) (order u v a c ∙ ap (λ o. ordering_then o (rows_cmp u v)) (is_less (rank_of b u) (rank_of b v) l));
    }
      where
        rows_cmp : ℕ → ℕ → Ordering
        rows_cmp u v = slice_cmp (slice_cmp nat_cmp) (signature S (rank_of b) u).rows (signature S (rank_of b) v).rows

-- the blocks before and after a split
module _ (S : Kripke) (s : IsState S) (b₀ b₁ : Blocks) (v₀ : AreBlocks S.worlds b₀) (v₁ : AreBlocks S.worlds b₁)
    (from : (u : ℕ) → u < S.worlds → start_of b₀ u ≤ start_of b₁ u) (to : (u : ℕ) → u < S.worlds → end_of b₁ u ≤ end_of b₀ u)
    (row : List Bool) (ws : List ℕ) (listed : Listed S.worlds row ws) (spans : List (ℕ × ℕ)) (are : AreSpans b₀ ws spans) where
  -- a world whose place is in a span was in the block of that span
  was_in : (u w p : ℕ) → u < S.worlds → w < S.worlds → start_of b₁ u ≤ p → p < end_of b₁ u → start_of b₀ w ≤ p → p < end_of b₀ w → rank_of b₀ u ≡ rank_of b₀ w
  was_in u w p a c f t f' t' =
      let x = v₀.parts.alike u p a (let h = from u a in omega (arith, h, f)) (let h = to u a in omega (arith, h, t)) in
      sym x ∙ v₀.parts.alike w p c f' t'

  pub spans_closed : (s : ℕ × ℕ) → IsIn s spans → IsSpan S.worlds b₁ s
  spans_closed s i =
      let w = are.1 s i in
      let w_n = in_within S.worlds ws listed.within w.0 w.1 in
      let e = w.2 in let d = w.3 in
      let a = v₀.parts.start_place w.0 w_n in let c = v₀.parts.place_end w.0 w_n in let k = v₀.parts.end_in w.0 w_n in
      record {
        some = omega (arith, e, d, a, c);
        inside = omega (arith, d, k);
        closed = λ p f t.
            let p_n : p < S.worlds = omega (arith, t, d, k) in
            let o = v₁.parts.ordered p p_n in
            let u = slice_index b₁.order.items p in
            let o1 = o.1 in
            let sp = v₁.parts.start_place u o.0 in let ep = v₁.parts.place_end u o.0 in
            let q = was_in u w.0 p o.0 w_n (omega (arith, sp, o1)) (omega (arith, ep, o1)) (omega (arith, e, f)) (omega (arith, d, t)) in
            let x : start_of b₀ u ≡ start_of b₀ w.0 = ap (slice_index b₀.starts.items) q in
            let y : end_of b₀ u ≡ end_of b₀ w.0 = ap (slice_index b₀.ends.items) q in
            let z = from u o.0 in let z' = to u o.0 in
            (omega (arith, x, z, e), omega (arith, y, z', d));
      }

  module _ (g : ℕ → ℕ) (order : (u v : ℕ) → u < S.worlds → v < S.worlds → nat_cmp (g u) (g v) ≡ node_cmp nat_cmp (signature S (rank_of b₀) u) (signature S (rank_of b₀) v))
      (rest_group : (u v : ℕ) → u < S.worlds → v < S.worlds → is_listed row u ≡ false → is_listed row v ≡ false → rank_of b₀ u ≡ rank_of b₀ v → g u ≡ g v)
      (ordered : (u v : ℕ) → u < S.worlds → v < S.worlds → nat_cmp (rank_of b₁ u) (rank_of b₁ v) ≡ nat_cmp (g u) (g v))
      (moved : List ℕ) (within : IsWithin S.worlds moved) (distinct : AreDistinct moved) (left : AreLeft b₁ spans moved) where
    kept_in : (u x w : ℕ) → u < S.worlds → x < S.worlds → IsIn w ws → rank_of b₀ u ≡ rank_of b₀ w → rank_of b₀ x ≡ rank_of b₀ w → (IsIn u moved → ⊥) → (IsIn x moved → ⊥) → rank_of b₁ u ≡ rank_of b₁ x
    kept_in u x w a c i p q h k =
        let U = place_at u a p in
        let X = place_at x c q in
        let e = (v₁.parts.placed u a).1 in
        let d = (v₁.parts.placed x c).1 in
        sym (ap (rank_of b₁) e)
        ∙ left.one (start_of b₀ w, end_of b₀ w) (are.0 w i) (slice_index b₁.place.items u) (slice_index b₁.place.items x) U.0 U.1 X.0 X.1
        (λ m. h (subst (λ y. IsIn y moved) e m)) (λ m. k (subst (λ y. IsIn y moved) d m))
        ∙ ap (rank_of b₁) d
      where
        place_at : (u : ℕ) → u < S.worlds → rank_of b₀ u ≡ rank_of b₀ w → (start_of b₀ w ≤ slice_index b₁.place.items u) × (slice_index b₁.place.items u < end_of b₀ w)
        place_at u a p =
            let x : start_of b₀ u ≡ start_of b₀ w = ap (slice_index b₀.starts.items) p in
            let y : end_of b₀ u ≡ end_of b₀ w = ap (slice_index b₀.ends.items) p in
            let f = from u a in let t = to u a in let sp = v₁.parts.start_place u a in let ep = v₁.parts.place_end u a in
            (omega (arith, x, f, sp), omega (arith, y, t, ep))

    pub is_round : IsRound S b₀ b₁ moved
    is_round = record {
      valid = v₁;
      next = λ k r. next_level S s k (rank_of b₀) (rank_of b₁) r (λ u v a c. ordered u v a c ∙ order u v a c);
      within = within;
      distinct = distinct;
      kept = λ u x a c h k e. ⊎_elim
          (λ (m : is_listed row u ≡ true). kept_in u x u a c (listed.marked u a m) refl (sym e) h k)
          (λ (m : is_listed row u ≡ false). ⊎_elim
          (λ (m' : is_listed row x ≡ true). kept_in u x x a c (listed.marked x c m') e refl h k)
          (λ (m' : is_listed row x ≡ false). from_equal (rank_of b₁ u) (rank_of b₁ x) (ordered u x a c ∙ is_equal (g u) (g x) (rest_group u x a c m m' e)))
          (to_bool (is_listed row x)))
          (to_bool (is_listed row u));
      shrinks = λ u a. let f = from u a in let t = to u a in omega (arith, f, t);
      halves = λ u i.
          let r = left.only u i in
          let w = are.1 r.0 r.1 in
          let u_n = in_within S.worlds moved within u i in
          let w_n = in_within S.worlds ws listed.within w.0 w.1 in
          let e = w.2 in let d = w.3 in
          let r2 = r.2 in let r3 = r.3 in let r4 = r.4 in
          let q = was_in u w.0 (slice_index b₁.place.items u) u_n w_n (v₁.parts.start_place u u_n) (v₁.parts.place_end u u_n) (omega (arith, e, r2)) (omega (arith, d, r3)) in
          let x : start_of b₀ u ≡ start_of b₀ w.0 = ap (slice_index b₀.starts.items) q in
          let y : end_of b₀ u ≡ end_of b₀ w.0 = ap (slice_index b₀.ends.items) q in
          omega (arith, r4, x, y, e, d);
    }
