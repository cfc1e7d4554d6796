-- A block that is cut at a place: the part with the place of its rank keeps the rank.
use Rattle.std.proofs.Common.{◌≡◌, ◌≢◌, ℕ, ◌<◌, ◌≤◌, ◌+◌, ◌-◌, Bool, true, false, List, length, slice_index, set, refl, sym, ap, ap₂, subst, ◌∙◌, arith, ◌⊎◌, inl, inr, ⊎_elim}
use Rattle.std.proofs.lemmas.List.{get_or-set_other, get_or-set_same, length-set}
use Rattle.std.specs.Ordering.{nat_cmp, ordering_then}
use Rattle.ep_theory.specs.Rising.{IsIn}
use Rattle.ep_theory.proofs.CallerLemmas.{IsIn-at, Contains-from_in}
use Rattle.std.proofs.lemmas.List.{get_or_default}
use Rattle.ep_refine.specs.declared.blocks.Blocks.{Blocks}
use Rattle.ep_refine.specs.Blocks.{IsPartition, AreBlocks, rank_of, start_of, end_of, target_of, middle_at, side_of, IsCut, SidesAt}
use Rattle.ep_refine.proofs.BlockLemmas.{lt_or_le, cut_partition, cut_from, cut_to, cut_ordered}
use Rattle.ep_refine.proofs.Sides.{side_in, side_out}

module _ (n : ℕ) (b₀ b₁ : Blocks) (w from to middle label : ℕ) (valid : AreBlocks n b₀) (w_n : w < n) (from_is : start_of b₀ w ≡ from) (to_is : end_of b₀ w ≡ to)
    (low : from < middle) (high : middle < to) (order : b₁.order.items ≡ b₀.order.items) (place : b₁.place.items ≡ b₀.place.items) (ranked_long : length b₁.ranks.items ≡ length b₀.ranks.items) where
  at_place : (u : ℕ) → u < n → slice_index b₀.order.items (slice_index b₀.place.items u) ≡ u
  at_place u l = (valid.parts.placed u l).1

  to_n : to ≤ n
  to_n = let e = valid.parts.end_in w w_n in let q = to_is in omega (arith, e, q)

  rank_in : (from ≤ rank_of b₀ w) × (rank_of b₀ w < to)
  rank_in = let a = valid.parts.start_rank w w_n in let b = valid.parts.rank_end w w_n in let f = from_is in let t = to_is in (omega (arith, a, f), omega (arith, b, t))

  -- the rank of a world of the block
  of_block : (u : ℕ) → u < n → from ≤ slice_index b₀.place.items u → slice_index b₀.place.items u < to → rank_of b₀ u ≡ rank_of b₀ w
  of_block u l f t = sym (ap (slice_index b₀.ranks.items) (at_place u l)) ∙ valid.parts.alike w (slice_index b₀.place.items u) w_n (let q = from_is in omega (arith, q, f)) (let q = to_is in omega (arith, q, t))

  module _ (side : ℕ → ℕ) (sides : SidesAt n (slice_index b₀.place.items) from middle to side) where
    pub cut_high_is : rank_of b₀ w < middle → middle ≤ label → label < to →
        b₁.starts.items ≡ set b₀.starts.items label middle → b₁.ends.items ≡ set (set b₀.ends.items label to) (rank_of b₀ w) middle →
        ((p : ℕ) → middle ≤ p → p < to → slice_index b₁.ranks.items (slice_index b₀.order.items p) ≡ label) →
        ((u : ℕ) → ((p : ℕ) → middle ≤ p → p < to → slice_index b₀.order.items p ≢ u) → slice_index b₁.ranks.items u ≡ slice_index b₀.ranks.items u) → IsCut n side b₀ b₁
    cut_high_is r m_l l_t starts ends ranked others = record {
      valid = record {
        few = valid.few;
        orders = ap length order ∙ valid.orders;
        places = ap length place ∙ valid.places;
        ranked = ranked_long ∙ valid.ranked;
        started = ap length starts ∙ length-set b₀.starts.items label middle ∙ valid.started;
        ended = ap length ends ∙ length-set (set b₀.ends.items label to) (rank_of b₀ w) middle ∙ length-set b₀.ends.items label to ∙ valid.ended;
        parts = subst (λ (o : List ℕ). IsPartition n (slice_index o) (slice_index b₁.place.items) (slice_index b₁.ranks.items) (slice_index b₁.starts.items) (slice_index b₁.ends.items)) (sym order)
            (subst (λ (o : List ℕ). IsPartition n (slice_index b₀.order.items) (slice_index o) (slice_index b₁.ranks.items) (slice_index b₁.starts.items) (slice_index b₁.ends.items)) (sym place)
            (cut_partition n O P R St En valid.parts (rank_of b₀ w) from to middle (rank_of b₀ w) label w w_n refl from_is to_is rank_in.0 r m_l l_t R' St' En' lower upper before behind start_p end_p start_q end_q keep_starts keep_ends));
      };
      ordered = cut_ordered n O P R St En valid.parts (rank_of b₀ w) from to middle (rank_of b₀ w) label w w_n refl from_is to_is rank_in.0 r m_l l_t R' St' En' lower upper before behind start_p end_p start_q end_q keep_starts keep_ends
          side sides.out sides.low sides.high sides.outside;
      from = cut_from n O P R St En valid.parts (rank_of b₀ w) from to middle (rank_of b₀ w) label w w_n refl from_is to_is rank_in.0 r m_l l_t R' St' En' lower upper before behind start_p end_p start_q end_q keep_starts keep_ends;
      to = cut_to n O P R St En valid.parts (rank_of b₀ w) from to middle (rank_of b₀ w) label w w_n refl from_is to_is rank_in.0 r m_l l_t R' St' En' lower upper before behind start_p end_p start_q end_q keep_starts keep_ends;
    }
      where
        O : ℕ → ℕ
        O = slice_index b₀.order.items

        P : ℕ → ℕ
        P = slice_index b₀.place.items

        R : ℕ → ℕ
        R = slice_index b₀.ranks.items

        St : ℕ → ℕ
        St = slice_index b₀.starts.items

        En : ℕ → ℕ
        En = slice_index b₀.ends.items

        R' : ℕ → ℕ
        R' = slice_index b₁.ranks.items

        St' : ℕ → ℕ
        St' = slice_index b₁.starts.items

        En' : ℕ → ℕ
        En' = slice_index b₁.ends.items

        away : (u : ℕ) → u < n → (slice_index b₀.place.items u < middle) ⊎ (to ≤ slice_index b₀.place.items u) → slice_index b₁.ranks.items u ≡ slice_index b₀.ranks.items u
        away u l h = others u (λ p f t q.
            let e = (valid.parts.ordered p (let z = to_n in omega (arith, z, t))).1 in
            let d = ap (slice_index b₀.place.items) q in
            ⊎_elim (λ (k : slice_index b₀.place.items u < middle). absurd (omega (arith, k, e, d, f))) (λ (k : to ≤ slice_index b₀.place.items u). absurd (omega (arith, k, e, d, t))) h)

        lower : (u : ℕ) → u < n → from ≤ slice_index b₀.place.items u → slice_index b₀.place.items u < middle → slice_index b₁.ranks.items u ≡ rank_of b₀ w
        lower u l f t = away u l (inl t) ∙ of_block u l f (omega (arith, t, high))

        upper : (u : ℕ) → u < n → middle ≤ slice_index b₀.place.items u → slice_index b₀.place.items u < to → slice_index b₁.ranks.items u ≡ label
        upper u l f t = sym (ap (slice_index b₁.ranks.items) (at_place u l)) ∙ ranked (slice_index b₀.place.items u) f t

        before : (u : ℕ) → u < n → slice_index b₀.place.items u < from → slice_index b₁.ranks.items u ≡ slice_index b₀.ranks.items u
        before u l h = away u l (inl (omega (arith, h, low)))

        behind : (u : ℕ) → u < n → to ≤ slice_index b₀.place.items u → slice_index b₁.ranks.items u ≡ slice_index b₀.ranks.items u
        behind u l h = away u l (inr h)

        label_in : label < length b₀.starts.items
        label_in = let z = to_n in let y = valid.started in omega (arith, z, y, l_t)

        label_ends : label < length b₀.ends.items
        label_ends = let z = to_n in let y = valid.ended in omega (arith, z, y, l_t)

        rank_ends : rank_of b₀ w < length (set b₀.ends.items label to)
        rank_ends = let z = to_n in let y = valid.ended in let x = length-set b₀.ends.items label to in let k = rank_in.1 in omega (arith, z, y, x, k)

        start_p : slice_index b₁.starts.items (rank_of b₀ w) ≡ from
        start_p = ap (λ l. slice_index l (rank_of b₀ w)) starts ∙ get_or-set_other b₀.starts.items label (rank_of b₀ w) middle 0 (λ q. absurd (omega (arith, q, r, m_l))) ∙ from_is

        end_p : slice_index b₁.ends.items (rank_of b₀ w) ≡ middle
        end_p = ap (λ l. slice_index l (rank_of b₀ w)) ends ∙ get_or-set_same (set b₀.ends.items label to) (rank_of b₀ w) middle 0 rank_ends

        start_q : slice_index b₁.starts.items label ≡ middle
        start_q = ap (λ l. slice_index l label) starts ∙ get_or-set_same b₀.starts.items label middle 0 label_in

        end_q : slice_index b₁.ends.items label ≡ to
        end_q = ap (λ l. slice_index l label) ends ∙ get_or-set_other (set b₀.ends.items label to) (rank_of b₀ w) label middle 0 (λ q. absurd (omega (arith, q, r, m_l))) ∙ get_or-set_same b₀.ends.items label to 0 label_ends

        keep_starts : (d : ℕ) → (d < from) ⊎ (to ≤ d) → slice_index b₁.starts.items d ≡ slice_index b₀.starts.items d
        keep_starts d h = ap (λ l. slice_index l d) starts ∙ get_or-set_other b₀.starts.items label d middle 0
            (λ q. ⊎_elim (λ (k : d < from). absurd (omega (arith, k, q, low, m_l))) (λ (k : to ≤ d). absurd (omega (arith, k, q, l_t))) h)

        keep_ends : (d : ℕ) → (d < from) ⊎ (to ≤ d) → slice_index b₁.ends.items d ≡ slice_index b₀.ends.items d
        keep_ends d h = ap (λ l. slice_index l d) ends
            ∙ get_or-set_other (set b₀.ends.items label to) (rank_of b₀ w) d middle 0
            (λ q. let i = rank_in in let i0 = i.0 in let i1 = i.1 in ⊎_elim (λ (k : d < from). absurd (omega (arith, k, q, i0))) (λ (k : to ≤ d). absurd (omega (arith, k, q, i1))) h)
            ∙ get_or-set_other b₀.ends.items label d to 0
            (λ q. ⊎_elim (λ (k : d < from). absurd (omega (arith, k, q, low, m_l))) (λ (k : to ≤ d). absurd (omega (arith, k, q, l_t))) h)

    pub cut_low_is : middle ≤ rank_of b₀ w → from ≤ label → label < middle →
        b₁.starts.items ≡ set (set b₀.starts.items label from) (rank_of b₀ w) middle → b₁.ends.items ≡ set b₀.ends.items label middle →
        ((p : ℕ) → from ≤ p → p < middle → slice_index b₁.ranks.items (slice_index b₀.order.items p) ≡ label) →
        ((u : ℕ) → ((p : ℕ) → from ≤ p → p < middle → slice_index b₀.order.items p ≢ u) → slice_index b₁.ranks.items u ≡ slice_index b₀.ranks.items u) → IsCut n side b₀ b₁
    cut_low_is r f_l l_m starts ends ranked others = record {
      valid = record {
        few = valid.few;
        orders = ap length order ∙ valid.orders;
        places = ap length place ∙ valid.places;
        ranked = ranked_long ∙ valid.ranked;
        started = ap length starts ∙ length-set (set b₀.starts.items label from) (rank_of b₀ w) middle ∙ length-set b₀.starts.items label from ∙ valid.started;
        ended = ap length ends ∙ length-set b₀.ends.items label middle ∙ valid.ended;
        parts = subst (λ (o : List ℕ). IsPartition n (slice_index o) (slice_index b₁.place.items) (slice_index b₁.ranks.items) (slice_index b₁.starts.items) (slice_index b₁.ends.items)) (sym order)
            (subst (λ (o : List ℕ). IsPartition n (slice_index b₀.order.items) (slice_index o) (slice_index b₁.ranks.items) (slice_index b₁.starts.items) (slice_index b₁.ends.items)) (sym place)
            (cut_partition n O P R St En valid.parts (rank_of b₀ w) from to middle label (rank_of b₀ w) w w_n refl from_is to_is f_l l_m r rank_in.1 R' St' En' lower upper before behind start_p end_p start_q end_q keep_starts keep_ends));
      };
      ordered = cut_ordered n O P R St En valid.parts (rank_of b₀ w) from to middle label (rank_of b₀ w) w w_n refl from_is to_is f_l l_m r rank_in.1 R' St' En' lower upper before behind start_p end_p start_q end_q keep_starts keep_ends
          side sides.out sides.low sides.high sides.outside;
      from = cut_from n O P R St En valid.parts (rank_of b₀ w) from to middle label (rank_of b₀ w) w w_n refl from_is to_is f_l l_m r rank_in.1 R' St' En' lower upper before behind start_p end_p start_q end_q keep_starts keep_ends;
      to = cut_to n O P R St En valid.parts (rank_of b₀ w) from to middle label (rank_of b₀ w) w w_n refl from_is to_is f_l l_m r rank_in.1 R' St' En' lower upper before behind start_p end_p start_q end_q keep_starts keep_ends;
    }
      where
        O : ℕ → ℕ
        O = slice_index b₀.order.items

        P : ℕ → ℕ
        P = slice_index b₀.place.items

        R : ℕ → ℕ
        R = slice_index b₀.ranks.items

        St : ℕ → ℕ
        St = slice_index b₀.starts.items

        En : ℕ → ℕ
        En = slice_index b₀.ends.items

        R' : ℕ → ℕ
        R' = slice_index b₁.ranks.items

        St' : ℕ → ℕ
        St' = slice_index b₁.starts.items

        En' : ℕ → ℕ
        En' = slice_index b₁.ends.items

        away : (u : ℕ) → u < n → (slice_index b₀.place.items u < from) ⊎ (middle ≤ slice_index b₀.place.items u) → slice_index b₁.ranks.items u ≡ slice_index b₀.ranks.items u
        away u l h = others u (λ p f t q.
            let e = (valid.parts.ordered p (let z = to_n in omega (arith, z, t, high))).1 in
            let d = ap (slice_index b₀.place.items) q in
            ⊎_elim (λ (k : slice_index b₀.place.items u < from). absurd (omega (arith, k, e, d, f))) (λ (k : middle ≤ slice_index b₀.place.items u). absurd (omega (arith, k, e, d, t))) h)

        lower : (u : ℕ) → u < n → from ≤ slice_index b₀.place.items u → slice_index b₀.place.items u < middle → slice_index b₁.ranks.items u ≡ label
        lower u l f t = sym (ap (slice_index b₁.ranks.items) (at_place u l)) ∙ ranked (slice_index b₀.place.items u) f t

        upper : (u : ℕ) → u < n → middle ≤ slice_index b₀.place.items u → slice_index b₀.place.items u < to → slice_index b₁.ranks.items u ≡ rank_of b₀ w
        upper u l f t = away u l (inr f) ∙ of_block u l (omega (arith, f, low)) t

        before : (u : ℕ) → u < n → slice_index b₀.place.items u < from → slice_index b₁.ranks.items u ≡ slice_index b₀.ranks.items u
        before u l h = away u l (inl h)

        behind : (u : ℕ) → u < n → to ≤ slice_index b₀.place.items u → slice_index b₁.ranks.items u ≡ slice_index b₀.ranks.items u
        behind u l h = away u l (inr (omega (arith, h, high)))

        label_in : label < length b₀.starts.items
        label_in = let z = to_n in let y = valid.started in omega (arith, z, y, l_m, high)

        label_ends : label < length b₀.ends.items
        label_ends = let z = to_n in let y = valid.ended in omega (arith, z, y, l_m, high)

        rank_starts : rank_of b₀ w < length (set b₀.starts.items label from)
        rank_starts = let z = to_n in let y = valid.started in let x = length-set b₀.starts.items label from in let k = rank_in.1 in omega (arith, z, y, x, k)

        start_p : slice_index b₁.starts.items label ≡ from
        start_p = ap (λ l. slice_index l label) starts ∙ get_or-set_other (set b₀.starts.items label from) (rank_of b₀ w) label middle 0 (λ q. absurd (omega (arith, q, r, l_m))) ∙ get_or-set_same b₀.starts.items label from 0 label_in

        end_p : slice_index b₁.ends.items label ≡ middle
        end_p = ap (λ l. slice_index l label) ends ∙ get_or-set_same b₀.ends.items label middle 0 label_ends

        start_q : slice_index b₁.starts.items (rank_of b₀ w) ≡ middle
        start_q = ap (λ l. slice_index l (rank_of b₀ w)) starts ∙ get_or-set_same (set b₀.starts.items label from) (rank_of b₀ w) middle 0 rank_starts

        end_q : slice_index b₁.ends.items (rank_of b₀ w) ≡ to
        end_q = ap (λ l. slice_index l (rank_of b₀ w)) ends ∙ get_or-set_other b₀.ends.items label (rank_of b₀ w) middle 0 (λ q. absurd (omega (arith, q, r, l_m))) ∙ to_is

        keep_starts : (d : ℕ) → (d < from) ⊎ (to ≤ d) → slice_index b₁.starts.items d ≡ slice_index b₀.starts.items d
        keep_starts d h = ap (λ l. slice_index l d) starts
            ∙ get_or-set_other (set b₀.starts.items label from) (rank_of b₀ w) d middle 0
            (λ q. let i = rank_in in let i0 = i.0 in let i1 = i.1 in ⊎_elim (λ (k : d < from). absurd (omega (arith, k, q, i0))) (λ (k : to ≤ d). absurd (omega (arith, k, q, i1))) h)
            ∙ get_or-set_other b₀.starts.items label d from 0
            (λ q. ⊎_elim (λ (k : d < from). absurd (omega (arith, k, q, f_l))) (λ (k : to ≤ d). absurd (omega (arith, k, q, l_m, high))) h)

        keep_ends : (d : ℕ) → (d < from) ⊎ (to ≤ d) → slice_index b₁.ends.items d ≡ slice_index b₀.ends.items d
        keep_ends d h = ap (λ l. slice_index l d) ends ∙ get_or-set_other b₀.ends.items label d middle 0
            (λ q. ⊎_elim (λ (k : d < from). absurd (omega (arith, k, q, f_l))) (λ (k : to ≤ d). absurd (omega (arith, k, q, l_m, high))) h)

-- the sides of a cut, where the worlds that are cut off stand at its front or at its back
module _ (n : ℕ) (b : Blocks) (ws : List ℕ) (from to : ℕ) (valid : AreBlocks n b) (to_n : to ≤ n) (inside : from + length ws ≤ to) (within : (i : ℕ) → i < length ws → slice_index ws i < n) where
  some_place : (u : ℕ) → IsIn u ws → (k : ℕ) × (k < length ws) × (slice_index ws k ≡ u)
  some_place u i = let r = Contains-from_in u ws i in (r.0, r.1, get_or_default ws r.0 0 u r.1 ∙ r.2)

  pub front_sides : ((i : ℕ) → i < length ws → slice_index b.order.items (target_of true from to i) ≡ slice_index ws i) → SidesAt n (slice_index b.place.items) from (from + length ws) to (side_of true ws)
  front_sides gathered = record {
    out = 1;
    low = λ u l f t. side_in true ws u (subst (λ v. IsIn v ws) (back u l f t) (IsIn-at ws (slice_index b.place.items u - from) 0 (omega (arith, f, t))));
    high = λ u l f t. side_out true ws u (λ i. let k = in_front u i in omega (arith, k, f));
    outside = λ u l h. side_out true ws u (λ i. let k = in_front u i in let j = from_front u i in ⊎_elim (λ (a : slice_index b.place.items u < from). absurd (omega (arith, a, j))) (λ (a : to ≤ slice_index b.place.items u). absurd (omega (arith, a, k, inside))) h);
  }
    where
      back : (u : ℕ) → u < n → from ≤ slice_index b.place.items u → slice_index b.place.items u < from + length ws → slice_index ws (slice_index b.place.items u - from) ≡ u
      back u l f t =
          let e : from + (slice_index b.place.items u - from) ≡ slice_index b.place.items u = omega (arith, f) in
          sym (gathered (slice_index b.place.items u - from) (omega (arith, f, t))) ∙ ap (slice_index b.order.items) e ∙ (valid.parts.placed u l).1

      place_is : (u : ℕ) (i : IsIn u ws) → slice_index b.place.items u ≡ from + (some_place u i).0
      place_is u i = let k = some_place u i in
          ap (slice_index b.place.items) (sym (gathered k.0 k.1 ∙ k.2)) ∙ (valid.parts.ordered (from + k.0) (let z = k.1 in omega (arith, z, inside, to_n))).1

      in_front : (u : ℕ) → IsIn u ws → slice_index b.place.items u < from + length ws
      in_front u i = let e = place_is u i in let k = (some_place u i).1 in omega (arith, e, k)

      from_front : (u : ℕ) → IsIn u ws → from ≤ slice_index b.place.items u
      from_front u i = let e = place_is u i in omega (arith, e)

  pub back_sides : ((i : ℕ) → i < length ws → slice_index b.order.items (target_of false from to i) ≡ slice_index ws i) → SidesAt n (slice_index b.place.items) from (to - length ws) to (side_of false ws)
  back_sides gathered = record {
    out = 0;
    low = λ u l f t. side_out false ws u (λ i. let k = in_back u i in omega (arith, k, t));
    high = λ u l f t. side_in false ws u (subst (λ v. IsIn v ws) (back u l f t) (IsIn-at ws (to - 1 - slice_index b.place.items u) 0 (omega (arith, f, t, inside))));
    outside = λ u l h. side_out false ws u (λ i. let k = in_back u i in let j = below_to u i in ⊎_elim (λ (a : slice_index b.place.items u < from). absurd (omega (arith, a, k, inside))) (λ (a : to ≤ slice_index b.place.items u). absurd (omega (arith, a, j))) h);
  }
    where
      back : (u : ℕ) → u < n → to - length ws ≤ slice_index b.place.items u → slice_index b.place.items u < to → slice_index ws (to - 1 - slice_index b.place.items u) ≡ u
      back u l f t =
          let e : to - 1 - (to - 1 - slice_index b.place.items u) ≡ slice_index b.place.items u = omega (arith, t) in
          sym (gathered (to - 1 - slice_index b.place.items u) (omega (arith, f, t, inside))) ∙ ap (slice_index b.order.items) e ∙ (valid.parts.placed u l).1

      place_is : (u : ℕ) (i : IsIn u ws) → slice_index b.place.items u ≡ to - 1 - (some_place u i).0
      place_is u i = let k = some_place u i in
          ap (slice_index b.place.items) (sym (gathered k.0 k.1 ∙ k.2)) ∙ (valid.parts.ordered (to - 1 - k.0) (let z = k.1 in omega (arith, z, inside, to_n))).1

      in_back : (u : ℕ) → IsIn u ws → to - length ws ≤ slice_index b.place.items u
      in_back u i = let e = place_is u i in let k = (some_place u i).1 in omega (arith, e, k, inside)

      below_to : (u : ℕ) → IsIn u ws → slice_index b.place.items u < to
      below_to u i = let e = place_is u i in let k = (some_place u i).1 in omega (arith, e, k, inside)

-- a world of the block that is not cut off leaves room
pub some_left : (n : ℕ) (front : Bool) (b : Blocks) (ws : List ℕ) (from to v : ℕ) → AreBlocks n b → from + length ws ≤ to →
    ((i : ℕ) → i < length ws → slice_index b.order.items (target_of front from to i) ≡ slice_index ws i) →
    v < n → from ≤ slice_index b.place.items v → slice_index b.place.items v < to → (IsIn v ws → ⊥) → from + length ws < to
some_left n front b ws from to v valid inside gathered v_n f t out = ⊎_elim (λ (l : from + length ws < to). l)
    (λ (l : to ≤ from + length ws). absurd (out (full front l gathered)))
    (lt_or_le (from + length ws) to)
  where
    full : (front : Bool) → to ≤ from + length ws → ((i : ℕ) → i < length ws → slice_index b.order.items (target_of front from to i) ≡ slice_index ws i) → IsIn v ws
    full true l g =
        let k = slice_index b.place.items v - from in
        let e : from + (slice_index b.place.items v - from) ≡ slice_index b.place.items v = omega (arith, f) in
        let h : slice_index b.place.items v - from < length ws = omega (arith, l, t, f) in
        subst (λ u. IsIn u ws) (sym (g (slice_index b.place.items v - from) h) ∙ ap (slice_index b.order.items) e ∙ (valid.parts.placed v v_n).1) (IsIn-at ws (slice_index b.place.items v - from) 0 h)
    full false l g =
        let e : to - 1 - (to - 1 - slice_index b.place.items v) ≡ slice_index b.place.items v = omega (arith, t) in
        let h : to - 1 - slice_index b.place.items v < length ws = omega (arith, l, t, f) in
        subst (λ u. IsIn u ws) (sym (g (to - 1 - slice_index b.place.items v) h) ∙ ap (slice_index b.order.items) e ∙ (valid.parts.placed v v_n).1) (IsIn-at ws (to - 1 - slice_index b.place.items v) 0 h)

-- the blocks before and after the worlds went to their places
module _ (n : ℕ) (front : Bool) (b₀ b₁ : Blocks) (ws : List ℕ) (valid : AreBlocks n b₁)
    (ranks : b₁.ranks.items ≡ b₀.ranks.items) (starts : b₁.starts.items ≡ b₀.starts.items) (ends : b₁.ends.items ≡ b₀.ends.items) where
  pub same_start : (u : ℕ) → start_of b₁ u ≡ start_of b₀ u
  same_start u = ap₂ (λ s r. slice_index s (slice_index r u)) starts ranks

  pub same_end : (u : ℕ) → end_of b₁ u ≡ end_of b₀ u
  same_end u = ap₂ (λ s r. slice_index s (slice_index r u)) ends ranks

  same_rank : (u : ℕ) → rank_of b₁ u ≡ rank_of b₀ u
  same_rank u = ap (λ r. slice_index r u) ranks

  pub cut_as : (side : ℕ → ℕ) (b₂ : Blocks) → IsCut n side b₁ b₂ → IsCut n side b₀ b₂
  cut_as side b₂ h = record {
    valid = h.valid;
    ordered = λ u v a b. h.ordered u v a b ∙ ap₂ (λ x y. ordering_then (nat_cmp x y) (nat_cmp (side u) (side v))) (same_rank u) (same_rank v);
    from = λ u a. let e = h.from u a in let q = same_start u in omega (arith, e, q);
    to = λ u a. let e = h.to u a in let q = same_end u in omega (arith, e, q);
  }

  module _ (inside : start_of b₀ (slice_index ws 0) + length ws ≤ end_of b₀ (slice_index ws 0))
      (gathered : (i : ℕ) → i < length ws → slice_index b₁.order.items (target_of front (start_of b₀ (slice_index ws 0)) (end_of b₀ (slice_index ws 0)) i) ≡ slice_index ws i) where
    pub left_room : (v : ℕ) → v < n → rank_of b₀ v ≡ rank_of b₀ (slice_index ws 0) → (IsIn v ws → ⊥) → start_of b₀ (slice_index ws 0) + length ws < end_of b₀ (slice_index ws 0)
    left_room v l e out =
        let f = valid.parts.start_place v l in let t = valid.parts.place_end v l in
        let s = same_start v ∙ ap (slice_index b₀.starts.items) e in let d = same_end v ∙ ap (slice_index b₀.ends.items) e in
        some_left n front b₁ ws (start_of b₀ (slice_index ws 0)) (end_of b₀ (slice_index ws 0)) v valid inside gathered l (omega (arith, f, s)) (omega (arith, t, d)) out

    pub sides_are : slice_index ws 0 < n → ((i : ℕ) → i < length ws → slice_index ws i < n) → (middle : ℕ) → middle ≡ middle_at front (start_of b₀ (slice_index ws 0)) (end_of b₀ (slice_index ws 0)) (length ws) →
        SidesAt n (slice_index b₁.place.items) (start_of b₁ (slice_index ws 0)) middle (end_of b₁ (slice_index ws 0)) (side_of front ws)
    sides_are l within middle e =
        subst (λ m. SidesAt n (slice_index b₁.place.items) (start_of b₁ (slice_index ws 0)) m (end_of b₁ (slice_index ws 0)) (side_of front ws)) (sym e)
        (subst (λ s. SidesAt n (slice_index b₁.place.items) s (middle_at front (start_of b₀ (slice_index ws 0)) (end_of b₀ (slice_index ws 0)) (length ws)) (end_of b₁ (slice_index ws 0)) (side_of front ws)) (sym (same_start (slice_index ws 0)))
        (subst (λ t. SidesAt n (slice_index b₁.place.items) (start_of b₀ (slice_index ws 0)) (middle_at front (start_of b₀ (slice_index ws 0)) (end_of b₀ (slice_index ws 0)) (length ws)) t (side_of front ws)) (sym (same_end (slice_index ws 0)))
        (by_front front gathered)))
      where
        to_n : end_of b₀ (slice_index ws 0) ≤ n
        to_n = let h = valid.parts.end_in (slice_index ws 0) l in let q = same_end (slice_index ws 0) in omega (arith, h, q)

        by_front : (front : Bool) → ((i : ℕ) → i < length ws → slice_index b₁.order.items (target_of front (start_of b₀ (slice_index ws 0)) (end_of b₀ (slice_index ws 0)) i) ≡ slice_index ws i) →
            SidesAt n (slice_index b₁.place.items) (start_of b₀ (slice_index ws 0)) (middle_at front (start_of b₀ (slice_index ws 0)) (end_of b₀ (slice_index ws 0)) (length ws)) (end_of b₀ (slice_index ws 0)) (side_of front ws)
        by_front true g = front_sides n b₁ ws (start_of b₀ (slice_index ws 0)) (end_of b₀ (slice_index ws 0)) valid to_n inside within g
        by_front false g = back_sides n b₁ ws (start_of b₀ (slice_index ws 0)) (end_of b₀ (slice_index ws 0)) valid to_n inside within g
