-- The first blocks: all worlds in one, and then by their truth lists.
use Rattle.std.proofs.Common.{◌≡◌, ℕ, suc, ◌<◌, ◌≤◌, ◌+◌, ◌/◌, Bool, true, false, List, [], ◌∷◌, ◌++◌, length, get_or, map, replicate, refl, sym, ap, ap₂, subst, ◌∙◌, arith, Ordering, IsPermutation}
use Rattle.std.specs.Ordering.{nat_cmp, bool_cmp}
use Rattle.std.specs.List.{range_with_len}
use Rattle.std.specs.Cmp.Lexicographic.{slice_cmp}
use Rattle.std.proofs.lemmas.List.{get_or-replicate}
use Rattle.std.proofs.lemmas.List.FromFn.{get_or-range_with_len, length-range_with_len, get_or-map-range_with_len, length-map-range_with_len}
use Rattle.std.proofs.Math.ListN.{length-replicate}
use Rattle.ep_theory.specs.Rising.{IsIn}
use Rattle.ep_theory.specs.Kripke.{Kripke, truth_of}
use Rattle.ep_theory.specs.Ranks.{ranks_among}
use Rattle.ep_theory.proofs.lists.Orders.{lists, bools}
use Rattle.ep_theory.proofs.kinds.Places.{places-order}
use Rattle.ep_theory.proofs.CallerLemmas.{same_places, IsIn-map, IsIn-at}
use Rattle.ep_kripke.specs.declared.limits.TheConstants.{MOST_WORLDS}
use Rattle.ep_refine.specs.declared.blocks.Blocks.{Blocks}
use Rattle.ep_refine.specs.Numbering.{OrdersKeys, IsGrouped}
use Rattle.ep_refine.specs.Blocks.{AreBlocks, rank_of}
use Rattle.ep_refine.specs.Groups.{Suits, Agrees, IsWithin, AreDistinct}
use Rattle.ep_refine.proofs.TouchLemmas.{in_within}
use Rattle.ep_refine.proofs.RoundFacts.{moved_in, moved_within, moved_distinct}
use Rattle.ep_refine.proofs.KeyLemmas.{keyed_each}
use Rattle.ep_refine.proofs.PlacesLemmas.{range_more}

pub range_at : (n k : ℕ) → k < n → get_or (range_with_len 0 n) k 0 ≡ k
range_at n k l = get_or-range_with_len 0 n k 0 l ∙ (let z : 0 + k ≡ k = omega arith in z)

pub range_next : (xs after : List ℕ) (n m : ℕ) → xs ≡ range_with_len 0 n → after ≡ xs ++ n ∷ [] → m ≡ n + 1 → after ≡ range_with_len 0 m
range_next xs after n m h e q =
    let z : n ≡ 0 + n = omega arith in
    let r : suc n ≡ m = omega arith in
    e ∙ ap₂ (λ l x. l ++ x ∷ []) h z ∙ sym (range_more 0 n) ∙ ap (range_with_len 0) r

pub map_twice : {X Y Z : Type 0} (f : Y → Z) (g : X → Y) (xs : List X) → map (λ x. f (g x)) xs ≡ map f (map g xs)
map_twice f g [] = refl
map_twice f g (x ∷ xs) = ap (λ l. f (g x) ∷ l) (map_twice f g xs)

-- a list is its items by place
pub by_places : {A : Type 0} (xs : List A) (d : A) (n : ℕ) → length xs ≡ n → xs ≡ map (λ k. get_or xs k d) (range_with_len 0 n)
by_places xs d n e = same_places d xs (map (λ k. get_or xs k d) (range_with_len 0 n)) (e ∙ sym (length-map-range_with_len (λ k. get_or xs k d) 0 n))
    (λ i l. sym (get_or-map-range_with_len (λ k. get_or xs k d) 0 n i i d (omega (arith, l, e)) (omega arith)))

module _ (n : ℕ) (b : Blocks) (some : 0 < n) (few : n ≤ MOST_WORLDS) (order : b.order.items ≡ range_with_len 0 n) (place : b.place.items ≡ range_with_len 0 n)
    (ranks : b.ranks.items ≡ replicate n (n / 2)) (starts : b.starts.items ≡ replicate n 0) (ends : b.ends.items ≡ replicate n n) where
  half : n / 2 < n
  half = omega arith

  order_at : (k : ℕ) → k < n → get_or b.order.items k 0 ≡ k
  order_at k l = ap (λ l. get_or l k 0) order ∙ range_at n k l

  place_at : (k : ℕ) → k < n → get_or b.place.items k 0 ≡ k
  place_at k l = ap (λ l. get_or l k 0) place ∙ range_at n k l

  pub rank_at : (w : ℕ) → w < n → rank_of b w ≡ n / 2
  rank_at w l = ap (λ l. get_or l w 0) ranks ∙ get_or-replicate n w (n / 2) 0 l

  start_at : (w : ℕ) → w < n → get_or b.starts.items (rank_of b w) 0 ≡ 0
  start_at w l = ap₂ (λ s r. get_or s r 0) starts (rank_at w l) ∙ get_or-replicate n (n / 2) 0 0 half

  end_at : (w : ℕ) → w < n → get_or b.ends.items (rank_of b w) 0 ≡ n
  end_at w l = ap₂ (λ s r. get_or s r 0) ends (rank_at w l) ∙ get_or-replicate n (n / 2) n 0 half

  pub one_block_is : AreBlocks n b
  one_block_is = record {
    few = few;
    orders = ap length order ∙ length-range_with_len 0 n;
    places = ap length place ∙ length-range_with_len 0 n;
    ranked = ap length ranks ∙ length-replicate n (n / 2);
    started = ap length starts ∙ length-replicate n 0;
    ended = ap length ends ∙ length-replicate n n;
    parts = record {
      placed = λ w l. let p = place_at w l in (omega (arith, p, l), ap (λ k. get_or b.order.items k 0) p ∙ order_at w l);
      ordered = λ p l. let o = order_at p l in (omega (arith, o, l), ap (λ k. get_or b.place.items k 0) o ∙ place_at p l);
      start_rank = λ w l. let s = start_at w l in omega (arith, s);
      rank_end = λ w l. let e = end_at w l in let r = rank_at w l in let h = half in omega (arith, e, r, h);
      end_in = λ w l. let e = end_at w l in omega (arith, e);
      start_place = λ w l. let s = start_at w l in omega (arith, s);
      place_end = λ w l. let e = end_at w l in let p = place_at w l in omega (arith, e, p, l);
      alike = λ w p l f t. let e = end_at w l in let p_n : p < n = omega (arith, t, e) in let o = order_at p p_n in rank_at (get_or b.order.items p 0) (omega (arith, o, p_n)) ∙ sym (rank_at w l);
    };
  }

-- the groups of worlds by their truth lists, where all worlds are marked and of one class
module _ {X : Type 0} (cmp : X → X → Ordering) (world : X → ℕ) (value : X → List Bool) (same : (x y : X) → cmp x y ≡ slice_cmp bool_cmp (value x) (value y))
    (S : Kripke) (rank : ℕ → ℕ) (one : (u v : ℕ) → u < S.worlds → v < S.worlds → rank u ≡ rank v) (mark : ℕ → Bool) (all : (u : ℕ) → u < S.worlds → mark u ≡ true)
    (keyed : List X) (worlds_are : map world keyed ≡ range_with_len 0 S.worlds) (keys_are : map value keyed ≡ map (truth_of S) (range_with_len 0 S.worlds))
    (worlds groups : List ℕ) (moved : IsPermutation (map world keyed) worlds) (ordered : (g : ℕ → ℕ) → OrdersKeys cmp world g keyed → IsGrouped g groups worlds) where
  abbrev pub truth_place : ℕ → ℕ
  truth_place = ranks_among (slice_cmp bool_cmp) S.worlds (truth_of S)

  pub by_truths : (u v : ℕ) → u < S.worlds → v < S.worlds → nat_cmp (truth_place u) (truth_place v) ≡ slice_cmp bool_cmp (truth_of S u) (truth_of S v)
  by_truths u v a b = places-order (slice_cmp bool_cmp) (lists bool_cmp bools) S.worlds (truth_of S) u v a b

  placed : IsPermutation (range_with_len 0 S.worlds) worlds
  placed = subst (λ (l : List ℕ). IsPermutation l worlds) worlds_are moved

  range_within : IsWithin S.worlds (range_with_len 0 S.worlds)
  range_within k l = let e = length-range_with_len 0 S.worlds in let r = range_at S.worlds k (omega (arith, l, e)) in omega (arith, r, l, e)

  range_distinct : AreDistinct (range_with_len 0 S.worlds)
  range_distinct i j l b q =
      let e = length-range_with_len 0 S.worlds in
      let r = range_at S.worlds i (omega (arith, l, b, e)) in
      let s = range_at S.worlds j (omega (arith, b, e)) in
      omega (arith, q, r, s, l)

  in_range : (u : ℕ) → u < S.worlds → IsIn u (range_with_len 0 S.worlds)
  in_range u l = subst (λ v. IsIn v (range_with_len 0 S.worlds)) (range_at S.worlds u l) (IsIn-at (range_with_len 0 S.worlds) u 0 (let e = length-range_with_len 0 S.worlds in omega (arith, l, e)))

  orders : OrdersKeys cmp world truth_place keyed
  orders x y i j = by_truths (world x) (world y) (at x i) (at y j) ∙ ap₂ (slice_cmp bool_cmp) (sym (each x i)) (sym (each y j)) ∙ sym (same x y)
    where
      at : (x : X) → IsIn x keyed → world x < S.worlds
      at x i = in_within S.worlds (range_with_len 0 S.worlds) range_within (world x) (subst (IsIn (world x)) worlds_are (IsIn-map world x keyed i))

      each : (x : X) → IsIn x keyed → value x ≡ truth_of S (world x)
      each = keyed_each world value (truth_of S) keyed (keys_are ∙ sym (ap (map (truth_of S)) worlds_are))

  pub worlds_within : IsWithin S.worlds worlds
  worlds_within = moved_within S.worlds (range_with_len 0 S.worlds) worlds placed range_within

  pub worlds_distinct : AreDistinct worlds
  worlds_distinct = moved_distinct (range_with_len 0 S.worlds) worlds placed range_distinct

  pub truth_suits : Suits S.worlds rank truth_place mark worlds
  truth_suits = record {
    within = worlds_within;
    sorted = (ordered truth_place orders).sorted;
    listed = λ u l m. moved_in (range_with_len 0 S.worlds) worlds placed u (in_range u l);
    resting = λ u v a b p q e. absurd (clash (mark u) (all u a) p);
    chosen = λ u k l p t e. absurd (clash (mark u) (all u l) p);
    classes = λ u v a b l. absurd (let e = one u v a b in omega (arith, l, e));
  }
    where
      clash : (b : Bool) → b ≡ true → b ≡ false → ⊥
      clash b p q = cc

  pub truth_agrees : Agrees truth_place groups worlds
  truth_agrees = (ordered truth_place orders).agrees
