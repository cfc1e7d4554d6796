-- The places of values in a rising list are ordered as the values are; so the ranks after k rounds order the worlds as their kinds at level k.
use Rattle.std.proofs.Common.{◌≡◌, ℕ, zero, suc, ◌<◌, ◌≤◌, ◌+◌, List, [], ◌∷◌, refl, sym, ap, subst, ◌∙◌, arith, Ordering, Less, Equal, Greater, map, ◌⊎◌, inl, inr, ⊎_elim, length, get_or}
use Rattle.std.specs.Ordering.{nat_cmp, ordering_reverse, MatchOrdering, bool_cmp}
use Rattle.std.specs.List.{range_with_len}
use Rattle.std.specs.Cmp.{nat_cmp_is}
use Rattle.std.specs.Cmp.Lexicographic.{slice_cmp}
use Rattle.std.proofs.lemmas.Cmp.{tied_itself}
use Rattle.ep_theory.specs.Rising.{IsIn, IsRising, rising}
use Rattle.ep_theory.specs.Kripke.{Kripke, IsState, truth_of}
use Rattle.ep_theory.specs.Kind.{node_cmp}
use Rattle.ep_theory.specs.Ranks.{RanksAt, signature, one_more_after, rank_in, ranks_among, ranks}
use Rattle.ep_theory.proofs.lists.Orders.{IsExact, bools, lists, nodes}
use Rattle.ep_theory.proofs.lists.Lists.{at_All, IsIn-map, IsIn-rising, IsRising-rising, not_both_below, not_below_itself, below_from_above}
use Rattle.ep_theory.proofs.states.Unique.{numbers}
use Rattle.ep_theory.proofs.lists.Filters.{IsIn-at}
use Rattle.ep_theory.proofs.kinds.Ranked.{signatures}

module _ {A : Type 0} (R : A → A → Ordering) (e : IsExact R) where
  above_from_below : (x y : A) → R x y ≡ Less → R y x ≡ Greater
  above_from_below x y h = e.total.antisymm y x ∙ ap ordering_reverse h

  pub place_here : (x y : A) (ys : List A) → x ≡ y → rank_in R x (y ∷ ys) ≡ 0
  place_here x y ys q = ap (λ o. one_more_after o (rank_in R x ys)) (subst (λ t. R x t ≡ Equal) q (tied_itself e.total x))

  pub place_later : (x y : A) (ys : List A) → R y x ≡ Less → rank_in R x (y ∷ ys) ≡ suc (rank_in R x ys)
  place_later x y ys h = ap (λ o. one_more_after o (rank_in R x ys)) (above_from_below y x h)

  pub place-below : (x z : A) (l : List A) → IsRising R l → IsIn x l → IsIn z l → R x z ≡ Less → rank_in R x l < rank_in R z l
  place-below x z [] h i j c = absurd i
  place-below x z (y ∷ ys) h (inl p) (inl q) c = absurd (not_below_itself R e x (subst (λ t. R x t ≡ Less) (q ∙ sym p) c))
  place-below x z (y ∷ ys) h (inl p) (inr j) c =
      let f = place_here x y ys p in
      let g = place_later z y ys (at_All (λ t. R y t ≡ Less) z ys h.0 j) in
      omega arith
  place-below x z (y ∷ ys) h (inr i) (inl q) c =
      absurd (not_both_below R e x y (subst (λ t. R x t ≡ Less) q c) (at_All (λ t. R y t ≡ Less) x ys h.0 i))
  place-below x z (y ∷ ys) h (inr i) (inr j) c =
      let f = place_later x y ys (at_All (λ t. R y t ≡ Less) x ys h.0 i) in
      let g = place_later z y ys (at_All (λ t. R y t ≡ Less) z ys h.0 j) in
      let k : rank_in R x ys < rank_in R z ys = place-below x z ys h.1 i j c in
      omega arith

  pub place-order : (x z : A) (l : List A) → IsRising R l → IsIn x l → IsIn z l → nat_cmp (rank_in R x l) (rank_in R z l) ≡ R x z
  place-order x z l h i j = sym (nat_cmp_is (rank_in R x l) (rank_in R z l) (R x z) (go (R x z) refl))
    where
      go : (o : Ordering) → R x z ≡ o → MatchOrdering o (rank_in R x l < rank_in R z l) (rank_in R x l ≡ rank_in R z l) (rank_in R z l < rank_in R x l)
      go Less c = place-below x z l h i j c
      go Equal c = ap (λ t. rank_in R t l) (e.same x z c)
      go Greater c = place-below z x l h j i (below_from_above R e x z c)

module _ {A : Type 0} (R : A → A → Ordering) (e : IsExact R) where
  -- the element at its place is the element
  pub at_own_place : (x : A) (l : List A) (d : A) → IsRising R l → IsIn x l → (rank_in R x l < length l) × (get_or l (rank_in R x l) d ≡ x)
  at_own_place x [] d h i = absurd i
  at_own_place x (y ∷ ys) d h (inl q) =
      let p : rank_in R x (y ∷ ys) ≡ 0 = place_here R e x y ys q in
      (omega arith, ap (λ k. get_or (y ∷ ys) k d) p ∙ sym q)
  at_own_place x (y ∷ ys) d h (inr i) =
      let p : rank_in R x (y ∷ ys) ≡ suc (rank_in R x ys) = place_later R e x y ys (at_All (λ t. R y t ≡ Less) x ys h.0 i) in
      let ih = at_own_place x ys d h.1 i in
      (omega arith, ap (λ k. get_or (y ∷ ys) k d) p ∙ ih.1)

  -- the place of the element at a place
  pub place-at : (l : List A) (i : ℕ) (d : A) → IsRising R l → i < length l → rank_in R (get_or l i d) l ≡ i
  place-at [] i d h b = absurd (omega arith)
  place-at (y ∷ ys) zero d h b = place_here R e y y ys refl
  place-at (y ∷ ys) (suc i) d h b =
      let b' : i < length ys = omega arith in
      place_later R e (get_or ys i d) y ys (at_All (λ t. R y t ≡ Less) (get_or ys i d) ys h.0 (IsIn-at ys i d b')) ∙ ap suc (place-at ys i d h.1 b')

pub from_range : (a n i : ℕ) → IsIn i (range_with_len a n) → i < a + n
from_range a zero i h = absurd h
from_range a (suc n) i (inl q) = omega arith
from_range a (suc n) i (inr h) = let g = from_range (a + 1) n i h in omega arith

pub IsIn-range : (a n i : ℕ) → a ≤ i → i < a + n → IsIn i (range_with_len a n)
IsIn-range a zero i h g = absurd (omega arith)
IsIn-range a (suc n) i h g =
    ⊎_elim (λ (q : i ≡ a). inl q) (λ (l : a < i). inr (IsIn-range (a + 1) n i (omega arith) (omega arith))) (first_or_later a i h)
  where
    first_or_later : (a i : ℕ) → a ≤ i → (i ≡ a) ⊎ (a < i)
    first_or_later a i h = grind arith

pub places-order : {A : Type 0} (R : A → A → Ordering) (e : IsExact R) (n : ℕ) (f : ℕ → A) (w v : ℕ) → w < n → v < n → nat_cmp (ranks_among R n f w) (ranks_among R n f v) ≡ R (f w) (f v)
places-order R e n f w v a b =
    place-order R e (f w) (f v) (rising R (map f (range_with_len 0 n))) (IsRising-rising R e (map f (range_with_len 0 n))) (stands w a) (stands v b)
  where
    stands : (u : ℕ) → u < n → IsIn (f u) (rising R (map f (range_with_len 0 n)))
    stands u h = IsIn-rising R e (f u) (map f (range_with_len 0 n)) (IsIn-map f u (range_with_len 0 n) (IsIn-range 0 n u (omega arith) (omega arith)))

-- ranks at round k order the worlds exactly as their kinds at level k
pub ranks-order : (S : Kripke) → IsState S → (k : ℕ) → RanksAt S k (ranks S k)
ranks-order S s zero w v a b = places-order (slice_cmp bool_cmp) (lists bool_cmp bools) S.worlds (truth_of S) w v a b
ranks-order S s (suc k) w v a b =
    places-order (node_cmp nat_cmp) (nodes nat_cmp numbers) S.worlds (signature S (ranks S k)) w v a b
    ∙ signatures S s k (ranks S k) (ranks-order S s k) w v a b
