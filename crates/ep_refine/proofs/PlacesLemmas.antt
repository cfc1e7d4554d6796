-- Numbers written back from the places of a sorted list to the worlds.
use Rattle.std.proofs.Common.{◌≡◌, ◌≢◌, ℕ, zero, suc, ◌<◌, ◌+◌, List, [], ◌∷◌, ◌++◌, length, get_or, set, map, All, refl, sym, ap, ap₂, subst, ◌∙◌, arith, Ordering, ⊎_elim, nat_eq, IsPermutation}
use Rattle.std.specs.Ordering.{nat_cmp}
use Rattle.std.specs.List.{range_with_len, IsDistinct}
use Rattle.std.proofs.lemmas.Bool.Decides.{Decides-eqb}
use Rattle.std.proofs.lemmas.List.{map-append, get_or-map, get_or_default, get_or-set_other, get_or-set_same, length-map}
use Rattle.std.proofs.lemmas.List.FromFn.{get_or-range_with_len, length-range_with_len}
use Rattle.std.proofs.lemmas.List.Sorted.{IsPermutation-map, Contains-permutation, length_permutation, All-permutation}
use Rattle.std.proofs.lemmas.Map.Keys.{IsDistinct-IsPermutation}
use Rattle.std.proofs.lemmas.Map.Made.{AllPairs-from_IsDistinct, IsDistinct-from_AllPairs}
use Rattle.std.proofs.lemmas.Cmp.{nat_eq_equiv}
use Rattle.ep_theory.specs.Rising.{IsIn}
use Rattle.ep_theory.proofs.CallerLemmas.{Contains-from_in, last_or_before, IsIn-at, same_places}
use Rattle.ep_refine.specs.Numbering.{AreNumbers, OrdersAs}

pub range_more : (a n : ℕ) → range_with_len a (suc n) ≡ range_with_len a n ++ (a + n) ∷ []
range_more a zero = let q : a ≡ a + 0 = omega arith in ap (λ b. b ∷ []) q
range_more a (suc n) =
    let q : a + 1 + n ≡ a + suc n = omega arith in
    ap (λ l. a ∷ l) (range_more (a + 1) n ∙ ap (λ b. range_with_len (a + 1) n ++ b ∷ []) q)

-- one more item, whose number is how many there are
pub numbered_more : {X : Type 0} (world : X → ℕ) (xs after : List X) (x : X) (n m : ℕ) → map world xs ≡ range_with_len 0 n → world x ≡ n → after ≡ xs ++ x ∷ [] → m ≡ n + 1 → map world after ≡ range_with_len 0 m
numbered_more world xs after x n m h q e k =
    let r : suc n ≡ m = omega arith in
    let z : world x ≡ 0 + n = omega arith in
    ap (map world) e ∙ map-append world xs (x ∷ []) ∙ ap₂ (λ a b. a ++ b ∷ []) h z ∙ sym (range_more 0 n) ∙ ap (range_with_len 0) r

pub some_item : {X : Type 0} (xs : List X) (j : ℕ) → j < length xs → (x : X) × (x ≡ x)
some_item [] j l = absurd (omega arith)
some_item (x ∷ xs) j l = (x, refl)

module _ {X : Type 0} (world : X → ℕ) (places : List X) where
  apart : IsDistinct nat_eq (map world places) → (i j : ℕ) (d : X) → i < j → j < length places → world (get_or places i d) ≢ world (get_or places j d)
  apart h i j d l b q =
      let far = AllPairs-from_IsDistinct Decides-eqb (map world places) h i j 0 l (let k = length-map places world in omega arith) in
      far (get_or-map world places i d 0 (omega arith) ∙ q ∙ sym (get_or-map world places j d 0 b))

  pub put_more : (found numbers : List ℕ) (i : ℕ) (x : X) → IsDistinct nat_eq (map world places) → All (λ y. world y < length places) places → length found ≡ length places → i < length places →
      ((j : ℕ) (d : X) → j < i → get_or found (world (get_or places j d)) 0 ≡ get_or numbers j 0) →
      (j : ℕ) (d : X) → j < i + 1 → get_or (set found (world (get_or places i x)) (get_or numbers i 0)) (world (get_or places j d)) 0 ≡ get_or numbers j 0
  put_more found numbers i x h within long b put j d l = ⊎_elim
      (λ (q : j ≡ i).
      let e : get_or places j d ≡ get_or places i x = ap (λ k. get_or places k d) q ∙ get_or_default places i d x b in
      let w : world (get_or places i x) < length found = (let k = within i x b in omega arith) in
      ap (λ y. get_or (set found (world (get_or places i x)) (get_or numbers i 0)) (world y) 0) e
      ∙ get_or-set_same found (world (get_or places i x)) (get_or numbers i 0) 0 w
      ∙ ap (λ k. get_or numbers k 0) (sym q))
      (λ (m : j < i).
      let far : world (get_or places j d) ≢ world (get_or places i x) =
      λ q. apart h j i d m b (q ∙ ap world (get_or_default places i x d b)) in
      get_or-set_other found (world (get_or places i x)) (world (get_or places j d)) (get_or numbers i 0) 0 far ∙ put j d m)
      (last_or_before j i (omega arith))

  pub put_all : (found numbers : List ℕ) (i : ℕ) → length numbers ≡ length places → length places ≡ i →
      ((j : ℕ) (d : X) → j < i → get_or found (world (get_or places j d)) 0 ≡ get_or numbers j 0) →
      map (λ x. get_or found (world x) 0) places ≡ numbers
  put_all found numbers i long all put = same_places 0 (map (λ x. get_or found (world x) 0) places) numbers (length-map places (λ x. get_or found (world x) 0) ∙ sym long)
      (λ j l. at j (let k = length-map places (λ x. get_or found (world x) 0) in omega arith))
    where
      at : (j : ℕ) → j < length places → get_or (map (λ x. get_or found (world x) 0) places) j 0 ≡ get_or numbers j 0
      at j l = let x = (some_item places j l).0 in get_or-map (λ x. get_or found (world x) 0) places j x 0 l ∙ put j x (omega arith)

-- what a sort of the worlds by their keys leaves, once the places are numbered
module _ {K X : Type 0} (key : X → K) (world : X → ℕ) (keys : List K) (start sorted : List X)
    (keyed : map key start ≡ keys) (worlds : map world start ≡ range_with_len 0 (length keys)) (moved : IsPermutation start sorted) where
  long : length sorted ≡ length keys
  long = length_permutation start sorted moved ∙ sym (length-map start key) ∙ ap length keyed

  start_long : length start ≡ length keys
  start_long = sym (length-map start key) ∙ ap length keyed

  pub distinct : IsDistinct nat_eq (map world sorted)
  distinct = IsDistinct-IsPermutation nat_eq (λ x y. nat_eq_equiv.symm x y) (map world start) (map world sorted) (IsPermutation-map world start sorted moved)
      (subst (IsDistinct nat_eq) (sym worlds) (IsDistinct-from_AllPairs Decides-eqb (range_with_len 0 (length keys)) in_order))
    where
      in_order : (i j : ℕ) (d : ℕ) → i < j → j < length (range_with_len 0 (length keys)) → get_or (range_with_len 0 (length keys)) i d ≢ get_or (range_with_len 0 (length keys)) j d
      in_order i j d l b q =
          let n = length-range_with_len 0 (length keys) in
          let e = get_or-range_with_len 0 (length keys) i d (omega arith) in
          let f = get_or-range_with_len 0 (length keys) j d (omega arith) in
          omega (arith, q, e, f)

  world_at : (w : ℕ) (x : X) → w < length keys → world (get_or start w x) ≡ w
  world_at w x b =
      sym (get_or-map world start w x 0 (let q = start_long in omega arith)) ∙ ap (λ l. get_or l w 0) worlds ∙ get_or-range_with_len 0 (length keys) w 0 b ∙ (let z : 0 + w ≡ w = omega arith in z)

  key_at : (w : ℕ) (x : X) (d : K) → w < length keys → key (get_or start w x) ≡ get_or keys w d
  key_at w x d b = sym (get_or-map key start w x d (let q = start_long in omega arith)) ∙ ap (λ l. get_or l w d) keyed

  pub within : All (λ x. world x < length sorted) sorted
  within = All-permutation (λ x. world x < length sorted) start sorted moved
      (λ w d b. let q = long in let r = start_long in let e = world_at w d (omega arith) in omega (arith, e))

  -- the place of a world, with the item there
  record IsPlaceOf (w : ℕ) (d : K) : Type 0 where
    place : ℕ
    item : X
    inside : place < length sorted
    at_place : get_or sorted place item ≡ item
    its_world : world item ≡ w
    its_key : key item ≡ get_or keys w d

  place_of : (w : ℕ) (d : K) → w < length keys → IsPlaceOf w d
  place_of w d b =
      let x = (some_item start w (let q = start_long in omega arith)).0 in
      let item = get_or start w x in
      let c = Contains-permutation start sorted item moved (Contains-from_in item start (IsIn-at start w x (let q = start_long in omega arith))) in
      record { place = c.0; item = item; inside = c.1; at_place = c.2; its_world = world_at w x b; its_key = key_at w x d b }

  module _ (cmp : K → K → Ordering) (found numbers : List ℕ) (count : ℕ)
      (f_long : length found ≡ length sorted) (put : map (λ x. get_or found (world x) 0) sorted ≡ numbers)
      (ordered : OrdersAs (λ x y. cmp (key x) (key y)) sorted numbers) (used : AreNumbers numbers count) where
    found_at : (i : ℕ) (x : X) → i < length sorted → get_or found (world (get_or sorted i x)) 0 ≡ get_or numbers i 0
    found_at i x b = sym (get_or-map (λ x. get_or found (world x) 0) sorted i x 0 b) ∙ ap (λ l. get_or l i 0) put

    of_world : (w : ℕ) (d : K) (p : IsPlaceOf w d) → get_or found w 0 ≡ get_or numbers p.place 0
    of_world w d p = ap (λ v. get_or found v 0) (sym p.its_world) ∙ ap (λ x. get_or found (world x) 0) (sym p.at_place) ∙ found_at p.place p.item p.inside

    pub found_ordered : OrdersAs cmp keys found
    found_ordered = record {
      one_each = f_long ∙ long;
      ordered = λ w v d a b.
          let p = place_of w d a in
          let q = place_of v d b in
          ap₂ nat_cmp (of_world w d p) (of_world v d q)
          ∙ ordered.ordered p.place q.place p.item p.inside q.inside
          ∙ ap₂ cmp (ap key p.at_place ∙ p.its_key) (ap key (get_or_default sorted q.place p.item q.item q.inside ∙ q.at_place) ∙ q.its_key);
    }

    pub found_used : AreNumbers found count
    found_used c = (to_below, to_used)
      where
        to_below : IsIn c found → c < count
        to_below i =
            let w = Contains-from_in c found i in
            let d = (some_item keys w.0 (let q = long in let r = w.1 in omega arith)).0 in
            let p = place_of w.0 d (let q = long in let r = w.1 in omega arith) in
            let e : get_or numbers p.place 0 ≡ c = sym (of_world w.0 d p) ∙ get_or_default found w.0 0 c w.1 ∙ w.2 in
            (used c).0 (subst (λ n. IsIn n numbers) e (IsIn-at numbers p.place 0 (let r = ordered.one_each in let s = p.inside in omega arith)))

        to_used : c < count → IsIn c found
        to_used b =
            let n = Contains-from_in c numbers ((used c).1 b) in
            let l : n.0 < length sorted = (let r = ordered.one_each in let s = n.1 in omega arith) in
            let x = (some_item sorted n.0 l).0 in
            let e : get_or found (world (get_or sorted n.0 x)) 0 ≡ c = found_at n.0 x l ∙ get_or_default numbers n.0 0 c n.1 ∙ n.2 in
            subst (λ k. IsIn k found) e (IsIn-at found (world (get_or sorted n.0 x)) 0 (let r = f_long in let s = within n.0 x l in omega arith))

-- one more item, at the next number
pub map_range_more : {X Y : Type 0} (f : X → Y) (g : ℕ → Y) (xs after : List X) (x : X) (n : ℕ) → map f xs ≡ map g (range_with_len 0 n) → f x ≡ g n → after ≡ xs ++ x ∷ [] → map f after ≡ map g (range_with_len 0 (n + 1))
map_range_more f g xs after x n h q e =
    let r : suc n ≡ n + 1 = omega arith in
    let z : n ≡ 0 + n = omega arith in
    ap (map f) e ∙ map-append f xs (x ∷ []) ∙ ap₂ (λ a b. a ++ b ∷ []) h (q ∙ ap g z) ∙ sym (map-append g (range_with_len 0 n) ((0 + n) ∷ []))
    ∙ ap (map g) (sym (range_more 0 n)) ∙ ap (λ k. map g (range_with_len 0 k)) r
