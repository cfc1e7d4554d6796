-- What numbers and pairs below a bound are chosen, and in which order.
use Rattle.std.proofs.Common.{◌≡◌, ℕ, zero, suc, ◌<◌, ◌≤◌, Bool, true, false, cond, ◌&&◌, ◌==◌, List, [], ◌∷◌, ◌++◌, map, filter, length, get_or, IsTrue, refl, sym, ◌∙◌, ap, ap₂, subst, arith, ◌⊎◌, inl, inr, ⊎_elim, lt-suc_self, Ordering, Less}
use Rattle.std.specs.Ordering.{nat_cmp, ordering_then}
use Rattle.std.specs.Cmp.{nat_cmp_is, nat_cmp_total}
use Rattle.std.proofs.lemmas.Cmp.{tied_itself}
use Rattle.std.specs.List.{AllByRecursion}
use Rattle.ep_theory.specs.Rising.{IsIn, IsRising}
use Rattle.ep_logic.specs.Numbers.{numbers_where, pairs_within, has_number, has_pair, table}
use Rattle.ep_logic.proofs.CallerLemmas.{length-table, get_or-table}
use Rattle.ep_theory.specs.Kripke.{Kripke, IsState, pair_cmp, links_of, successors}
use Rattle.ep_theory.proofs.lists.Lists.{from_map, IsIn-map, at_All, All-from_each, equal_from_test, test_itself, same_rising, from_successors, IsIn-successors}
use Rattle.ep_theory.proofs.lists.Filters.{to_any, from_any}
use Rattle.ep_theory.proofs.lists.Counting.{last_or_before}
use Rattle.ep_theory.proofs.states.Unique.{numbers, links_within, links_rising}
use Rattle.ep_theory.proofs.lists.Bools.{and_parts, and_whole, in_left, in_right, in_parts}

-- the numbers below n that pass
last_passes : (p : ℕ → Bool) (n : ℕ) → IsTrue (p n) → IsIn n (cond (p n) (n ∷ []) [])
last_passes p n h = rw h (inl refl)

from_last : (b : Bool) (n i : ℕ) → IsIn i (cond b (n ∷ []) []) → (i ≡ n) × IsTrue b
from_last true n i (inl e) = (e, refl)
from_last true n i (inr j) = absurd j
from_last false n i j = absurd j

pub in_numbers : (p : ℕ → Bool) (n i : ℕ) → i < n → IsTrue (p i) → IsIn i (numbers_where p n)
in_numbers p zero i l h = absurd (omega arith)
in_numbers p (suc n) i l h = ⊎_elim
    (λ (e : i ≡ n). subst (λ k. IsIn k (numbers_where p n ++ cond (p n) (n ∷ []) [])) (sym e) (in_right n (numbers_where p n) (cond (p n) (n ∷ []) []) (last_passes p n (ap p (sym e) ∙ h))))
    (λ (k : i < n). in_left i (numbers_where p n) (cond (p n) (n ∷ []) []) (in_numbers p n i k h))
    (last_or_before i n l)

pub from_numbers : (p : ℕ → Bool) (n i : ℕ) → IsIn i (numbers_where p n) → (i < n) × IsTrue (p i)
from_numbers p zero i h = absurd h
from_numbers p (suc n) i h = ⊎_elim
    (λ (j : IsIn i (numbers_where p n)). let r = from_numbers p n i j in (omega (arith, r.0), r.1))
    (λ (j : IsIn i (cond (p n) (n ∷ []) [])). let r = from_last (p n) n i j in (subst (λ k. k < suc n) (sym r.0) (lt-suc_self n), ap p r.0 ∙ r.1))
    (in_parts i (numbers_where p n) (cond (p n) (n ∷ []) []) h)

-- the pairs that pass
pub in_pairs : (r : ℕ → ℕ → Bool) (n m i j : ℕ) → i < m → j < n → IsTrue (r i j) → IsIn (i, j) (pairs_within r n m)
in_pairs r n zero i j l k h = absurd (omega arith)
in_pairs r n (suc m) i j l k h = ⊎_elim
    (λ (e : i ≡ m). in_right {A = ℕ × ℕ} (i, j) (pairs_within r n m) (map (λ j. (m, j)) (numbers_where (r m) n))
    (subst (λ x. IsIn {A = ℕ × ℕ} (x, j) (map (λ j. (m, j)) (numbers_where (r m) n))) (sym e)
    (IsIn-map {B = ℕ × ℕ} (λ j. (m, j)) j (numbers_where (r m) n) (in_numbers (r m) n j k (ap (λ x. r x j) (sym e) ∙ h)))))
    (λ (b : i < m). in_left {A = ℕ × ℕ} (i, j) (pairs_within r n m) (map (λ j. (m, j)) (numbers_where (r m) n)) (in_pairs r n m i j b k h))
    (last_or_before i m l)

-- what is known of a chosen pair
abbrev pub IsChosen : (ℕ → ℕ → Bool) → ℕ → ℕ → ℕ × ℕ → Type 0
IsChosen r n m p = (p.0 < m) × (p.1 < n) × IsTrue (r p.0 p.1)

pub from_pairs : (r : ℕ → ℕ → Bool) (n m : ℕ) (p : ℕ × ℕ) → IsIn p (pairs_within r n m) → IsChosen r n m p
from_pairs r n zero p h = absurd h
from_pairs r n (suc m) p h = ⊎_elim
    (λ (j : IsIn p (pairs_within r n m)). let c = from_pairs r n m p j in (omega (arith, c.0), c.1, c.2))
    (λ (j : IsIn p (map (λ j. (m, j)) (numbers_where (r m) n))).
    let q = from_map {B = ℕ × ℕ} (λ j. (m, j)) p (numbers_where (r m) n) j in
    let c = from_numbers (r m) n q.0 q.1 in
    subst (IsChosen r n (suc m)) (sym q.2) (lt-suc_self m, c.0, c.1))
    (in_parts p (pairs_within r n m) (map (λ j. (m, j)) (numbers_where (r m) n)) h)

-- order
pub below : (x y : ℕ) → x < y → nat_cmp x y ≡ Less
below x y l = sym (nat_cmp_is x y Less l)

rising_step : {A : Type 0} (R : A → A → Ordering) (x : A) (xs ys : List A) → AllByRecursion (λ y. R x y ≡ Less) xs → ((y : A) → IsIn y ys → R x y ≡ Less) → AllByRecursion (λ y. R x y ≡ Less) (xs ++ ys)
rising_step R x xs ys a f = All-from_each (λ y. R x y ≡ Less) (xs ++ ys) (λ y i. ⊎_elim (λ (j : IsIn y xs). at_All (λ y. R x y ≡ Less) y xs a j) (f y) (in_parts y xs ys i))

pub IsRising-append : {A : Type 0} (R : A → A → Ordering) (xs ys : List A) → IsRising R xs → IsRising R ys → ((x y : A) → IsIn x xs → IsIn y ys → R x y ≡ Less) → IsRising R (xs ++ ys)
IsRising-append R [] ys h g f = g
IsRising-append R (x ∷ xs) ys h g f = (rising_step R x xs ys h.0 (λ y j. f x y (inl refl) j), IsRising-append R xs ys h.1 g (λ z y i j. f z y (inr i) j))

one_rising : (b : Bool) (n : ℕ) → IsRising nat_cmp (cond b (n ∷ []) [])
one_rising true n = (tt, tt)
one_rising false n = tt

pub rising_numbers : (p : ℕ → Bool) (n : ℕ) → IsRising nat_cmp (numbers_where p n)
rising_numbers p zero = tt
rising_numbers p (suc n) = IsRising-append nat_cmp (numbers_where p n) (cond (p n) (n ∷ []) []) (rising_numbers p n) (one_rising (p n) n)
    (λ x y i j. let a = from_numbers p n x i in let b = from_last (p n) n y j in below x y (subst (λ k. x < k) (sym b.0) a.0))

same_first : (m x y : ℕ) → nat_cmp x y ≡ Less → pair_cmp (m, x) (m, y) ≡ Less
same_first m x y h = ap (λ o. ordering_then o (nat_cmp x y)) (tied_itself nat_cmp_total m) ∙ h

row_rising : (m : ℕ) (xs : List ℕ) → IsRising nat_cmp xs → IsRising pair_cmp (map (λ j. (m, j)) xs)
row_rising m [] h = tt
row_rising m (x ∷ xs) h = (
  All-from_each (λ (q : ℕ × ℕ). pair_cmp (m, x) q ≡ Less) (map (λ j. (m, j)) xs) (λ q i.
      let r = from_map {B = ℕ × ℕ} (λ j. (m, j)) q xs i in
      subst (λ (q : ℕ × ℕ). pair_cmp (m, x) q ≡ Less) (sym r.2) (same_first m x r.0 (at_All (λ y. nat_cmp x y ≡ Less) r.0 xs h.0 r.1))),
  row_rising m xs h.1,
)

first_below : (p q : ℕ × ℕ) → nat_cmp p.0 q.0 ≡ Less → pair_cmp p q ≡ Less
first_below p q h = ap (λ o. ordering_then o (nat_cmp p.1 q.1)) h

pub rising_pairs : (r : ℕ → ℕ → Bool) (n m : ℕ) → IsRising pair_cmp (pairs_within r n m)
rising_pairs r n zero = tt
rising_pairs r n (suc m) = IsRising-append pair_cmp (pairs_within r n m) (map (λ j. (m, j)) (numbers_where (r m) n)) (rising_pairs r n m) (row_rising m (numbers_where (r m) n) (rising_numbers (r m) n))
    (λ p q i j.
    let a = from_pairs r n m p i in
    let b = from_map {B = ℕ × ℕ} (λ j. (m, j)) q (numbers_where (r m) n) j in
    first_below p q (below p.0 q.0 (subst (λ (k : ℕ × ℕ). p.0 < k.0) (sym b.2) a.0)))

-- tests of membership
pub to_has_number : (xs : List ℕ) (x : ℕ) → IsIn x xs → IsTrue (has_number xs x)
to_has_number xs x i = to_any (λ y. y == x) x xs i (test_itself x)

pub from_has_number : (xs : List ℕ) (x : ℕ) → IsTrue (has_number xs x) → IsIn x xs
from_has_number xs x h =
    let r = from_any (λ y. y == x) xs h in
    subst (λ y. IsIn y xs) (equal_from_test r.0 x r.2) r.1

pub to_has_pair : (ps : List (ℕ × ℕ)) (i j : ℕ) → IsIn (i, j) ps → IsTrue (has_pair ps i j)
to_has_pair ps i j h = to_any {A = ℕ × ℕ} (λ p. (p.0 == i) && (p.1 == j)) (i, j) ps h (and_whole (i == i) (j == j) (test_itself i) (test_itself j))

pub from_has_pair : (ps : List (ℕ × ℕ)) (i j : ℕ) → IsTrue (has_pair ps i j) → IsIn (i, j) ps
from_has_pair ps i j h =
    let r = from_any {A = ℕ × ℕ} (λ p. (p.0 == i) && (p.1 == j)) ps h in
    let b = and_parts (r.0.0 == i) (r.0.1 == j) r.2 in
    subst (λ p. IsIn {A = ℕ × ℕ} p ps) (λ k. (equal_from_test r.0.0 i b.0 k, equal_from_test r.0.1 j b.1 k)) r.1

-- a list in rising order is the numbers that it has
pub rising_is_numbers : (n : ℕ) (xs : List ℕ) → IsRising nat_cmp xs → AllByRecursion (λ x. x < n) xs → xs ≡ numbers_where (has_number xs) n
rising_is_numbers n xs h a = same_rising nat_cmp numbers xs (numbers_where (has_number xs) n) h (rising_numbers (has_number xs) n)
    (λ x i. in_numbers (has_number xs) n x (at_All (λ x. x < n) x xs a i) (to_has_number xs x i))
    (λ x i. from_has_number xs x (from_numbers (has_number xs) n x i).1)

-- tables
pub from_table : {A : Type 0} (f : ℕ → A) (n : ℕ) (y : A) → IsIn y (table f n) → (i : ℕ) × (i < n) × (y ≡ f i)
from_table f zero y h = absurd h
from_table f (suc n) y h = ⊎_elim
    (λ (j : IsIn y (table f n)). let r = from_table f n y j in (r.0, omega (arith, r.1), r.2))
    (λ (j : IsIn y (f n ∷ [])). (n, lt-suc_self n, ⊎_elim (λ (e : y ≡ f n). e) (λ (z : ⊥). absurd z) j))
    (in_parts y (table f n) (f n ∷ []) h)

-- an element of a row of a table is one of a row that the table has
pub from_rows : {A : Type 0} (f : ℕ → List A) (n a : ℕ) (x : A) → IsIn x (get_or (table f n) a []) → (a < n) × IsIn x (f a)
from_rows f n a x h = by_bound (lt_or_past a n)
  where
    lt_or_past : (m l : ℕ) → (m < l) ⊎ (l ≤ m)
    lt_or_past m l = grind arith

    past_rows : {A : Type 0} (xs : List (List A)) (i : ℕ) → length xs ≤ i → get_or xs i [] ≡ []
    past_rows [] i l = refl
    past_rows (y ∷ ys) zero l = absurd (omega arith)
    past_rows (y ∷ ys) (suc i) l = past_rows ys i (omega arith)

    by_bound : (a < n) ⊎ (n ≤ a) → (a < n) × IsIn x (f a)
    by_bound (inl l) = (l, subst (λ r. IsIn x r) (get_or-table f n a [] l) h)
    by_bound (inr g) = absurd (subst (λ r. IsIn x r) (past_rows (table f n) a (subst (λ k. k ≤ a) (sym (length-table f n)) g)) h)

-- the place of an element
pub place_of : {A : Type 0} (x : A) (xs : List A) (d : A) → IsIn x xs → (i : ℕ) × (i < length xs) × (get_or xs i d ≡ x)
place_of x [] d i = absurd i
place_of x (y ∷ ys) d (inl e) = (0, omega arith, sym e)
place_of x (y ∷ ys) d (inr i) = let r = place_of x ys d i in (suc r.0, omega (arith, r.1), r.2)

-- the worlds to which an agent links a world rise
after_it : (w x y : ℕ) (p : ℕ × ℕ) → p.0 ≡ w → p.1 ≡ x → pair_cmp p (w, y) ≡ Less → nat_cmp x y ≡ Less
after_it w x y p e f h =
    ap (λ o. ordering_then o (nat_cmp x y)) (sym (tied_itself nat_cmp_total w))
    ∙ ap₂ (λ a b. ordering_then (nat_cmp a w) (nat_cmp b y)) (sym e) (sym f) ∙ h

successor_step : (p : ℕ × ℕ) (ps : List (ℕ × ℕ)) (w : ℕ) (b : Bool) → (p.0 == w) ≡ b → AllByRecursion (λ q. pair_cmp p q ≡ Less) ps → IsRising nat_cmp (successors ps w) →
    IsRising nat_cmp (map {A = ℕ × ℕ} (λ x. x.1) (cond b (p ∷ filter (λ x. x.0 == w) ps) (filter (λ x. x.0 == w) ps)))
successor_step p ps w true e a h = (
  All-from_each (λ v. nat_cmp p.1 v ≡ Less) (successors ps w) (λ v i.
      after_it w p.1 v p (equal_from_test p.0 w e) refl (at_All (λ (q : ℕ × ℕ). pair_cmp p q ≡ Less) (w, v) ps a (from_successors w v ps i))),
  h,
)
successor_step p ps w false e a h = h

pub rising_successors : (pairs : List (ℕ × ℕ)) (w : ℕ) → IsRising pair_cmp pairs → IsRising nat_cmp (successors pairs w)
rising_successors [] w h = tt
rising_successors (p ∷ ps) w h = successor_step p ps w (p.0 == w) refl h.0 (rising_successors ps w h.1)

-- the successors of a world are the numbers that it is paired with
pub successors_are_numbers : (S : Kripke) → IsState S → (a w : ℕ) → successors (links_of S a) w ≡ numbers_where (has_pair (links_of S a) w) S.worlds
successors_are_numbers S s a w = same_rising nat_cmp numbers (successors (links_of S a) w) (numbers_where (has_pair (links_of S a) w) S.worlds)
    (rising_successors (links_of S a) w (links_rising S s a)) (rising_numbers (has_pair (links_of S a) w) S.worlds)
    (λ v i. let j = from_successors w v (links_of S a) i in in_numbers (has_pair (links_of S a) w) S.worlds v (links_within S s a w v j).1 (to_has_pair (links_of S a) w v j))
    (λ v i. IsIn-successors w v (links_of S a) (from_has_pair (links_of S a) w v (from_numbers (has_pair (links_of S a) w) S.worlds v i).1))
