-- From std's words on lists to those of this crate, and back.
use Rattle.std.proofs.Common.{◌≡◌, ℕ, zero, suc, ◌<◌, List, [], ◌∷◌, Bool, sym, subst, ◌∙◌, arith, Ordering, Less, inl, inr, length, get_or, Contains, IsPermutation, IsSorted}
use Rattle.std.specs.List.{dedup}
use Rattle.std.specs.List.Sorted.{IsStrictlySortedBy}
use Rattle.std.specs.Cmp.{IsEquivalence}
use Rattle.std.specs.Ordering.{eq_by_cmp}
use Rattle.std.proofs.lemmas.List.Kept.{Contains-dedup, Contains-from_dedup, IsStrictlySortedBy-dedup}
use Rattle.std.proofs.lemmas.List.Sorted.{IsPermutation-sym, Contains-permutation}
use Rattle.ep_theory.specs.Rising.{IsIn, IsRising, rising}
use Rattle.ep_theory.proofs.lists.Orders.{IsExact}
use Rattle.ep_theory.proofs.lists.Lists.{at_All, All-from_each, same_rising, IsRising-rising, IsIn-rising, from_rising}
use Rattle.ep_theory.proofs.lists.Filters.{IsIn-at}
use Rattle.ep_theory.proofs.kinds.Points.{equal_from_test}

pub Contains-from_in : {A : Type 0} (x : A) (xs : List A) → IsIn x xs → Contains xs x
Contains-from_in x [] i = absurd i
Contains-from_in x (y ∷ ys) (inl q) = (0, omega arith, sym q)
Contains-from_in x (y ∷ ys) (inr i) = let r = Contains-from_in x ys i in (suc r.0, omega arith, r.2)

pub in_from_Contains : {A : Type 0} (x : A) (xs : List A) → Contains xs x → IsIn x xs
in_from_Contains x xs c = subst (λ t. IsIn t xs) c.2 (IsIn-at xs c.0 x c.1)

pub rising_from_strict : {A : Type 0} (R : A → A → Ordering) (xs : List A) → IsStrictlySortedBy R xs → IsRising R xs
unfolding IsStrictlySortedBy
rising_from_strict R [] h = tt
rising_from_strict R (x ∷ xs) h = (h.0, rising_from_strict R xs h.1)

pub strict_from_rising : {A : Type 0} (R : A → A → Ordering) (xs : List A) → IsRising R xs → IsStrictlySortedBy R xs
unfolding IsStrictlySortedBy
strict_from_rising R [] h = tt
strict_from_rising R (x ∷ xs) h = (h.0, strict_from_rising R xs h.1)

-- by index
pub rises_at : {A : Type 0} (R : A → A → Ordering) (xs : List A) → IsRising R xs → (i j : ℕ) (d : A) → i < j → j < length xs → R (get_or xs i d) (get_or xs j d) ≡ Less
rises_at R [] h i j d l b = absurd (omega arith)
rises_at R (x ∷ xs) h i zero d l b = absurd (omega arith)
rises_at R (x ∷ xs) h zero (suc j) d l b = at_All (λ y. R x y ≡ Less) (get_or xs j d) xs h.0 (IsIn-at xs j d (omega arith))
rises_at R (x ∷ xs) h (suc i) (suc j) d l b = rises_at R xs h.1 i j d (omega arith) (omega arith)

pub rising_from_each : {A : Type 0} (R : A → A → Ordering) (xs : List A) → ((i j : ℕ) (d : A) → i < j → j < length xs → R (get_or xs i d) (get_or xs j d) ≡ Less) → IsRising R xs
rising_from_each R [] f = tt
rising_from_each R (x ∷ xs) f = (
  All-from_each (λ y. R x y ≡ Less) xs (λ y i. let c = Contains-from_in y xs i in subst (λ t. R x t ≡ Less) c.2 (f 0 (suc c.0) y (omega arith) (omega arith))),
  rising_from_each R xs (λ i j d l b. f (suc i) (suc j) d (omega arith) (omega arith)),
)

-- a list that rises and has the elements is the list of the distinct elements in rising order
pub is_rising_of : {A : Type 0} (R : A → A → Ordering) (e : IsExact R) (xs zs : List A) → IsRising R zs → ((x : A) → IsIn x xs → IsIn x zs) → ((x : A) → IsIn x zs → IsIn x xs) → zs ≡ rising R xs
is_rising_of R e xs zs h f g = same_rising R e zs (rising R xs) h (IsRising-rising R e xs)
    (λ x i. IsIn-rising R e x xs (g x i)) (λ x i. f x (from_rising R e x xs i))

-- what a sort and then `dedup` leave
pub sorted_and_deduped : {A : Type 0} (R : A → A → Ordering) (e : IsExact R) (E : A → A → Bool) → IsEquivalence E → ((x y : A) → E x y ≡ eq_by_cmp R x y) →
    (xs ys : List A) → IsPermutation xs ys → IsSorted R ys → dedup E ys ≡ rising R xs
sorted_and_deduped R e E q ties xs ys p o =
    is_rising_of R e xs (dedup E ys) (rising_from_strict R (dedup E ys) (IsStrictlySortedBy-dedup e.total ties ys o))
    (λ x i. in_from_Contains x (dedup E ys) (Contains-dedup q (λ x y h. e.same x y (equal_from_test (R x y) (sym (ties x y) ∙ h))) ys x
    (Contains-permutation xs ys x p (Contains-from_in x xs i))))
    (λ x i. in_from_Contains x xs (Contains-permutation ys xs x (IsPermutation-sym xs ys p)
    (Contains-from_dedup E ys x (Contains-from_in x (dedup E ys) i))))
