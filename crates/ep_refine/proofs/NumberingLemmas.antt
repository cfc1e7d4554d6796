-- Numbers by place in a sorted list.
use Rattle.std.proofs.Common.{◌≡◌, ℕ, suc, ◌<◌, ◌≤◌, ◌+◌, ◌-◌, List, [], ◌∷◌, ◌++◌, length, get_or, sym, ap, ap₂, subst, ◌∙◌, arith, Ordering, Less, Equal, ◌⊎◌, inl, inr, ⊎_elim, length-append}
use Rattle.std.specs.Ordering.{nat_cmp, ordering_reverse}
use Rattle.std.specs.Cmp.{IsTotalOrder, nat_cmp_is, nat_cmp_total}
use Rattle.std.proofs.Math.ListN.{get_or-append}
use Rattle.std.proofs.Math.Seq.{get_or-append_seam}
use Rattle.std.proofs.lemmas.Cmp.{tied_itself, alike_right}
use Rattle.ep_theory.specs.Rising.{IsIn}
use Rattle.ep_theory.proofs.CallerLemmas.{in_left, in_right, in_parts, last_or_before, IsIn-at}
use Rattle.ep_refine.specs.Numbering.{AreNumbers, IsAbove, IsLevel}

-- the first i items of a list are numbered, the last of them with the greatest number in use
pub record NumbersFirst {X : Type 0} (C : X → X → Ordering) (xs : List X) (numbers : List ℕ) (count i : ℕ) : Type 0 where
  pub one_each : length numbers ≡ i
  pub used : AreNumbers numbers count
  pub last : 0 < i → get_or numbers (i - 1) 0 + 1 ≡ count
  pub few : count ≤ i
  pub ordered : (j k : ℕ) (d : X) → j < i → k < i → nat_cmp (get_or numbers j 0) (get_or numbers k 0) ≡ C (get_or xs j d) (get_or xs k d)

-- the new item is level with the one before, or above it and all others
module _ {X : Type 0} (C : X → X → Ordering) (total : IsTotalOrder C) (xs : List X) (numbers : List ℕ) (count i : ℕ) (h : NumbersFirst C xs numbers count i) (new : ℕ)
    (joins : (j : ℕ) (d : X) → j < i → nat_cmp (get_or numbers j 0) new ≡ C (get_or xs j d) (get_or xs i d)) where
  here : get_or (numbers ++ new ∷ []) i 0 ≡ new
  here = subst (λ n. get_or (numbers ++ new ∷ []) n 0 ≡ new) h.one_each (get_or-append_seam numbers new [] 0)

  before : (j : ℕ) → j < i → get_or (numbers ++ new ∷ []) j 0 ≡ get_or numbers j 0
  before j l = get_or-append numbers (new ∷ []) 0 j (let q = h.one_each in omega arith)

  forward : (j : ℕ) (d : X) → j < i → nat_cmp (get_or (numbers ++ new ∷ []) j 0) (get_or (numbers ++ new ∷ []) i 0) ≡ C (get_or xs j d) (get_or xs i d)
  forward j d l = ap₂ nat_cmp (before j l) here ∙ joins j d l

  pub ordered_more : (j k : ℕ) (d : X) → j < suc i → k < suc i → nat_cmp (get_or (numbers ++ new ∷ []) j 0) (get_or (numbers ++ new ∷ []) k 0) ≡ C (get_or xs j d) (get_or xs k d)
  ordered_more j k d a b = ⊎_elim
      (λ (p : j ≡ i). ⊎_elim
      (λ (q : k ≡ i). subst (λ m. nat_cmp (get_or (numbers ++ new ∷ []) j 0) (get_or (numbers ++ new ∷ []) m 0) ≡ C (get_or xs j d) (get_or xs m d)) (p ∙ sym q)
      (tied_itself nat_cmp_total (get_or (numbers ++ new ∷ []) j 0) ∙ sym (tied_itself total (get_or xs j d))))
      (λ (l : k < i). subst (λ m. nat_cmp (get_or (numbers ++ new ∷ []) m 0) (get_or (numbers ++ new ∷ []) k 0) ≡ C (get_or xs m d) (get_or xs k d)) (sym p)
      (nat_cmp_total.antisymm (get_or (numbers ++ new ∷ []) i 0) (get_or (numbers ++ new ∷ []) k 0) ∙ ap ordering_reverse (forward k d l) ∙ sym (total.antisymm (get_or xs i d) (get_or xs k d))))
      (last_or_before k i b))
      (λ (l : j < i). ⊎_elim
      (λ (q : k ≡ i). subst (λ m. nat_cmp (get_or (numbers ++ new ∷ []) j 0) (get_or (numbers ++ new ∷ []) m 0) ≡ C (get_or xs j d) (get_or xs m d)) (sym q) (forward j d l))
      (λ (m : k < i). ap₂ nat_cmp (before j l) (before k m) ∙ h.ordered j k d l m)
      (last_or_before k i b))
      (last_or_before j i a)

-- a number in use is not above that of the item before
upto_last : {X : Type 0} (C : X → X → Ordering) (xs : List X) (numbers : List ℕ) (count i j : ℕ) → NumbersFirst C xs numbers count i → j < i → get_or numbers j 0 < count
upto_last C xs numbers count i j h l = (h.used (get_or numbers j 0)).0 (IsIn-at numbers j 0 (let q = h.one_each in omega arith))

pub numbers_next : {X : Type 0} (C : X → X → Ordering) → IsTotalOrder C → (xs : List X) (numbers : List ℕ) (count i : ℕ) → NumbersFirst C xs numbers count i →
    ((d : X) → 0 < i → C (get_or xs (i - 1) d) (get_or xs i d) ≡ Less) → NumbersFirst C xs (numbers ++ count ∷ []) (count + 1) (i + 1)
numbers_next {X} C total xs numbers count i h less = record {
  one_each = length-append numbers (count ∷ []) ∙ (let q = h.one_each in omega arith);
  used = λ c. (
    λ k. ⊎_elim
        (λ (l : IsIn c numbers). let b : c < count = (h.used c).0 l in omega arith)
        (λ (r : IsIn c (count ∷ [])). below_one c r)
        (in_parts c numbers (count ∷ []) k),
    λ b. ⊎_elim
        (λ (q : c ≡ count). in_right c numbers (count ∷ []) (inl q))
        (λ (l : c < count). in_left c numbers (count ∷ []) ((h.used c).1 l))
        (last_or_before c count (omega arith)),
  );
  last = λ l. let q : i + 1 - 1 ≡ i = omega arith in ap (λ n. get_or (numbers ++ count ∷ []) n 0 + 1) q ∙ ap (λ n. n + 1) (here C total xs numbers count i h count joins);
  few = let q = h.few in omega arith;
  ordered = λ j k d a b. ordered_more C total xs numbers count i h count joins j k d (omega arith) (omega arith);
}
  where
    below_one : (c : ℕ) → IsIn c (count ∷ []) → c < count + 1
    below_one c (inl q) = omega arith
    below_one c (inr r) = absurd r

    after : (o : Ordering) (x y z : X) → C x y ≡ o → o ≡ Less ⊎ o ≡ Equal → C y z ≡ Less → C x z ≡ Less
    after o x y z e (inl q) l = total.trans x y z (e ∙ q) l
    after o x y z e (inr q) l = total.congr x y z (e ∙ q) ∙ l

    low : (a b : ℕ) → a < b + 1 → (nat_cmp a b ≡ Less) ⊎ (nat_cmp a b ≡ Equal)
    low a b l = ⊎_elim
        (λ (q : a ≡ b). inr (sym (nat_cmp_is a b Equal q)))
        (λ (m : a < b). inl (sym (nat_cmp_is a b Less m)))
        (last_or_before a b (omega arith))

    joins : (j : ℕ) (d : X) → j < i → nat_cmp (get_or numbers j 0) count ≡ C (get_or xs j d) (get_or xs i d)
    joins j d l =
        let b : get_or numbers j 0 < count = upto_last C xs numbers count i j h l in
        let e : nat_cmp (get_or numbers j 0) (get_or numbers (i - 1) 0) ≡ C (get_or xs j d) (get_or xs (i - 1) d) = h.ordered j (i - 1) d l (omega arith) in
        let q : get_or numbers (i - 1) 0 + 1 ≡ count = h.last (omega arith) in
        let f : C (get_or xs j d) (get_or xs i d) ≡ Less = after (nat_cmp (get_or numbers j 0) (get_or numbers (i - 1) 0)) (get_or xs j d) (get_or xs (i - 1) d) (get_or xs i d) (sym e)
        (low (get_or numbers j 0) (get_or numbers (i - 1) 0) (omega arith)) (less d (omega arith)) in
        sym (nat_cmp_is (get_or numbers j 0) count Less b) ∙ sym f

pub numbers_same : {X : Type 0} (C : X → X → Ordering) → IsTotalOrder C → (xs : List X) (numbers : List ℕ) (count i : ℕ) → NumbersFirst C xs numbers count i → 0 < i →
    ((d : X) → C (get_or xs (i - 1) d) (get_or xs i d) ≡ Equal) → NumbersFirst C xs (numbers ++ (count - 1) ∷ []) count (i + 1)
numbers_same {X} C total xs numbers count i h some level = record {
  one_each = length-append numbers ((count - 1) ∷ []) ∙ (let q = h.one_each in omega arith);
  used = λ c. (
    λ k. ⊎_elim
        (λ (l : IsIn c numbers). (h.used c).0 l)
        (λ (r : IsIn c ((count - 1) ∷ [])). below_count c r)
        (in_parts c numbers ((count - 1) ∷ []) k),
    λ b. in_left c numbers ((count - 1) ∷ []) ((h.used c).1 b),
  );
  last = λ l. let q : i + 1 - 1 ≡ i = omega arith in ap (λ n. get_or (numbers ++ (count - 1) ∷ []) n 0 + 1) q ∙ ap (λ n. n + 1) (here C total xs numbers count i h (count - 1) joins) ∙ (let q = h.last some in omega arith);
  few = let q = h.few in omega arith;
  ordered = λ j k d a b. ordered_more C total xs numbers count i h (count - 1) joins j k d (omega arith) (omega arith);
}
  where
    below_count : (c : ℕ) → IsIn c ((count - 1) ∷ []) → c < count
    below_count c (inl q) = let l = h.last some in omega arith
    below_count c (inr r) = absurd r

    joins : (j : ℕ) (d : X) → j < i → nat_cmp (get_or numbers j 0) (count - 1) ≡ C (get_or xs j d) (get_or xs i d)
    joins j d l =
        let q : get_or numbers (i - 1) 0 ≡ count - 1 = (let l = h.last some in omega arith) in
        ap (nat_cmp (get_or numbers j 0)) (sym q) ∙ h.ordered j (i - 1) d l (omega arith) ∙ alike_right total (get_or xs (i - 1) d) (get_or xs i d) (get_or xs j d) (level d)

-- what one turn of the loop leaves
pub turn_above : {X : Type 0} (C : X → X → Ordering) → IsTotalOrder C → (xs : List X) (numbers after : List ℕ) (count now i : ℕ) → NumbersFirst C xs numbers count i →
    IsAbove C xs i → now ≡ count + 1 → after ≡ numbers ++ (now - 1) ∷ [] → NumbersFirst C xs after now (i + 1)
turn_above C total xs numbers after count now i h above q e =
    let r : now - 1 ≡ count = omega arith in
    subst (λ ns. NumbersFirst C xs ns now (i + 1)) (ap (λ n. numbers ++ n ∷ []) (sym r) ∙ sym e)
    (subst (λ n. NumbersFirst C xs (numbers ++ count ∷ []) n (i + 1)) (sym q) (numbers_next C total xs numbers count i h above))

pub turn_level : {X : Type 0} (C : X → X → Ordering) → IsTotalOrder C → (xs : List X) (numbers after : List ℕ) (count now i : ℕ) → NumbersFirst C xs numbers count i →
    IsLevel C xs i → now ≡ count → after ≡ numbers ++ (now - 1) ∷ [] → NumbersFirst C xs after now (i + 1)
turn_level C total xs numbers after count now i h level q e =
    subst (λ ns. NumbersFirst C xs ns now (i + 1)) (sym e)
    (subst (λ n. NumbersFirst C xs (numbers ++ (n - 1) ∷ []) n (i + 1)) (sym q) (numbers_same C total xs numbers count i h level.0 level.1))
