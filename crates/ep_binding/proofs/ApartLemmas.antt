-- A relation at all pairs of a list, and lists in which nothing stands twice.
use Rattle.std.proofs.Common.{◌≡◌, ◌≢◌, ℕ, zero, suc, Bool, true, false, not, cond, List, [], ◌∷◌, ◌++◌, map, filter, All, refl, sym, arith}
use Rattle.std.specs.Prelude.{◌==◌, AllPairs}
use Rattle.std.proofs.lemmas.List.Elements.{All-nil, All-cons, All-head, All-tail, All-append, All-filter, All-map}
use Rattle.std.proofs.lemmas.Bool.{and_parts, and_from, or_parts, or_from, not-true, not_from_false, eqb-false, ne_eqb}
use Rattle.ep_binding.specs.Bindings.{contains, all_different, IsApart}

module _ {X : Type 0} (R : X → X → Type 0) where
  pub pairs-nil : AllPairs R []
  pairs-nil i j d h k = absurd (omega arith)

  pub pairs-cons : (x : X) (xs : List X) → All (R x) xs → AllPairs R xs → AllPairs R (x ∷ xs)
  pairs-cons x xs h k zero zero d p q = absurd (omega arith)
  pairs-cons x xs h k zero (suc j) d p q = h j d (omega arith)
  pairs-cons x xs h k (suc i) zero d p q = absurd (omega arith)
  pairs-cons x xs h k (suc i) (suc j) d p q = k i j d (omega arith) (omega arith)

  pub pairs-head : (x : X) (xs : List X) → AllPairs R (x ∷ xs) → All (R x) xs
  pairs-head x xs h j d p = h 0 (suc j) d (omega arith) (omega arith)

  pub pairs-tail : (x : X) (xs : List X) → AllPairs R (x ∷ xs) → AllPairs R xs
  pairs-tail x xs h i j d p q = h (suc i) (suc j) d (omega arith) (omega arith)

  pub pairs-append : (xs ys : List X) → AllPairs R xs → AllPairs R ys → All (λ x. All (R x) ys) xs → AllPairs R (xs ++ ys)
  pairs-append [] ys h k b = k
  pairs-append (x ∷ xs) ys h k b =
      pairs-cons x (xs ++ ys)
      (All-append (R x) xs ys (pairs-head x xs h) (All-head (λ x. All (R x) ys) x xs b))
      (pairs-append xs ys (pairs-tail x xs h) k (All-tail (λ x. All (R x) ys) x xs b))

  pairs-kept : (x : X) (xs : List X) (b : Bool) → All (R x) xs → AllPairs R xs → AllPairs R (cond b (x ∷ xs) xs)
  pairs-kept x xs true h k = pairs-cons x xs h k
  pairs-kept x xs false h k = k

  pub pairs-filter : (p : X → Bool) (xs : List X) → AllPairs R xs → AllPairs R (filter p xs)
  pairs-filter p [] h = h
  pairs-filter p (x ∷ xs) h =
      pairs-kept x (filter p xs) (p x) (All-filter p (R x) xs (pairs-head x xs h)) (pairs-filter p xs (pairs-tail x xs h))

pub pairs-map : {X Y : Type 0} (R : Y → Y → Type 0) (f : X → Y) (xs : List X) →
    AllPairs (λ x y. R (f x) (f y)) xs → AllPairs R (map f xs)
pairs-map R f [] h = pairs-nil R
pairs-map R f (x ∷ xs) h =
    pairs-cons R (f x) (map f xs)
    (All-map (R (f x)) f xs (pairs-head (λ x y. R (f x) (f y)) x xs h))
    (pairs-map R f xs (pairs-tail (λ x y. R (f x) (f y)) x xs h))

lacks-tells : (os : List ℕ) (o : ℕ) → contains os o ≡ false → All (λ p. o ≢ p) os
lacks-tells [] o h = All-nil (λ p. o ≢ p)
lacks-tells (p ∷ os) o h =
    let r = or_parts (p == o) (contains os o) h in
    All-cons (λ p. o ≢ p) p os (λ e. eqb-false p o r.0 (sym e)) (lacks-tells os o r.1)

lacks-from : (os : List ℕ) (o : ℕ) → All (λ p. o ≢ p) os → contains os o ≡ false
lacks-from [] o h = refl
lacks-from (p ∷ os) o h =
    or_from (p == o) (contains os o)
    (ne_eqb p o (λ e. All-head (λ p. o ≢ p) p os h (sym e)))
    (lacks-from os o (All-tail (λ p. o ≢ p) p os h))

pub different-tells : (os : List ℕ) → all_different os ≡ true → IsApart os
different-tells [] h = pairs-nil (λ x y. x ≢ y)
different-tells (o ∷ os) h =
    let r = and_parts (not (contains os o)) (all_different os) h in
    pairs-cons (λ x y. x ≢ y) o os (lacks-tells os o (not-true (contains os o) r.0)) (different-tells os r.1)

pub different-from : (os : List ℕ) → IsApart os → all_different os ≡ true
different-from [] h = refl
different-from (o ∷ os) h =
    and_from (not (contains os o)) (all_different os)
    (not_from_false (contains os o) (lacks-from os o (pairs-head (λ x y. x ≢ y) o os h)))
    (different-from os (pairs-tail (λ x y. x ≢ y) o os h))
