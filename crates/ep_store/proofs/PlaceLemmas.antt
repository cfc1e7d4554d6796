-- An element of a list by its place, after a push and after a write.
use Rattle.std.proofs.Common.{◌≡◌, ◌≢◌, ℕ, zero, suc, ◌⊎◌, inl, inr, List, [], ◌∷◌, ◌++◌, set, length, slice_get, Some, refl, ap, arith}
use Rattle.std.proofs.lemmas.Option.{same_Some, none-some}

pub at_push_old : {A : Type 0} (xs : List A) (y : A) (i : ℕ) (x : A) → slice_get xs i ≡ Some x → slice_get (xs ++ y ∷ []) i ≡ Some x
at_push_old [] y i x h = absurd (none-some x h)
at_push_old (z ∷ xs) y zero x h = h
at_push_old (z ∷ xs) y (suc i) x h = at_push_old xs y i x h

pub at_push_new : {A : Type 0} (xs : List A) (y : A) → slice_get (xs ++ y ∷ []) (length xs) ≡ Some y
at_push_new [] y = refl
at_push_new (z ∷ xs) y = at_push_new xs y

pub at_push_cases : {A : Type 0} (xs : List A) (y : A) (i : ℕ) (x : A) → slice_get (xs ++ y ∷ []) i ≡ Some x → (slice_get xs i ≡ Some x) ⊎ ((i ≡ length xs) × (y ≡ x))
at_push_cases [] y zero x h = inr (refl, same_Some y x h)
at_push_cases [] y (suc i) x h = absurd (none-some x h)
at_push_cases (z ∷ xs) y zero x h = inl h
at_push_cases (z ∷ xs) y (suc i) x h =
    elim (at_push_cases xs y i x h) as (λ _. (slice_get xs i ≡ Some x) ⊎ ((suc i ≡ length (z ∷ xs)) × (y ≡ x))) [ inl e ↦ inl e | inr e ↦ inr (ap suc e.0, e.1) ]

pub at_set_same : {A : Type 0} (xs : List A) (i : ℕ) (y x : A) → slice_get xs i ≡ Some x → slice_get (set xs i y) i ≡ Some y
at_set_same [] i y x h = absurd (none-some x h)
at_set_same (z ∷ xs) zero y x h = refl
at_set_same (z ∷ xs) (suc i) y x h = at_set_same xs i y x h

pub at_set_other : {A : Type 0} (xs : List A) (i j : ℕ) (y : A) → i ≢ j → slice_get (set xs i y) j ≡ slice_get xs j
at_set_other [] i j y ne = refl
at_set_other (z ∷ xs) zero zero y ne = absurd (ne refl)
at_set_other (z ∷ xs) zero (suc j) y ne = refl
at_set_other (z ∷ xs) (suc i) zero y ne = refl
at_set_other (z ∷ xs) (suc i) (suc j) y ne = at_set_other xs i j y (λ e. ne (ap suc e))

pub at_set_cases : {A : Type 0} (xs : List A) (i j : ℕ) (y x : A) → slice_get (set xs i y) j ≡ Some x → ((i ≡ j) × (y ≡ x)) ⊎ ((i ≢ j) × (slice_get xs j ≡ Some x))
at_set_cases [] i j y x h = absurd (none-some x h)
at_set_cases (z ∷ xs) zero zero y x h = inl (refl, same_Some y x h)
at_set_cases (z ∷ xs) zero (suc j) y x h = inr ((λ e. omega (arith, e)), h)
at_set_cases (z ∷ xs) (suc i) zero y x h = inr ((λ e. omega (arith, e)), h)
at_set_cases (z ∷ xs) (suc i) (suc j) y x h =
    elim (at_set_cases xs i j y x h) as (λ _. ((suc i ≡ suc j) × (y ≡ x)) ⊎ ((suc i ≢ suc j) × (slice_get xs j ≡ Some x))) [ inl e ↦ inl (ap suc e.0, e.1) | inr e ↦ inr ((λ s. e.0 (omega (arith, s))), e.1) ]
