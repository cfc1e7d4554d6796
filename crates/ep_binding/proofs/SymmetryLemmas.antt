-- A sum over all bindings is the same in any order of the parameters, where a term is the same in any order of objects.
use Rattle.std.proofs.Common.{◌≡◌, ℕ, Bool, true, false, ◌&&◌, ◌||◌, not, List, [], ◌∷◌, ◌++◌, refl, ap, ◌∙◌, sym}
use Rattle.std.specs.Prelude.{◌==◌}
use Rattle.std.specs.List.{sum_by}
use Rattle.ep_binding.specs.Bindings.{bindings, all_different, contains}
use Rattle.ep_binding.proofs.SharedLemmas.{sum-bindings, sum-same, sum-swap, test_comm}

-- the same where two neighbours change places
abbrev pub IsSymmetric : (List ℕ → ℕ) → Type 0
IsSymmetric f = (front : List ℕ) (o p : ℕ) (rest : List ℕ) → f (front ++ o ∷ p ∷ rest) ≡ f (front ++ p ∷ o ∷ rest)

abbrev pub total : (List ℕ → ℕ) → List (List ℕ) → ℕ
total f cs = sum_by f (bindings cs)

behind-one : (f : List ℕ → ℕ) → IsSymmetric f → (o : ℕ) → IsSymmetric (λ b. f (o ∷ b))
behind-one f h o front p q rest = h (o ∷ front) p q rest

total-two : (f : List ℕ → ℕ) (c d : List ℕ) (cs : List (List ℕ)) →
    total f (c ∷ d ∷ cs) ≡ sum_by (λ o. sum_by (λ p. total (λ b. f (o ∷ p ∷ b)) cs) d) c
total-two f c d cs =
    sum-bindings f c (d ∷ cs)
    ∙ sum-same (λ o. total (λ b. f (o ∷ b)) (d ∷ cs)) (λ o. sum_by (λ p. total (λ b. f (o ∷ p ∷ b)) cs) d) c (λ o. sum-bindings (λ b. f (o ∷ b)) d cs)

swapped : (f : List ℕ → ℕ) → IsSymmetric f → (c d : List ℕ) (cs : List (List ℕ)) → total f (c ∷ d ∷ cs) ≡ total f (d ∷ c ∷ cs)
swapped f h c d cs =
    total-two f c d cs
    ∙ sum-swap (λ o p. total (λ b. f (o ∷ p ∷ b)) cs) c d
    ∙ sum-same (λ p. sum_by (λ o. total (λ b. f (o ∷ p ∷ b)) cs) c) (λ p. sum_by (λ o. total (λ b. f (p ∷ o ∷ b)) cs) c) d
    (λ p. sum-same (λ o. total (λ b. f (o ∷ p ∷ b)) cs) (λ o. total (λ b. f (p ∷ o ∷ b)) cs) c
    (λ o. sum-same (λ b. f (o ∷ p ∷ b)) (λ b. f (p ∷ o ∷ b)) (bindings cs) (λ b. h [] o p b)))
    ∙ sym (total-two f d c cs)

-- any parameter may stand first
pub to-front : (f : List ℕ → ℕ) → IsSymmetric f → (xs : List (List ℕ)) (c : List ℕ) (ys : List (List ℕ)) → total f (xs ++ c ∷ ys) ≡ total f (c ∷ (xs ++ ys))
to-front f h [] c ys = refl
to-front f h (x ∷ xs) c ys =
    sum-bindings f x (xs ++ c ∷ ys)
    ∙ sum-same (λ o. total (λ b. f (o ∷ b)) (xs ++ c ∷ ys)) (λ o. total (λ b. f (o ∷ b)) (c ∷ (xs ++ ys))) x
    (λ o. to-front (λ b. f (o ∷ b)) (behind-one f h o) xs c ys)
    ∙ sym (sum-bindings f x (c ∷ (xs ++ ys)))
    ∙ swapped f h x c (xs ++ ys)

-- ---- no object stands there twice, in any order

or-swapped : (x y z : Bool) → (x || (y || z)) ≡ (y || (x || z))
or-swapped true true z = refl
or-swapped true false z = refl
or-swapped false y z = refl

contains-swapped : (front : List ℕ) (o p : ℕ) (rest : List ℕ) (q : ℕ) → contains (front ++ o ∷ p ∷ rest) q ≡ contains (front ++ p ∷ o ∷ rest) q
contains-swapped [] o p rest q = or-swapped (o == q) (p == q) (contains rest q)
contains-swapped (r ∷ front) o p rest q = ap (λ b. (r == q) || b) (contains-swapped front o p rest q)

exchanged : (e x y z : Bool) → (not (e || x) && (not y && z)) ≡ (not (e || y) && (not x && z))
exchanged true x y z = refl
exchanged false true true z = refl
exchanged false true false z = refl
exchanged false false true z = refl
exchanged false false false z = refl

pub different-swapped : (front : List ℕ) (o p : ℕ) (rest : List ℕ) → all_different (front ++ o ∷ p ∷ rest) ≡ all_different (front ++ p ∷ o ∷ rest)
different-swapped [] o p rest =
    ap (λ e. not (e || contains rest o) && (not (contains rest p) && all_different rest)) (test_comm p o (p == o) (o == p) refl refl)
    ∙ exchanged (o == p) (contains rest o) (contains rest p) (all_different rest)
different-swapped (q ∷ front) o p rest = λ i. not (contains-swapped front o p rest q i) && different-swapped front o p rest i
