-- The tests of nested sets and of laminar families say what their definitions say.
use Rattle.std.proofs.Common.{◌≡◌, ℕ, zero, suc, Bool, true, false, ◌||◌, not, inl, inr, IsTrue, List, [], ◌∷◌, All, refl, ap, ◌∙◌, arith, eq-eqb}
use Rattle.std.specs.Prelude.{◌==◌, ◌↔◌, Contains}
use Rattle.std.specs.List.{list_all}
use Rattle.std.proofs.lemmas.Bool.{and_parts, and_from, or_cases}
use Rattle.std.proofs.lemmas.Bool.Decides.{Decides-eqb}
use Rattle.std.proofs.lemmas.List.Elements.{All-nil, All-cons, All-head, All-tail, All-contains, All-contains_itself, All-weaker}
use Rattle.ep_binding.specs.Bindings.{contains}
use Rattle.ep_binding.specs.Laminar.{LiesIn, AreDisjoint, AreNested, IsLaminar, lies_in, is_disjoint, is_nested, is_laminar}
use Rattle.ep_binding.proofs.ApartLemmas.{pairs-nil, pairs-cons, pairs-head, pairs-tail}

or-true : (b : Bool) → (b || true) ≡ true
or-true true = refl
or-true false = refl

pub contains-from : (os : List ℕ) (o : ℕ) → Contains os o → contains os o ≡ true
contains-from [] o (k, h, e) = absurd (omega arith)
contains-from (p ∷ os) o (zero, h, e) = ap (λ b. b || contains os o) (eq-eqb p o e)
contains-from (p ∷ os) o (suc k, h, e) = ap (λ b. (p == o) || b) (contains-from os o (k, omega arith, e)) ∙ or-true (p == o)

pub contains-tells : (os : List ℕ) (o : ℕ) → contains os o ≡ true → Contains os o
contains-tells [] o h = cc
contains-tells (p ∷ os) o h = by (p == o) refl h (contains-tells os o)
  where
    by : (b : Bool) → (p == o) ≡ b → (b || contains os o) ≡ true → (contains os o ≡ true → Contains os o) → Contains (p ∷ os) o
    by true e k rest = (0, omega arith, (Decides-eqb p o).0 e)
    by false e k rest = let later = rest k in (suc later.0, omega (arith, later.1), later.2)

pub lacks-from : (os : List ℕ) (o : ℕ) → (Contains os o → ⊥) → contains os o ≡ false
lacks-from os o h = by (contains os o) refl
  where
    by : (b : Bool) → contains os o ≡ b → b ≡ false
    by true e = absurd (h (contains-tells os o e))
    by false e = refl

-- ---- all pass a test

all-tells : {X : Type 0} (p : X → Bool) (xs : List X) → list_all p xs ≡ true → All (λ x. p x ≡ true) xs
all-tells p [] h = All-nil (λ x. p x ≡ true)
all-tells p (x ∷ xs) h = let r = and_parts (p x) (list_all p xs) h in All-cons (λ x. p x ≡ true) x xs r.0 (all-tells p xs r.1)

all-from : {X : Type 0} (p : X → Bool) (xs : List X) → All (λ x. p x ≡ true) xs → list_all p xs ≡ true
all-from p [] h = refl
all-from p (x ∷ xs) h = and_from (p x) (list_all p xs) (All-head (λ x. p x ≡ true) x xs h) (all-from p xs (All-tail (λ x. p x ≡ true) x xs h))

-- ---- two sets

lies-tells : (c d : List ℕ) → lies_in c d ≡ true → LiesIn c d
lies-tells c d h o m = contains-tells d o (All-contains (λ o. contains d o ≡ true) c o (all-tells (contains d) c h) m)

lies-from : (c d : List ℕ) → LiesIn c d → lies_in c d ≡ true
lies-from c d h = all-from (contains d) c (All-weaker (Contains c) (λ o. contains d o ≡ true) (λ o m. contains-from d o (h o m)) c (All-contains_itself c))

true-or-not : (b : Bool) → b ≡ true → not b ≡ true → ⊥
true-or-not true h k = cc
true-or-not false h k = cc

disjoint-tells : (c d : List ℕ) → is_disjoint c d ≡ true → AreDisjoint c d
disjoint-tells c d h o m n =
    true-or-not (contains d o) (contains-from d o n) (All-contains (λ o. not (contains d o) ≡ true) c o (all-tells (λ o. not (contains d o)) c h) m)

disjoint-from : (c d : List ℕ) → AreDisjoint c d → is_disjoint c d ≡ true
disjoint-from c d h =
    all-from (λ o. not (contains d o)) c
    (All-weaker (Contains c) (λ o. not (contains d o) ≡ true) (λ o m. ap not (lacks-from d o (λ n. h o m n))) c (All-contains_itself c))

nested-tells : (c d : List ℕ) → is_nested c d ≡ true → AreNested c d
nested-tells c d h = elim (or_cases (is_disjoint c d) (lies_in c d || lies_in d c) h) [
  | inl e ↦ inl (disjoint-tells c d e)
  | inr k ↦ elim (or_cases (lies_in c d) (lies_in d c) k) [
    | inl e ↦ inr (inl (lies-tells c d e))
    | inr e ↦ inr (inr (lies-tells d c e))
  ]
]

nested-from : (c d : List ℕ) → AreNested c d → is_nested c d ≡ true
nested-from c d (inl h) = ap (λ b. b || (lies_in c d || lies_in d c)) (disjoint-from c d h)
nested-from c d (inr (inl h)) = ap (λ b. is_disjoint c d || (b || lies_in d c)) (lies-from c d h) ∙ or-true (is_disjoint c d)
nested-from c d (inr (inr h)) = ap (λ b. is_disjoint c d || (lies_in c d || b)) (lies-from d c h) ∙ ap (λ b. is_disjoint c d || b) (or-true (lies_in c d)) ∙ or-true (is_disjoint c d)

-- ---- families

laminar-tells : (cs : List (List ℕ)) → is_laminar cs ≡ true → IsLaminar cs
laminar-tells [] h = pairs-nil AreNested
laminar-tells (c ∷ cs) h =
    let r = and_parts (list_all (is_nested c) cs) (is_laminar cs) h in
    pairs-cons AreNested c cs (All-weaker (λ d. is_nested c d ≡ true) (AreNested c) (λ d k. nested-tells c d k) cs (all-tells (is_nested c) cs r.0)) (laminar-tells cs r.1)

laminar-from : (cs : List (List ℕ)) → IsLaminar cs → is_laminar cs ≡ true
laminar-from [] h = refl
laminar-from (c ∷ cs) h =
    and_from (list_all (is_nested c) cs) (is_laminar cs)
    (all-from (is_nested c) cs (All-weaker (AreNested c) (λ d. is_nested c d ≡ true) (λ d k. nested-from c d k) cs (pairs-head AreNested c cs h)))
    (laminar-from cs (pairs-tail AreNested c cs h))

pub laminar-decides : (cs : List (List ℕ)) → IsTrue (is_laminar cs) ↔ IsLaminar cs
laminar-decides cs = (laminar-tells cs, laminar-from cs)
