-- Which objects the bindings of parameters have, and which numbers pass a test.
use Rattle.std.proofs.Common.{◌≡◌, ℕ, zero, suc, ◌<◌, Bool, true, false, cond, ◌||◌, ◌&&◌, nat_eq, List, [], ◌∷◌, map, refl, ap, sym, ◌∙◌, arith}
use Rattle.std.specs.Prelude.{◌==◌}
use Rattle.std.specs.Cmp.Lexicographic.{pointwise}
use Rattle.std.specs.List.{list_any, list_all, flat_map}
use Rattle.std.proofs.lemmas.List.Folds.{list_any-append, list_all-append}
use Rattle.ep_logic.specs.Numbers.{numbers_where, has_number}
use Rattle.ep_binding.specs.Bindings.{bindings, with_first}
use Rattle.ep_universe.proofs.LookupLemmas.{by_bool}

-- as many objects as parameters, each one of those of its parameter
abbrev pub HasEach : List (List ℕ) → List ℕ → Type 0
HasEach [] [] = Unit {0}
HasEach [] (o ∷ os) = ⊥
HasEach (c ∷ cs) [] = ⊥
HasEach (c ∷ cs) (o ∷ os) = (has_number c o ≡ true) × HasEach cs os

pub or_left : (a b : Bool) → a ≡ true → (a || b) ≡ true
or_left a b h = ap (λ x. x || b) h

pub or_right : (a b : Bool) → b ≡ true → (a || b) ≡ true
or_right true b h = refl
or_right false b h = h

equal : (i j : ℕ) → (i == j) ≡ true → i ≡ j
equal i j h = grind arith

pub itself : (i : ℕ) → (i == i) ≡ true
itself i = grind arith

other : (a b : Bool) → (a || b) ≡ true → a ≡ false → b ≡ true
other true b h k = absurd (cc)
other false b h k = h

pub any_map : {X Y : Type 0} (p : Y → Bool) (g : X → Y) (xs : List X) → list_any p (map g xs) ≡ list_any (λ x. p (g x)) xs
any_map p g [] = refl
any_map p g (x ∷ xs) = ap (λ b. p (g x) || b) (any_map p g xs)

pub all_map : {X Y : Type 0} (p : Y → Bool) (g : X → Y) (xs : List X) → list_all p (map g xs) ≡ list_all (λ x. p (g x)) xs
all_map p g [] = refl
all_map p g (x ∷ xs) = ap (λ b. p (g x) && b) (all_map p g xs)

any_flat : {X : Type 0} (p : X → Bool) (f : ℕ → List X) (c : List ℕ) (o : ℕ) → has_number c o ≡ true → list_any p (f o) ≡ true → list_any p (flat_map f c) ≡ true
any_flat p f [] o h k = cc
any_flat p f (x ∷ xs) o h k =
    list_any-append p (f x) (flat_map f xs)
    ∙ by_bool (x == o)
    (λ e. or_left (list_any p (f x)) (list_any p (flat_map f xs)) (ap (λ y. list_any p (f y)) (equal x o e) ∙ k))
    (λ e. or_right (list_any p (f x)) (list_any p (flat_map f xs)) (any_flat p f xs o (other (x == o) (has_number xs o) h e) k))

-- each list of objects of the parameters is a binding
pub any_bindings : (cs : List (List ℕ)) (os : List ℕ) → HasEach cs os → list_any (pointwise nat_eq os) (bindings cs) ≡ true
any_bindings [] [] h = refl
any_bindings [] (o ∷ os) h = absurd h
any_bindings (c ∷ cs) [] h = absurd h
any_bindings (c ∷ cs) (o ∷ os) h =
    any_flat (pointwise nat_eq (o ∷ os)) (with_first (bindings cs)) c o h.0
    (any_map (pointwise nat_eq (o ∷ os)) (λ b. o ∷ b) (bindings cs)
    ∙ (λ i. list_any (λ b. itself o i && pointwise nat_eq os b) (bindings cs)) ∙ any_bindings cs os h.1)

all_flat : {X : Type 0} (p : X → Bool) (f : ℕ → List X) (c : List ℕ) → ((o : ℕ) → has_number c o ≡ true → list_all p (f o) ≡ true) → list_all p (flat_map f c) ≡ true
all_flat p f [] h = refl
all_flat p f (x ∷ xs) h =
    list_all-append p (f x) (flat_map f xs)
    ∙ ap (λ b. b && list_all p (flat_map f xs)) (h x (or_left (x == x) (has_number xs x) (itself x)))
    ∙ all_flat p f xs (λ o k. h o (or_right (x == o) (has_number xs o) k))

and_true : (b : Bool) → (b && true) ≡ b
and_true true = refl
and_true false = refl

-- what holds of each list of objects of the parameters holds of each binding
pub all_bindings : (cs : List (List ℕ)) (q : List ℕ → Bool) → ((os : List ℕ) → HasEach cs os → q os ≡ true) → list_all q (bindings cs) ≡ true
all_bindings [] q h = and_true (q []) ∙ h [] tt
all_bindings (c ∷ cs) q h =
    all_flat q (with_first (bindings cs)) c
    (λ o k. all_map q (λ b. o ∷ b) (bindings cs) ∙ all_bindings cs (λ b. q (o ∷ b)) (λ os e. h (o ∷ os) (k, e)))

-- ---- numbers that pass a test

one : (p : ℕ → Bool) (n o : ℕ) → has_number (cond (p n) (n ∷ []) []) o ≡ (p n && (n == o))
one p n o = by_bool (p n)
    (λ e. ap (λ b. has_number (cond b (n ∷ []) []) o) e ∙ or_false (n == o) ∙ sym (ap (λ b. b && (n == o)) e))
    (λ e. ap (λ b. has_number (cond b (n ∷ []) []) o) e ∙ sym (ap (λ b. b && (n == o)) e))
  where
    or_false : (b : Bool) → (b || false) ≡ b
    or_false true = refl
    or_false false = refl

more : (p : ℕ → Bool) (n o : ℕ) → has_number (numbers_where p (suc n)) o ≡ (has_number (numbers_where p n) o || (p n && (n == o)))
more p n o = list_any-append (λ y. y == o) (numbers_where p n) (cond (p n) (n ∷ []) []) ∙ ap (λ b. has_number (numbers_where p n) o || b) (one p n o)

pub in_numbers : (p : ℕ → Bool) (n o : ℕ) → o < n → p o ≡ true → has_number (numbers_where p n) o ≡ true
in_numbers p zero o l h = absurd (omega arith)
in_numbers p (suc n) o l h =
    more p n o
    ∙ by_bool (n == o)
    (λ e. or_right (has_number (numbers_where p n) o) (p n && (n == o)) ((λ i. (ap p (equal n o e) ∙ h) i && e i)))
    (λ e. or_left (has_number (numbers_where p n) o) (p n && (n == o)) (in_numbers p n o (below n o l e) h))
  where
    below : (n o : ℕ) → o < suc n → (n == o) ≡ false → o < n
    below n o l e = grind arith

pub record Passes (p : ℕ → Bool) (n o : ℕ) : Type 0 where
  pub within : o < n
  pub passes : p o ≡ true

both_left : (a b : Bool) → (a && b) ≡ true → a ≡ true
both_left true b h = refl
both_left false b h = h

both_right : (a b : Bool) → (a && b) ≡ true → b ≡ true
both_right true b h = h
both_right false b h = absurd (cc)

pub from_numbers : (p : ℕ → Bool) (n o : ℕ) → has_number (numbers_where p n) o ≡ true → Passes p n o
from_numbers p zero o h = absurd (cc)
from_numbers p (suc n) o h =
    by_bool (has_number (numbers_where p n) o)
    (λ e. let before = from_numbers p n o e in let w = before.within in record { within = omega (arith, w); passes = before.passes })
    (λ e.
    let here : (p n && (n == o)) ≡ true = other (has_number (numbers_where p n) o) (p n && (n == o)) (sym (more p n o) ∙ h) e in
    let is : n ≡ o = equal n o (both_right (p n) (n == o) here) in
    record { within = omega (arith, is); passes = ap p (sym is) ∙ both_left (p n) (n == o) here })
