-- The numbers of a list, one more at a time.
use Rattle.std.proofs.Common.{◌≡◌, ℕ, Bool, true, false, cond, not, ◌||◌, ◌==◌, ◌+◌, ◌<◌, List, [], ◌∷◌, ◌++◌, filter, length, get_or, take, refl, ap, sym, ◌∙◌, subst, inl, inr, append-nil}
use Rattle.std.proofs.lemmas.Bool.{ne_eqb, cases_eq}
use Rattle.std.proofs.lemmas.List.{take_more}
use Rattle.ep_logic.specs.Numbers.{has_number}
use Rattle.ep_theory.proofs.CallerLemmas.{test_itself}
use Rattle.ep_initial.specs.Valuations.{distinct}
use Rattle.ep_initial.proofs.ListLemmas.{filter-push}

-- with a number behind that is not there yet
abbrev pub with_new : List ℕ → ℕ → List ℕ
with_new xs x = cond (has_number xs x) xs (xs ++ x ∷ [])

-- what is taken out is another number
other_stays : (x y : ℕ) (xs : List ℕ) → (x == y) ≡ false → has_number (filter (λ z. not (z == x)) xs) y ≡ has_number xs y
other_stays x y [] d = refl
other_stays x y (z ∷ zs) d = elim (cases_eq z x) [
  | inl e ↦ rw (e, test_itself x, d) (other_stays x y zs d)
  | inr n ↦ rw (ne_eqb z x n) (ap (λ b. (z == y) || b) (other_stays x y zs d))
]

module _ (x y : ℕ) (ds : List ℕ) where
  abbrev kept : List ℕ
  kept = filter (λ z. not (z == x)) ds

  here : (b : Bool) → x ∷ filter (λ z. not (z == x)) (cond b ds (ds ++ x ∷ [])) ≡ x ∷ kept
  here true = refl
  here false = ap (λ zs. x ∷ zs) (filter-push (λ z. not (z == x)) ds x ∙ ap (λ b. kept ++ cond (not b) (x ∷ []) []) (test_itself x) ∙ append-nil kept)

  here_new : with_new (x ∷ kept) x ≡ x ∷ kept
  here_new = ap (λ b. cond (b || has_number kept x) (x ∷ kept) ((x ∷ kept) ++ x ∷ [])) (test_itself x)

  other : (y == x) ≡ false → (b : Bool) → x ∷ filter (λ z. not (z == x)) (cond b ds (ds ++ y ∷ [])) ≡ cond b (x ∷ kept) ((x ∷ kept) ++ y ∷ [])
  other e true = refl
  other e false = ap (λ zs. x ∷ zs) (filter-push (λ z. not (z == x)) ds y ∙ ap (λ b. kept ++ cond (not b) (y ∷ []) []) e)

  other_new : (x == y) ≡ false → with_new (x ∷ kept) y ≡ cond (has_number ds y) (x ∷ kept) ((x ∷ kept) ++ y ∷ [])
  other_new d = ap (λ b. cond (b || has_number kept y) (x ∷ kept) ((x ∷ kept) ++ y ∷ [])) d ∙ ap (λ b. cond b (x ∷ kept) ((x ∷ kept) ++ y ∷ [])) (other_stays x y ds d)

  step : x ∷ filter (λ z. not (z == x)) (with_new ds y) ≡ with_new (x ∷ kept) y
  step = elim (cases_eq y x) [
    | inl e ↦ subst (λ w. x ∷ filter (λ z. not (z == x)) (with_new ds w) ≡ with_new (x ∷ kept) w) (sym e) (here (has_number ds x) ∙ sym here_new)
    | inr n ↦ other (ne_eqb y x n) (has_number ds y) ∙ sym (other_new (ne_eqb x y (λ e. n (sym e))))
  ]

-- one number more
pub distinct-push : (xs : List ℕ) (y : ℕ) → distinct (xs ++ y ∷ []) ≡ with_new (distinct xs) y
distinct-push [] y = refl
distinct-push (x ∷ xs) y = ap (λ ds. x ∷ filter (λ z. not (z == x)) ds) (distinct-push xs y) ∙ step x y (distinct xs)

pub distinct-more : (xs : List ℕ) (i d : ℕ) → i < length xs → distinct (take (i + 1) xs) ≡ with_new (distinct (take i xs)) (get_or xs i d)
distinct-more xs i d l = ap distinct (take_more xs i d l) ∙ distinct-push (take i xs) (get_or xs i d)

pub ruleset distinct_steps = (distinct-more)
