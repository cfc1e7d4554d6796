-- A mapped list from its first items.
use Rattle.std.proofs.Common.{◌≡◌, ◌<◌, ◌≤◌, ◌-◌, List, [], ◌∷◌, map, length, take, drop, get_or, arith}
use Rattle.std.proofs.lemmas.List.{take_all}

module _ {A B : Type 0} (f : A → B) where
  pub map-none : (xs : List A) → length xs < 1 → map f xs ≡ []
  map-none [] small = λ _. []
  map-none (x ∷ xs) small = absurd (omega (arith, small))

  pub map-one : (xs : List A) (a : A) → 1 ≤ length xs → a ≡ get_or xs 0 a → map f xs ≡ f a ∷ map f (take (length xs - 1) (drop 1 xs))
  map-one [] a least p = absurd (omega (arith, least))
  map-one (x ∷ rest) a least p =
      let r : take (length (x ∷ rest) - 1) rest ≡ rest = take_all (length (x ∷ rest) - 1) rest (omega arith) in
      cc (p, r)

  pub map-two : (xs : List A) (a b : A) → 2 ≤ length xs → a ≡ get_or xs 0 a → b ≡ get_or xs 1 b
      → map f xs ≡ f a ∷ f b ∷ map f (take (length xs - 2) (drop 2 xs))
  map-two [] a b least p q = absurd (omega (arith, least))
  map-two (x ∷ []) a b least p q = absurd (omega (arith, least))
  map-two (x ∷ y ∷ rest) a b least p q =
      let r : take (length (x ∷ y ∷ rest) - 2) rest ≡ rest = take_all (length (x ∷ y ∷ rest) - 2) rest (omega arith) in
      cc (p, q, r)
