-- Lists do not grow where repeats are dropped.
use Rattle.std.proofs.Common.{ℕ, suc, ◌≤◌, List, [], ◌∷◌, length, arith, Ordering, Less, Equal, Greater}
use Rattle.std.specs.Ordering.{nat_cmp}
use Rattle.ep_theory.specs.Rising.{placed, rising, by_order}

placed_step : (o : Ordering) (x y : ℕ) (ys zs : List ℕ) → length zs ≤ suc (length ys) → length (by_order o (x ∷ y ∷ ys) (y ∷ ys) (y ∷ zs)) ≤ suc (suc (length ys))
placed_step Less x y ys zs h = omega arith
placed_step Equal x y ys zs h = omega arith
placed_step Greater x y ys zs h = omega arith

placed_long : (x : ℕ) (xs : List ℕ) → length (placed nat_cmp x xs) ≤ suc (length xs)
placed_long x [] = omega arith
placed_long x (y ∷ ys) = placed_step (nat_cmp x y) x y ys (placed nat_cmp x ys) (placed_long x ys)

pub rising_long : (xs : List ℕ) → length (rising nat_cmp xs) ≤ length xs
rising_long [] = omega arith
rising_long (x ∷ xs) = let a = placed_long x (rising nat_cmp xs) in let b = rising_long xs in omega arith
