-- Counts that do not fall.
use Rattle.std.proofs.Common.{ℕ, ◌+◌, ◌-◌, ◌^◌, ◌≤◌, min, inl, inr, sym, subst, arith}
use Rattle.ep_base.specs.Counts.{Rose}
use Rattle.ep_search.specs.Kept.{Kept}

rose : (m a b c : ℕ) → min (a + 1) m ≤ b → min (b + 1) m ≤ c → min (a + 1) m ≤ c
rose m a b c h k = omega arith

pub Rose-trans : (a b c : ℕ) → Rose a b → Rose b c → Rose a c
Rose-trans a b c h k = rose (2 ^ 64 - 1) a b c h k

pub Kept-trans : (a b c : ℕ) → Kept a b → Kept b c → Kept a c
Kept-trans a b c (inl h) k = subst (λ n. Kept n c) (sym h) k
Kept-trans a b c (inr h) (inl k) = inr (subst (Rose a) k h.0, omega arith)
Kept-trans a b c (inr h) (inr k) = inr (Rose-trans a b c h.0 k.0, omega arith)

pub Rose-Kept : (a b c : ℕ) → Rose a b → Kept b c → Rose a c
Rose-Kept a b c h (inl k) = subst (Rose a) k h
Rose-Kept a b c h (inr k) = Rose-trans a b c h k.0

-- a count that did not fall, and then did not
pub grows-Kept : (a b c : ℕ) → a ≤ b → Kept b c → a ≤ c
grows-Kept a b c h (inl k) = omega arith
grows-Kept a b c h (inr k) = omega arith
