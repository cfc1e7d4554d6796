-- Objects, one more at a time.
use Rattle.std.proofs.Common.{◌≡◌, ℕ, zero, suc, ◌+◌, ◌<◌, ◌≤◌, Bool, cond, List, [], ◌∷◌, ◌++◌, length, take, get_or, refl, ap, ◌∙◌, arith}
use Rattle.ep_logic.specs.Numbers.{numbers_where}
use Rattle.ep_tree.specs.declared.tree.ParamTree.{ParamTree}
use Rattle.ep_universe.specs.Objects.{bound}

-- one number more, where the test is known
pub numbers-more : (p : ℕ → Bool) (n : ℕ) → numbers_where p (n + 1) ≡ numbers_where p n ++ cond (p n) (n ∷ []) []
numbers-more p n = let e : n + 1 ≡ suc n = omega arith in ap (numbers_where p) e

-- one parameter more
bound_in : (ps : List ParamTree) (os : List ℕ) (i e : ℕ) (d : ParamTree) → i < length ps → i < length os →
    bound (take (suc i) ps) os ≡ bound (take i ps) os ++ ((get_or ps i d).name.text, get_or os i e) ∷ []
bound_in [] os i e d h k = absurd (omega arith)
bound_in (p ∷ ps) [] i e d h k = absurd (omega arith)
bound_in (p ∷ ps) (x ∷ os) zero e d h k = refl
bound_in (p ∷ ps) (x ∷ os) (suc i) e d h k = ap (λ z. (p.name.text, x) ∷ z) (bound_in ps os i e d (omega arith) (omega arith))

bound_out : (ps : List ParamTree) (os : List ℕ) (i : ℕ) → length os ≤ i → bound (take (suc i) ps) os ≡ bound (take i ps) os
bound_out [] os zero k = refl
bound_out [] os (suc i) k = refl
bound_out (p ∷ ps) [] zero k = refl
bound_out (p ∷ ps) [] (suc i) k = refl
bound_out (p ∷ ps) (x ∷ os) zero k = absurd (omega arith)
bound_out (p ∷ ps) (x ∷ os) (suc i) k = ap (λ z. (p.name.text, x) ∷ z) (bound_out ps os i (omega arith))

pub bound-in : (ps : List ParamTree) (os : List ℕ) (i e : ℕ) (d : ParamTree) → i < length ps → i < length os →
    bound (take (i + 1) ps) os ≡ bound (take i ps) os ++ ((get_or ps i d).name.text, get_or os i e) ∷ []
bound-in ps os i e d h k = let one : i + 1 ≡ suc i = omega arith in ap (λ n. bound (take n ps) os) one ∙ bound_in ps os i e d h k

pub bound-out : (ps : List ParamTree) (os : List ℕ) (i : ℕ) → length os ≤ i → bound (take (i + 1) ps) os ≡ bound (take i ps) os
bound-out ps os i k = let one : i + 1 ≡ suc i = omega arith in ap (λ n. bound (take n ps) os) one ∙ bound_out ps os i k
