-- Whether a number is designated.
use Rattle.std.proofs.Common.{◌≡◌, ◌↔◌, ℕ, Bool, true, false, IsTrue, List, refl}
use Rattle.ep_logic.specs.Numbers.{has_number}
use Rattle.ep_theory.specs.Rising.{IsIn}
use Rattle.ep_theory.proofs.CallerLemmas.{to_has_number, from_has_number}

decided : (b t : Bool) → (IsTrue b → IsTrue t) → (IsTrue t → IsTrue b) → t ≡ b
decided true t f g = f refl
decided false true f g = absurd (let e = g refl in cc)
decided false false f g = refl

-- a test that decides membership
pub same_test : (b : Bool) (xs : List ℕ) (x : ℕ) → (IsTrue b ↔ IsIn x xs) → has_number xs x ≡ b
same_test b xs x h = decided b (has_number xs x) (λ t. to_has_number xs x (h.0 t)) (λ t. h.1 (from_has_number xs x t))
