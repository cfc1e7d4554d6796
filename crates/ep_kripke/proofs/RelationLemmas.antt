-- Rows of bits as lists of numbers.
use Rattle.std.proofs.Common.{◌≡◌, ℕ, ◌*◌, ◌≤◌, Bool, true, false, ◌↔◌, inl, inr, List, [], ◌∷◌, length, IsTrue, refl, sym, ◌∙◌, ap, arith, ⊎_elim}
use Rattle.std.specs.List.{list_all}
use Rattle.std.proofs.lemmas.List.{get_or_past}
use Rattle.ep_logic.specs.Packed.{bit_in, unpacked, IsPacked}
use Rattle.ep_logic.specs.Numbers.{numbers_where}
use Rattle.ep_logic.specs.Rows.{value_at}
use Rattle.ep_logic.proofs.CallerLemmas.{numbers_where-same}
use Rattle.ep_theory.specs.Rising.{IsIn}
use Rattle.ep_theory.proofs.CallerLemmas.{in_numbers, from_numbers, and_parts, and_whole}
use Rattle.ep_kripke.specs.Relations.{members}
use Rattle.ep_kripke.proofs.WordLemmas.{length-unpacked, unpacked-get, numbers_where-skip}
use native.Mathlib.Decide.{dec_lt}
use Prim.{yes, no}

-- the true places of all words are those of the row
pub places_are : (ws : List ℕ) (n : ℕ) → IsPacked ws n → numbers_where (bit_in ws) (length ws * 64) ≡ members (unpacked ws n)
unfolding members
places_are ws n p =
    numbers_where-skip (bit_in ws) n (length ws * 64) (omega (arith, p.long)) (λ i m l. p.tail i m)
    ∙ numbers_where-same (bit_in ws) (value_at (unpacked ws n)) n (λ i l. sym (unpacked-get ws n i false l))
    ∙ ap (numbers_where (value_at (unpacked ws n))) (sym (length-unpacked ws n))

pub few_places : (ws : List ℕ) (n : ℕ) → IsPacked ws n → length ws * 64 ≤ 4294967296
few_places ws n p = omega (arith, p.long, p.short)

pub member_is : (ws : List ℕ) (n v : ℕ) → IsPacked ws n → IsTrue (bit_in ws v) ↔ IsIn v (members (unpacked ws n))
unfolding members
member_is ws n v p = (
  λ t. elim (dec_lt v n) [
    | yes l ↦ in_numbers (value_at (unpacked ws n)) (length (unpacked ws n)) v (omega (arith, l, length-unpacked ws n)) (unpacked-get ws n v false l ∙ t)
    | no m ↦ absurd (cc (t, p.tail v (omega arith)))
  ],
  λ i. let r = from_numbers (value_at (unpacked ws n)) (length (unpacked ws n)) v i in
      sym (unpacked-get ws n v false (omega (arith, r.0, length-unpacked ws n))) ∙ r.1,
)

pub value_is : (ws : List ℕ) (n v : ℕ) → IsPacked ws n → value_at (unpacked ws n) v ≡ bit_in ws v
value_is ws n v p = elim (dec_lt v n) [
  | yes l ↦ unpacked-get ws n v false l
  | no m ↦ get_or_past (unpacked ws n) v false (omega (arith, m, length-unpacked ws n)) ∙ sym (p.tail v (omega arith))
]

all_from : (p : ℕ → Bool) (xs : List ℕ) → IsTrue (list_all p xs) → (x : ℕ) → IsIn x xs → IsTrue (p x)
all_from p [] t x i = absurd i
all_from p (y ∷ ys) t x i = ⊎_elim
    (λ (e : x ≡ y). ap p e ∙ (and_parts (p y) (list_all p ys) t).0)
    (λ (j : IsIn x ys). all_from p ys (and_parts (p y) (list_all p ys) t).1 x j)
    i

all_to : (p : ℕ → Bool) (xs : List ℕ) → ((x : ℕ) → IsIn x xs → IsTrue (p x)) → IsTrue (list_all p xs)
all_to p [] h = refl
all_to p (y ∷ ys) h = and_whole (p y) (list_all p ys) (h y (inl refl)) (all_to p ys (λ x i. h x (inr i)))

pub same_truth : (a b : Bool) → (IsTrue a → IsTrue b) → (IsTrue b → IsTrue a) → a ≡ b
same_truth true b f g = sym (f refl)
same_truth false true f g = g refl
same_truth false false f g = refl

-- whether a row lies within a set, from its words
pub within_is : (r : Bool) (ws : List ℕ) (n : ℕ) (us : List ℕ) (m : ℕ) → IsPacked ws n → IsPacked us m → (IsTrue r ↔ ((k : ℕ) → IsTrue (bit_in ws k) → IsTrue (bit_in us k))) →
    r ≡ list_all (value_at (unpacked us m)) (members (unpacked ws n))
within_is r ws n us m p q h = same_truth r (list_all (value_at (unpacked us m)) (members (unpacked ws n)))
    (λ t. all_to (value_at (unpacked us m)) (members (unpacked ws n)) (λ v i. value_is us m v q ∙ h.0 t v ((member_is ws n v p).1 i)))
    (λ t. h.1 (λ k s. sym (value_is us m k q) ∙ all_from (value_at (unpacked us m)) (members (unpacked ws n)) t k ((member_is ws n k p).0 s)))
