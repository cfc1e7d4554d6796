-- Rows in words, bit by bit.
use Rattle.std.proofs.Common.{◌≡◌, ℕ, inl, inr, zero, suc, ◌+◌, ◌-◌, ◌*◌, ◌/◌, ◌%◌, ◌^◌, ◌<◌, ◌≤◌, min, Bool, true, false, ◌==◌, ◌&&◌, List, length, get_or, bit_and, refl, ap, ◌∙◌, sym, subst, IsTrue, arith, append-nil, add-zero, add-suc}
use Rattle.std.specs.Int.{bit_at}
use Rattle.std.proofs.lemmas.List.{get_or_past}
use Rattle.std.proofs.lemmas.List.FromFn.{get_or-map-range_with_len, length-map-range_with_len}
use Rattle.std.proofs.lemmas.Nat.Bits.{bit_at_and, bit_at-lt, same_from_bits, bit_at_above}
use Rattle.std.proofs.lemmas.Bool.Decides.{eqb_tells}
use native.Mathlib.Decide.{dec_lt}
use Prim.{yes, no}
use Rattle.ep_logic.specs.Numbers.{numbers_where}
use Rattle.ep_logic.specs.Packed.{bit_in, unpacked}

pub length-unpacked : (words : List ℕ) (n : ℕ) → length (unpacked words n) ≡ n
unfolding unpacked
length-unpacked words n = length-map-range_with_len (bit_in words) 0 n

pub unpacked-get : (words : List ℕ) (n i : ℕ) (d : Bool) → i < n → get_or (unpacked words n) i d ≡ bit_in words i
unfolding unpacked
unpacked-get words n i d h = get_or-map-range_with_len (bit_in words) 0 n i i d h (omega arith)

-- past the last number that passes
skip : (p : ℕ → Bool) (a k : ℕ) → ((i : ℕ) → a ≤ i → i < a + k → p i ≡ false) → numbers_where p (a + k) ≡ numbers_where p a
skip p a zero h = rw add-zero refl
skip p a (suc k) h =
    let last : p (a + k) ≡ false = h (a + k) (omega arith) (omega arith) in
    rw (add-suc, last, append-nil) (skip p a k (λ i l m. h i l (omega arith)))

pub numbers_where-skip : (p : ℕ → Bool) (a b : ℕ) → a ≤ b → ((i : ℕ) → a ≤ i → i < b → p i ≡ false) → numbers_where p b ≡ numbers_where p a
numbers_where-skip p a b le h =
    let e : a + (b - a) ≡ b = omega arith in
    subst (λ x. numbers_where p x ≡ numbers_where p a) e (skip p a (b - a) (λ i l m. h i l (omega arith)))

-- a word is within another where their common bits are its own
and_right : (a b : Bool) → IsTrue (a && b) → IsTrue b
and_right true b h = h
and_right false b h = absurd (cc h)

eqb_is : (n m : ℕ) → IsTrue (n == m) → n ≡ m
eqb_is n m h = elim (eqb_tells n m) [ inl e ↦ e.1 | inr e ↦ absurd (cc (h, e.0)) ]

both_bits : (x y : ℕ) → x < 2 → y < 2 → (min x y == 1) ≡ ((x == 1) && (y == 1))
both_bits zero y h l = let e : min 0 y ≡ 0 = omega arith in ap (λ b. b == 1) e
both_bits (suc zero) zero h l = refl
both_bits (suc zero) (suc zero) h l = refl
both_bits (suc zero) (suc (suc y)) h l = absurd (omega arith)
both_bits (suc (suc x)) y h l = absurd (omega arith)

and_bit : (x y j : ℕ) → (bit_at (bit_and x y) j == 1) ≡ ((bit_at x j == 1) && (bit_at y j == 1))
and_bit x y j = ap (λ b. b == 1) (bit_at_and x y j) ∙ both_bits (bit_at x j) (bit_at y j) (bit_at-lt x j) (bit_at-lt y j)

within_bit : (x y j : ℕ) → bit_and x y ≡ x → IsTrue (bit_at x j == 1) → IsTrue (bit_at y j == 1)
within_bit x y j e t = and_right (bit_at x j == 1) (bit_at y j == 1) (sym (and_bit x y j) ∙ ap (λ n. bit_at n j == 1) e ∙ t)

-- all bits of the words, where each word is within the other's
pub words_within : (a b : List ℕ) → ((k : ℕ) → bit_and (get_or a k 0) (get_or b k 0) ≡ get_or a k 0) → (k : ℕ) → IsTrue (bit_in a k) → IsTrue (bit_in b k)
words_within a b h k t = within_bit (get_or a (k / 64) 0) (get_or b (k / 64) 0) (k % 64) (h (k / 64)) t

same_bits : (x y : ℕ) → x < 2 → y < 2 → (IsTrue (x == 1) → IsTrue (y == 1)) → min x y ≡ x
same_bits zero y h l f = omega arith
same_bits (suc zero) y h l f = let e = eqb_is y 1 (f refl) in omega arith
same_bits (suc (suc x)) y h l f = absurd (omega arith)

word_of_bits : (x y : ℕ) → ((j : ℕ) → IsTrue (bit_at x j == 1) → IsTrue (bit_at y j == 1)) → bit_and x y ≡ x
word_of_bits x y h = same_from_bits (bit_and x y) x (λ j. bit_at_and x y j ∙ same_bits (bit_at x j) (bit_at y j) (bit_at-lt x j) (bit_at-lt y j) (h j))

-- a word that is not within the other's has a bit of its own
pub word_within : (a b : List ℕ) → ((k : ℕ) → IsTrue (bit_in a k) → IsTrue (bit_in b k)) → (i : ℕ) → get_or a i 0 < 2 ^ 64 → bit_and (get_or a i 0) (get_or b i 0) ≡ get_or a i 0
word_within a b h i small = word_of_bits (get_or a i 0) (get_or b i 0) (λ j t. elim (dec_lt j 64) [
  | yes l ↦
      let at : (i * 64 + j) / 64 ≡ i = omega arith in
      let place : (i * 64 + j) % 64 ≡ j = omega arith in
      subst (λ p. IsTrue (bit_at (get_or b i 0) p == 1)) place (subst (λ q. IsTrue (bit_at (get_or b q 0) ((i * 64 + j) % 64) == 1)) at
      (h (i * 64 + j) (subst (λ q. IsTrue (bit_at (get_or a q 0) ((i * 64 + j) % 64) == 1)) (sym at) (subst (λ p. IsTrue (bit_at (get_or a i 0) p == 1)) (sym place) t))))
  | no n ↦ absurd (cc (t, ap (λ b. b == 1) (bit_at_above (get_or a i 0) 64 j small (omega arith))))
])

pub all_words : (a b : List ℕ) → ((k : ℕ) → k < length a → bit_and (get_or a k 0) (get_or b k 0) ≡ get_or a k 0) → (k : ℕ) → bit_and (get_or a k 0) (get_or b k 0) ≡ get_or a k 0
all_words a b h k = elim (dec_lt k (length a)) [
  | yes l ↦ h k l
  | no n ↦ ap (λ x. bit_and x (get_or b k 0)) (get_or_past a k 0 (omega arith)) ∙ sym (get_or_past a k 0 (omega arith))
]
