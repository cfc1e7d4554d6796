-- Words of 64 truth values, bit by bit.
use Rattle.std.proofs.Common.{◌≡◌, ◌≢◌, ℕ, zero, suc, ◌+◌, ◌-◌, ◌*◌, ◌/◌, ◌%◌, ◌^◌, ◌<◌, ◌≤◌, max, Bool, true, false, not, ◌==◌, ◌||◌, ◌&&◌, List, [], ◌∷◌, map, replicate, length, get_or, set, bit_and, bit_or, refl, ap, ap₂, ◌∙◌, sym, IsTrue, arith, w64, inl, inr}
use Rattle.std.specs.Int.{bit_at, trailing_zeros}
use Rattle.std.proofs.lemmas.Bool.{cases_eq}
use Rattle.std.proofs.lemmas.List.{get_or_past, get_or-map, length-map, get_or-set_same, get_or-set_other}
use Rattle.std.proofs.lemmas.Nat.{pow_below}
use Rattle.std.proofs.lemmas.Nat.Bits.{bit_at_or, bit_at_not, bit_at-lt, bit_at-zero, bit_at-trailing_zeros, bit_at_ones, bit_at_ones_above}
use Rattle.ep_logic.specs.Packed.{bit_in, unpacked, IsPacked}
use Rattle.ep_logic.specs.Rows.{either}
use Rattle.ep_logic.proofs.PackedLemmas.{and_bit, length-unpacked, unpacked-get, unpacked-is}
use native.Mathlib.Decide.{dec_lt}
use Prim.{yes, no}

either_bits : (x y : ℕ) → x < 2 → y < 2 → (max x y == 1) ≡ ((x == 1) || (y == 1))
either_bits zero zero h l = refl
either_bits zero (suc zero) h l = refl
either_bits zero (suc (suc y)) h l = absurd (omega arith)
either_bits (suc zero) zero h l = refl
either_bits (suc zero) (suc zero) h l = refl
either_bits (suc zero) (suc (suc y)) h l = absurd (omega arith)
either_bits (suc (suc x)) y h l = absurd (omega arith)

pub or_bit : (x y j : ℕ) → (bit_at (bit_or x y) j == 1) ≡ ((bit_at x j == 1) || (bit_at y j == 1))
or_bit x y j = ap (λ b. b == 1) (bit_at_or x y j) ∙ either_bits (bit_at x j) (bit_at y j) (bit_at-lt x j) (bit_at-lt y j)

-- past the end of both rows of words
or_zeros : 0 ≡ bit_or 0 0
or_zeros = refl

pub or_all : (a b r : List ℕ) → length a ≡ length b → length r ≡ length a → ((k : ℕ) → k < length a → get_or r k 0 ≡ bit_or (get_or a k 0) (get_or b k 0)) →
    (k : ℕ) → bit_in r k ≡ (bit_in a k || bit_in b k)
or_all a b r e f h k = elim (dec_lt (k / 64) (length a)) [
  | yes l ↦ ap (λ n. bit_at n (k % 64) == 1) (h (k / 64) l) ∙ or_bit (get_or a (k / 64) 0) (get_or b (k / 64) 0) (k % 64)
  | no n ↦
      let ra : get_or r (k / 64) 0 ≡ 0 = get_or_past r (k / 64) 0 (omega arith) in
      let aa : get_or a (k / 64) 0 ≡ 0 = get_or_past a (k / 64) 0 (omega arith) in
      let ba : get_or b (k / 64) 0 ≡ 0 = get_or_past b (k / 64) 0 (omega arith) in
      ap (λ n. bit_at n (k % 64) == 1) (ra ∙ or_zeros) ∙ or_bit 0 0 (k % 64)
      ∙ ap₂ (λ x y. (bit_at x (k % 64) == 1) || (bit_at y (k % 64) == 1)) (sym aa) (sym ba)
]

not_bit : (x : ℕ) → x < 2 → (1 - x == 1) ≡ not (x == 1)
not_bit zero h = refl
not_bit (suc zero) h = refl
not_bit (suc (suc x)) h = absurd (omega arith)

pub flip_bit : (n j : ℕ) → n < 2 ^ 64 → j < 64 → (bit_at (18446744073709551615 - n) j == 1) ≡ not (bit_at n j == 1)
flip_bit n j l m = ap (λ b. b == 1) (bit_at_not w64 n j l m) ∙ not_bit (bit_at n j) (bit_at-lt n j)

-- a word that is not 0 has a bit
pub some_bit : (n : ℕ) → n ≢ 0 → n < 2 ^ 64 → (j : ℕ) × (j < 64) × (bit_at n j ≡ 1)
some_bit n h l = let t = bit_at-trailing_zeros w64 n (omega (arith, h)) l in (trailing_zeros w64 n, t.0, t.1)

and_left : (a b : Bool) → IsTrue (a && b) → IsTrue a
and_left true b h = refl
and_left false b h = absurd (cc h)

and_right : (a b : Bool) → IsTrue (a && b) → IsTrue b
and_right true b h = h
and_right false b h = absurd (cc h)

-- a place that is true in both rows
pub meeting : (a b : List ℕ) (i : ℕ) → bit_and (get_or a i 0) (get_or b i 0) ≢ 0 → bit_and (get_or a i 0) (get_or b i 0) < 2 ^ 64 → (k : ℕ) × IsTrue (bit_in a k) × IsTrue (bit_in b k)
meeting a b i h l =
    let s = some_bit (bit_and (get_or a i 0) (get_or b i 0)) h l in
    let j : ℕ = s.0 in
    let at : (i * 64 + j) / 64 ≡ i = omega (arith, s.1) in
    let place : (i * 64 + j) % 64 ≡ j = omega (arith, s.1) in
    let t : IsTrue ((bit_at (get_or a i 0) j == 1) && (bit_at (get_or b i 0) j == 1)) = sym (and_bit (get_or a i 0) (get_or b i 0) j) ∙ ap (λ x. x == 1) s.2 in
    let ea : bit_in a (i * 64 + j) ≡ (bit_at (get_or a i 0) j == 1) = ap₂ (λ q p. bit_at (get_or a q 0) p == 1) at place in
    let eb : bit_in b (i * 64 + j) ≡ (bit_at (get_or b i 0) j == 1) = ap₂ (λ q p. bit_at (get_or b q 0) p == 1) at place in
    (i * 64 + j, ea ∙ and_left (bit_at (get_or a i 0) j == 1) (bit_at (get_or b i 0) j == 1) t, eb ∙ and_right (bit_at (get_or a i 0) j == 1) (bit_at (get_or b i 0) j == 1) t)

zero_bit : (x y j : ℕ) → bit_and x y ≡ 0 → IsTrue (bit_at x j == 1) → IsTrue (bit_at y j == 1) → ⊥
zero_bit x y j e p q =
    let t : IsTrue (bit_at (bit_and x y) j == 1) = and_bit x y j ∙ ap₂ (λ a b. a && b) p q in
    let z : (bit_at (bit_and x y) j == 1) ≡ false = ap (λ n. bit_at n j == 1) e ∙ ap (λ n. n == 1) (bit_at-zero j) in
    cc (t, z)

pub no_meeting : (a b : List ℕ) → length a ≡ length b → ((k : ℕ) → k < length a → bit_and (get_or a k 0) (get_or b k 0) ≡ 0) → (k : ℕ) × IsTrue (bit_in a k) × IsTrue (bit_in b k) → ⊥
no_meeting a b e h x = elim (dec_lt (x.0 / 64) (length a)) [
  | yes l ↦ zero_bit (get_or a (x.0 / 64) 0) (get_or b (x.0 / 64) 0) (x.0 % 64) (h (x.0 / 64) l) x.1 x.2
  | no n ↦
      let aa : get_or a (x.0 / 64) 0 ≡ 0 = get_or_past a (x.0 / 64) 0 (omega arith) in
      cc (x.1, ap (λ n. bit_at n (x.0 % 64) == 1) aa ∙ ap (λ n. n == 1) (bit_at-zero (x.0 % 64)))
]

-- the lowest k bits of a word
low_bits : (k : ℕ) → k < 64 → 1 * 2 ^ k % 18446744073709551616 - 1 ≡ 2 ^ k - 1
low_bits k h = let small : 2 ^ k < 2 ^ 64 = pow_below k 64 h in omega (arith, small)

and_true : (b : Bool) → (b && true) ≡ b
and_true true = refl
and_true false = refl

and_false : (b : Bool) → (b && false) ≡ false
and_false true = refl
and_false false = refl

bit_kept : (n k j : ℕ) → k < 64 → j < k → (bit_at (bit_and n (1 * 2 ^ k % 18446744073709551616 - 1)) j == 1) ≡ (bit_at n j == 1)
bit_kept n k j h l =
    ap (λ m. bit_at (bit_and n m) j == 1) (low_bits k h) ∙ and_bit n (2 ^ k - 1) j
    ∙ ap (λ b. (bit_at n j == 1) && (b == 1)) (bit_at_ones k j l) ∙ and_true (bit_at n j == 1)

bit_cleared : (n k j : ℕ) → k < 64 → k ≤ j → (bit_at (bit_and n (1 * 2 ^ k % 18446744073709551616 - 1)) j == 1) ≡ false
bit_cleared n k j h l =
    ap (λ m. bit_at (bit_and n m) j == 1) (low_bits k h) ∙ and_bit n (2 ^ k - 1) j
    ∙ ap (λ b. (bit_at n j == 1) && (b == 1)) (bit_at_ones_above k j l) ∙ and_false (bit_at n j == 1)

-- the words with what stands past the first n values cleared in their last word
abbrev pub cut : List ℕ → ℕ → List ℕ
cut words n = set words (n / 64) (bit_and (get_or words (n / 64) 0) (1 * 2 ^ (n % 64) % 18446744073709551616 - 1))

pub cut_kept : (words : List ℕ) (n : ℕ) → n / 64 < length words → (k : ℕ) → k < n → bit_in (cut words n) k ≡ bit_in words k
cut_kept words n h k l =
    let at : ℕ = n / 64 in
    let x : ℕ = bit_and (get_or words at 0) (1 * 2 ^ (n % 64) % 18446744073709551616 - 1) in
    elim (cases_eq (k / 64) at) [
      | inl e ↦ ap (λ j. bit_at (get_or (set words at x) j 0) (k % 64) == 1) e ∙ ap (λ w. bit_at w (k % 64) == 1) (get_or-set_same words at x 0 h)
          ∙ bit_kept (get_or words at 0) (n % 64) (k % 64) (omega arith) (omega (arith, e, l)) ∙ ap (λ j. bit_at (get_or words j 0) (k % 64) == 1) (sym e)
      | inr ne ↦ ap (λ w. bit_at w (k % 64) == 1) (get_or-set_other words at (k / 64) x 0 ne)
    ]

pub cut_past : (words : List ℕ) (n : ℕ) → n / 64 < length words → length words ≡ (n + 63) / 64 → (k : ℕ) → n ≤ k → bit_in (cut words n) k ≡ false
cut_past words n h long k l =
    let at : ℕ = n / 64 in
    let x : ℕ = bit_and (get_or words at 0) (1 * 2 ^ (n % 64) % 18446744073709551616 - 1) in
    elim (cases_eq (k / 64) at) [
      | inl e ↦ ap (λ j. bit_at (get_or (set words at x) j 0) (k % 64) == 1) e ∙ ap (λ w. bit_at w (k % 64) == 1) (get_or-set_same words at x 0 h)
          ∙ bit_cleared (get_or words at 0) (n % 64) (k % 64) (omega arith) (omega (arith, e, l))
      | inr ne ↦ ap (λ w. bit_at w (k % 64) == 1) (get_or-set_other words at (k / 64) x 0 ne ∙ get_or_past words (k / 64) 0 (omega (arith, l, ne, h, long)))
          ∙ ap (λ b. b == 1) (bit_at-zero (k % 64))
    ]

-- rows whose values are turned
pub unpacked-not : (a r : List ℕ) (n : ℕ) → ((k : ℕ) → k < n → bit_in r k ≡ not (bit_in a k)) → unpacked r n ≡ map not (unpacked a n)
unpacked-not a r n h = unpacked-is r n (map not (unpacked a n)) (length-map (unpacked a n) not ∙ length-unpacked a n)
    (λ i l. h i l ∙ ap not (sym (unpacked-get a n i false l)) ∙ sym (get_or-map not (unpacked a n) i false false (omega (arith, l, length-unpacked a n))))

pub not_false : (n : ℕ) → map not (replicate n false) ≡ replicate n true
not_false zero = refl
not_false (suc n) = ap (λ row. true ∷ row) (not_false n)

or_false : (b : Bool) → (b || false) ≡ b
or_false true = refl
or_false false = refl

-- true where one of two rows is
pub either_at : (xs ys : List Bool) (k : ℕ) → get_or (either xs ys) k false ≡ (get_or xs k false || get_or ys k false)
either_at [] ys k = refl
either_at (x ∷ xs) [] k = sym (or_false (get_or (x ∷ xs) k false))
either_at (x ∷ xs) (y ∷ ys) zero = refl
either_at (x ∷ xs) (y ∷ ys) (suc k) = either_at xs ys k

pub either_long : (xs ys : List Bool) → length xs ≡ length ys → length (either xs ys) ≡ length xs
either_long [] ys e = sym e
either_long (x ∷ xs) [] e = refl
either_long (x ∷ xs) (y ∷ ys) e = ap suc (either_long xs ys (omega arith))

pub unpacked-either : (a b r : List ℕ) (n : ℕ) → ((k : ℕ) → bit_in r k ≡ (bit_in a k || bit_in b k)) → unpacked r n ≡ either (unpacked a n) (unpacked b n)
unpacked-either a b r n h = unpacked-is r n (either (unpacked a n) (unpacked b n))
    (either_long (unpacked a n) (unpacked b n) (length-unpacked a n ∙ sym (length-unpacked b n)) ∙ length-unpacked a n)
    (λ i l. h i ∙ (λ j. sym (unpacked-get a n i false l) j || sym (unpacked-get b n i false l) j) ∙ sym (either_at (unpacked a n) (unpacked b n) i))

pub packed_or : (a b r : List ℕ) (n : ℕ) → IsPacked a n → IsPacked b n → length r ≡ length a → ((k : ℕ) → bit_in r k ≡ (bit_in a k || bit_in b k)) → IsPacked r n
packed_or a b r n p q e each = record { short = p.short; long = e ∙ p.long; tail = λ k m. each k ∙ ap₂ (λ t u. t || u) (p.tail k m) (q.tail k m) }
