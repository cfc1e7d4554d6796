-- The bytes of a row that stands in words.
use Rattle.std.proofs.Common.{◌≡◌, ℕ, zero, suc, ◌+◌, ◌*◌, ◌/◌, ◌%◌, ◌^◌, ◌<◌, ◌≤◌, Bool, false, cond, ◌==◌, List, length, get_or, take, drop, bit_and, refl, sym, ap, ◌∙◌, arith}
use Rattle.std.specs.Int.{bit_at}
use Rattle.std.proofs.Math.Nat.{div-div-eq-div-mul}
use Rattle.std.proofs.lemmas.Nat.{pow-add}
use Rattle.std.proofs.lemmas.Grind.{and_numeral}
use Rattle.std.proofs.lemmas.List.{get_or-take, get_or-drop, get_or_past, length-take}
use Rattle.std.proofs.lemmas.List.FromFn.{get_or-map-range_with_len, length-map-range_with_len}
use Rattle.std.proofs.lemmas.Nat.Bits.{bit_at-lt, bit_at_and, bit_at_ones, bit_at_above, same_from_bits}
use native.Mathlib.Decide.{dec_lt}
use Prim.{yes, no}
use Rattle.ep_logic.specs.Packed.{bit_in, unpacked, IsPacked}
use Rattle.ep_bytes.specs.Bytes.{row_byte}
use Rattle.ep_bytes.proofs.RowBytesLemmas.{bit_of_number}

-- the bits of a number that is shifted, and of its lowest byte
shifted_bit : (x s j : ℕ) → bit_at (x / 2 ^ s) j ≡ bit_at x (s + j)
shifted_bit x s j = ap (λ q. q % 2) (div-div-eq-div-mul x (2 ^ s) (2 ^ j) ∙ ap (λ p. x / p) (sym (pow-add 2 s j)))

low_byte : (x : ℕ) → bit_and x 255 ≡ x % 256
low_byte x = and_numeral x 254 refl

low_bit : (x j : ℕ) → j < 8 → bit_at (x % 256) j ≡ bit_at x j
low_bit x j l =
    let one : bit_at 255 j ≡ 1 = bit_at_ones 8 j l in
    let small = bit_at-lt x j in
    ap (λ n. bit_at n j) (sym (low_byte x)) ∙ bit_at_and x 255 j ∙ omega (arith, one, small)

-- each place of the row is that of the words
pub length-unpacked : (words : List ℕ) (n : ℕ) → length (unpacked words n) ≡ n
unfolding unpacked
length-unpacked words n = length-map-range_with_len (bit_in words) 0 n

pub in_row : (words : List ℕ) (n i : ℕ) → IsPacked words n → get_or (unpacked words n) i false ≡ bit_in words i
unfolding unpacked
in_row words n i p = elim (dec_lt i n) [
  | yes l ↦ get_or-map-range_with_len (bit_in words) 0 n i i false l (omega arith)
  | no m ↦ get_or_past (unpacked words n) i false (omega (arith, length-unpacked words n)) ∙ sym (p.tail i (omega arith))
]

digit : (b : ℕ) → b < 2 → cond (b == 1) 1 0 ≡ b
digit zero l = refl
digit (suc zero) l = refl
digit (suc (suc b)) l = absurd (omega arith)

length-chunk : (xs : List Bool) (j : ℕ) → 8 ≤ j → get_or (take 8 xs) j false ≡ false
length-chunk xs j l = get_or_past (take 8 xs) j false (omega (arith, length-take 8 xs))

-- a byte of the row is a byte of its words
pub byte_of_words : (words : List ℕ) (n k : ℕ) → IsPacked words n → row_byte (unpacked words n) k ≡ get_or words (k / 8) 0 / 2 ^ (8 * (k % 8)) % 256
byte_of_words words n k p = same_from_bits (row_byte (unpacked words n) k) (get_or words (k / 8) 0 / 2 ^ (8 * (k % 8)) % 256) (λ j. elim (dec_lt j 8) [
  | yes l ↦
      let word : (8 * k + j) / 64 ≡ k / 8 = omega arith in
      let place : (8 * k + j) % 64 ≡ 8 * (k % 8) + j = omega arith in
      let value : get_or (take 8 (drop (8 * k) (unpacked words n))) j false ≡ bit_in words (8 * k + j) =
      get_or-take 8 (drop (8 * k) (unpacked words n)) j false l ∙ get_or-drop (8 * k) (unpacked words n) j false ∙ in_row words n (8 * k + j) p in
      bit_of_number (take 8 (drop (8 * k) (unpacked words n))) j
      ∙ ap (λ b. cond b 1 0) value
      ∙ digit (bit_at (get_or words ((8 * k + j) / 64) 0) ((8 * k + j) % 64)) (bit_at-lt (get_or words ((8 * k + j) / 64) 0) ((8 * k + j) % 64))
      ∙ (λ i. bit_at (get_or words (word i) 0) (place i))
      ∙ sym (low_bit (get_or words (k / 8) 0 / 2 ^ (8 * (k % 8))) j l ∙ shifted_bit (get_or words (k / 8) 0) (8 * (k % 8)) j)
  | no m ↦
      bit_of_number (take 8 (drop (8 * k) (unpacked words n))) j
      ∙ ap (λ b. cond b 1 0) (length-chunk (drop (8 * k) (unpacked words n)) j (omega arith))
      ∙ sym (bit_at_above (get_or words (k / 8) 0 / 2 ^ (8 * (k % 8)) % 256) 8 j (omega arith) (omega arith))
])
