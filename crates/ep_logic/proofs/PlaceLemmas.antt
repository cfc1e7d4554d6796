-- The true places of a row, word by word.
use Rattle.std.proofs.Common.{◌≡◌, ◌≢◌, ℕ, zero, suc, ◌+◌, ◌-◌, ◌*◌, ◌/◌, ◌%◌, ◌^◌, ◌<◌, ◌≤◌, Bool, true, false, cond, ◌==◌, List, [], ◌∷◌, ◌++◌, map, length, get_or, bit_and, refl, ap, ap₂, ◌∙◌, sym, subst, arith, w64, append-nil, append_assoc, add-zero, add-suc}
use Rattle.std.specs.Int.{bit_at, trailing_zeros}
use Rattle.std.proofs.lemmas.List.{map-append}
use Rattle.std.proofs.lemmas.Nat.Bits.{bit_at-trailing_zeros, bit_at_clear_same, bit_at_clear_other, bit_at-zero}
use Rattle.std.proofs.lemmas.Nat.{and_le_l}
use Rattle.ep_logic.specs.Numbers.{numbers_where}
use Rattle.ep_logic.specs.Rows.{value_at, true_places}
use Rattle.ep_logic.proofs.NumberLemmas.{numbers_where-same, numbers_where-skip, numbers_where-next, numbers_where-from}
use Rattle.ep_logic.proofs.PackedLemmas.{length-unpacked, unpacked-get}
use Rattle.ep_logic.specs.Packed.{IsPacked, unpacked, bit_in, bit_of, places_below, word_places}
use native.Mathlib.Decide.{dec_lt}
use Prim.{yes, no}

-- the places of the words before word k, and then those of word k
pub places_with_word : (words : List ℕ) (k : ℕ) → numbers_where (bit_in words) ((k + 1) * 64) ≡ numbers_where (bit_in words) (k * 64) ++ word_places (k * 64) (get_or words k 0)
unfolding word_places places_below
places_with_word words k =
    let e : (k + 1) * 64 ≡ k * 64 + 64 = omega arith in
    ap (numbers_where (bit_in words)) e
    ∙ numbers_where-from (bit_in words) (k * 64) 64
    ∙ ap (λ x. numbers_where (bit_in words) (k * 64) ++ map (λ j. k * 64 + j) x) (numbers_where-same (λ j. bit_in words (k * 64 + j)) (bit_of (get_or words k 0)) 64 (λ j l.
    let at : (k * 64 + j) / 64 ≡ k = omega (arith, l) in
    let place : (k * 64 + j) % 64 ≡ j = omega (arith, l) in
    ap₂ (λ q p. bit_at (get_or words q 0) p == 1) at place))

-- past the end of the row no place is true
pub places_of_packed : (words : List ℕ) (n : ℕ) → IsPacked words n → numbers_where (bit_in words) (length words * 64) ≡ true_places (unpacked words n)
places_of_packed words n p =
    let row : List Bool = unpacked words n in
    numbers_where-skip (bit_in words) n (length words * 64) (omega (arith, p.long)) (λ i l m. p.tail i l)
    ∙ numbers_where-same (bit_in words) (value_at row) n (λ i l. sym (unpacked-get words n i false l))
    ∙ ap (numbers_where (value_at row)) (sym (length-unpacked words n))

-- the lowest true place of a word, or 64
abbrev low : ℕ → ℕ
low n = trailing_zeros w64 n

low_zero : (n : ℕ) → n ≡ 0 → low n ≡ 64
unfolding lib.Count.count_trailing_zeros
low_zero n e = ap low e

below_low : (n : ℕ) → n < 2 ^ 64 → (i : ℕ) → i < low n → bit_at n i ≡ 0
below_low zero h i l = bit_at-zero i
below_low (suc n) h i l = (bit_at-trailing_zeros w64 (suc n) (omega arith) h).2 i l

pub none_below : (from word : ℕ) → word < 2 ^ 64 → places_below from word (low word) ≡ []
unfolding places_below
none_below from word h = ap (map (λ j. from + j)) (numbers_where-skip (bit_of word) 0 (low word) (omega arith) (λ i l m. ap (λ b. b == 1) (below_low word h i m)))

pub all_below : (from word rest : ℕ) → rest ≡ 0 → places_below from word (low rest) ≡ word_places from word
unfolding word_places
all_below from word rest e = ap (places_below from word) (low_zero rest e)

-- the word without its lowest true place
abbrev without_low : ℕ → ℕ
without_low n = bit_and n (18446744073709551615 - 1 * 2 ^ low n % 18446744073709551616)

low_is : (n : ℕ) → n ≢ 0 → n < 2 ^ 64 → (low n < 64) × (bit_at n (low n) ≡ 1) × ((i : ℕ) → i < low n → bit_at n i ≡ 0)
low_is n h l = bit_at-trailing_zeros w64 n (omega (arith, h)) l

cleared : (n : ℕ) → n ≢ 0 → n < 2 ^ 64 → bit_at (without_low n) (low n) ≡ 0
cleared n h l = bit_at_clear_same w64 n (low n) (low_is n h l).0

others : (n i : ℕ) → n ≢ 0 → n < 2 ^ 64 → i < 64 → i ≢ low n → bit_at (without_low n) i ≡ bit_at n i
others n i h l m ne = bit_at_clear_other w64 n (low n) (low_is n h l).0 i m ne

within : (n : ℕ) → n < 2 ^ 64 → without_low n < 2 ^ 64
within n l = omega (arith, l, and_le_l n (18446744073709551615 - 1 * 2 ^ low n % 18446744073709551616))

without_low_other : (n : ℕ) → n ≢ 0 → n < 2 ^ 64 → without_low n ≢ n
without_low_other n h l e =
    let z : 0 ≡ 1 = sym (cleared n h l) ∙ ap (λ m. bit_at m (low n)) e ∙ (low_is n h l).1 in
    omega (arith, z)

pub without_low_less : (n : ℕ) → n ≢ 0 → n < 2 ^ 64 → without_low n < n
without_low_less n h l = omega (arith, and_le_l n (18446744073709551615 - 1 * 2 ^ low n % 18446744073709551616), without_low_other n h l)

no_low : (m k : ℕ) → m < 2 ^ 64 → k < 64 → ((i : ℕ) → i ≤ k → bit_at m i ≡ 0) → k < low m
unfolding lib.Count.count_trailing_zeros
no_low zero k h l z = l
no_low (suc m) k h l z =
    let t = bit_at-trailing_zeros w64 (suc m) (omega arith) h in
    elim (dec_lt k (low (suc m))) [
      | yes a ↦ a
      | no n ↦ absurd (let e : 1 ≡ 0 = sym t.1 ∙ z (low (suc m)) (omega (arith, n)) in omega (arith, e))
    ]

pub low_rises : (n : ℕ) → n ≢ 0 → n < 2 ^ 64 → low n < low (without_low n)
low_rises n h l =
    let t = low_is n h l in
    no_low (without_low n) (low n) (within n l) t.0 (λ i m. elim (dec_lt i (low n)) [
      | yes a ↦ others n i h l (omega (arith, a, t.0)) (λ e. omega (arith, a, e)) ∙ t.2 i a
      | no b ↦ let e : i ≡ low n = omega (arith, m, b) in ap (bit_at (without_low n)) e ∙ cleared n h l
    ])

-- what is left agrees with the word from its lowest place on
abbrev pub Agrees : ℕ → ℕ → Type 0
Agrees word rest = (j : ℕ) → trailing_zeros w64 rest ≤ j → j < 64 → bit_at rest j ≡ bit_at word j

pub agrees_next : (word rest : ℕ) → rest ≢ 0 → rest < 2 ^ 64 → Agrees word rest → Agrees word (without_low rest)
agrees_next word rest h l a j m n =
    let up : low rest < low (without_low rest) = low_rises rest h l in
    others rest j h l n (λ e. omega (arith, e, m, up)) ∙ a j (omega (arith, m, up)) n

low_within : (n : ℕ) → n < 2 ^ 64 → low n ≤ 64
low_within zero h = let e : low 0 ≡ 64 = low_zero 0 refl in omega (arith, e)
low_within (suc n) h = omega (arith, (bit_at-trailing_zeros w64 (suc n) (omega arith) h).0)

pub next_below : (from word rest : ℕ) → rest ≢ 0 → rest < 2 ^ 64 → Agrees word rest → places_below from word (low (without_low rest)) ≡ places_below from word (low rest) ++ (from + low rest) ∷ []
unfolding places_below
next_below from word rest h l a =
    let t = low_is rest h l in
    let up : low rest < low (without_low rest) = low_rises rest h l in
    let top : low (without_low rest) ≤ 64 = low_within (without_low rest) (within rest l) in
    ap (map (λ j. from + j)) (numbers_where-next (bit_of word) (low rest) (low (without_low rest)) up
    (ap (λ b. b == 1) (sym (a (low rest) (omega arith) t.0) ∙ t.1))
    (λ i m n. ap (λ b. b == 1) (sym (a i (omega (arith, m)) (omega (arith, n, top))) ∙ sym (others rest i h l (omega (arith, n, top)) (λ e. omega (arith, e, m))) ∙ below_low (without_low rest) (within rest l) i n)))
    ∙ map-append (λ j. from + j) (numbers_where (bit_of word) (low rest)) (low rest ∷ [])

-- in the loops
pub put_step : (from word rest : ℕ) (old now next : List ℕ) → rest ≢ 0 → rest < 2 ^ 64 → Agrees word rest → now ≡ old ++ places_below from word (low rest) → next ≡ now ++ (from + low rest) ∷ [] → next ≡ old ++ places_below from word (low (without_low rest))
put_step from word rest old now next h l a e g =
    g ∙ ap (λ x. x ++ (from + low rest) ∷ []) e ∙ append_assoc old (places_below from word (low rest)) ((from + low rest) ∷ []) ∙ ap (λ x. old ++ x) (sym (next_below from word rest h l a))

pub words_step : (words : List ℕ) (k : ℕ) (old now next : List ℕ) → now ≡ old ++ numbers_where (bit_in words) (k * 64) → next ≡ now ++ word_places (k * 64) (get_or words k 0) → next ≡ old ++ numbers_where (bit_in words) ((k + 1) * 64)
words_step words k old now next e g =
    g ∙ ap (λ x. x ++ word_places (k * 64) (get_or words k 0)) e ∙ append_assoc old (numbers_where (bit_in words) (k * 64)) (word_places (k * 64) (get_or words k 0)) ∙ ap (λ x. old ++ x) (sym (places_with_word words k))
