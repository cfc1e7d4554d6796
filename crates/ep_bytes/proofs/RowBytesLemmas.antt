-- The values of a row in its bytes.
use Rattle.std.proofs.Common.{◌≡◌, ℕ, zero, suc, ◌+◌, ◌*◌, ◌/◌, ◌%◌, ◌^◌, ◌<◌, ◌≤◌, Bool, true, false, cond, ◌==◌, List, [], ◌∷◌, ◌++◌, length, get_or, take, drop, refl, ap, ◌∙◌, arith}
use Rattle.std.specs.Int.{bit_at}
use Rattle.std.specs.List.{AllByRecursion, flat_map}
use Rattle.std.proofs.Math.Nat.{pow-succ'}
use Rattle.std.proofs.lemmas.List.{get_or-take, get_or-drop, get_or_append_left, get_or-append-add, length-append}
use Rattle.std.proofs.lemmas.Nat.Bits.{bit_at_lowest, bit_at-suc, bit_at-zero}
use Rattle.ep_logic.proofs.CallerLemmas.{length-table, get_or-table}
use Rattle.ep_bytes.specs.Bytes.{number_of, row_byte, row_size, row_bytes}

-- one more digit
pub number_of_drop : (xs : List Bool) (i : ℕ) → number_of (drop i xs) ≡ cond (get_or xs i false) 1 0 + 2 * number_of (drop (suc i) xs)
number_of_drop [] zero = refl
number_of_drop [] (suc i) = refl
number_of_drop (x ∷ xs) zero = refl
number_of_drop (x ∷ xs) (suc i) = number_of_drop xs i

digit_small : (b : Bool) → cond b 1 0 ≤ 1
digit_small true = omega arith
digit_small false = omega arith

pub number_small : (n : ℕ) (xs : List Bool) → length xs ≤ n → number_of xs < 2 ^ n
number_small zero [] h = omega arith
number_small zero (x ∷ xs) h = absurd (omega arith)
number_small (suc n) [] h = omega (arith, pow-succ' 2 n, number_small n [] (omega arith))
number_small (suc n) (x ∷ xs) h = omega (arith, pow-succ' 2 n, number_small n xs (omega arith), digit_small x)

lowest : (b : Bool) (n : ℕ) → (cond b 1 0 + 2 * n) % 2 ≡ cond b 1 0
lowest true n = omega arith
lowest false n = omega arith

half : (b : Bool) (n : ℕ) → (cond b 1 0 + 2 * n) / 2 ≡ n
half true n = omega arith
half false n = omega arith

-- each digit is a bit of the number
pub bit_of_number : (xs : List Bool) (i : ℕ) → bit_at (number_of xs) i ≡ cond (get_or xs i false) 1 0
bit_of_number [] i = bit_at-zero i
bit_of_number (x ∷ xs) zero = bit_at_lowest (cond x 1 0 + 2 * number_of xs) ∙ lowest x (number_of xs)
bit_of_number (x ∷ xs) (suc i) =
    bit_at-suc (cond x 1 0 + 2 * number_of xs) i ∙ ap (λ n. bit_at n i) (half x (number_of xs)) ∙ bit_of_number xs i

digit_test : (b : Bool) → (cond b 1 0 == 1) ≡ b
digit_test true = refl
digit_test false = refl

pub length-row_bytes : (row : List Bool) → length (row_bytes row) ≡ row_size (length row)
length-row_bytes row = length-table (row_byte row) (row_size (length row))

pub bit_of_row : (row : List Bool) (i : ℕ) → i < length row → (bit_at (get_or (row_bytes row) (i / 8) 0) (i % 8) == 1) ≡ get_or row i false
bit_of_row row i l =
    let byte : get_or (row_bytes row) (i / 8) 0 ≡ row_byte row (i / 8) = get_or-table (row_byte row) (row_size (length row)) (i / 8) 0 (omega arith) in
    let place : 8 * (i / 8) + i % 8 ≡ i = omega arith in
    let value : get_or (take 8 (drop (8 * (i / 8)) row)) (i % 8) false ≡ get_or row i false =
    get_or-take 8 (drop (8 * (i / 8)) row) (i % 8) false (omega arith) ∙ get_or-drop (8 * (i / 8)) row (i % 8) false ∙ ap (λ k. get_or row k false) place in
    ap (λ n. bit_at n (i % 8) == 1) byte
    ∙ ap (λ n. n == 1) (bit_of_number (take 8 (drop (8 * (i / 8)) row)) (i % 8) ∙ ap (λ b. cond b 1 0) value)
    ∙ digit_test (get_or row i false)

-- pieces of one length
pub length-pieces : {X : Type 0} (f : X → List ℕ) (m : ℕ) (xs : List X) → AllByRecursion (λ x. length (f x) ≡ m) xs → length (flat_map f xs) ≡ length xs * m
length-pieces f m [] h = omega arith
length-pieces f m (x ∷ xs) h = omega (arith, length-append (f x) (flat_map f xs), h.0, length-pieces f m xs h.1)

pub at_piece : {X : Type 0} (f : X → List ℕ) (m : ℕ) (xs : List X) (i j : ℕ) (e : X) → AllByRecursion (λ x. length (f x) ≡ m) xs → i < length xs → j < m →
    get_or (flat_map f xs) (i * m + j) 0 ≡ get_or (f (get_or xs i e)) j 0
at_piece f m [] i j e h l k = absurd (omega arith)
at_piece f m (x ∷ xs) zero j e h l k =
    let place : 0 * m + j ≡ j = omega arith in
    ap (λ n. get_or (f x ++ flat_map f xs) n 0) place ∙ get_or_append_left (f x) (flat_map f xs) 0 j (omega (arith, h.0))
at_piece f m (x ∷ xs) (suc i) j e h l k =
    let place : suc i * m + j ≡ length (f x) + (i * m + j) = omega (arith, h.0) in
    ap (λ n. get_or (f x ++ flat_map f xs) n 0) place ∙ get_or-append-add (f x) (flat_map f xs) (i * m + j) 0 ∙ at_piece f m xs i j e h.1 (omega arith) k
