-- The bytes of a state are below 256.
use Rattle.std.proofs.Common.{ℕ, zero, suc, ◌*◌, ◌<◌, ◌≤◌, Bool, true, false, List, [], ◌∷◌, ◌++◌, length, get_or, take, drop, ◌^◌, cond, arith}
use Rattle.std.specs.List.{AllByRecursion, flat_map}
use Rattle.std.proofs.Math.Nat.{pow-succ'}
use Rattle.std.proofs.lemmas.List.{length-take}
use Rattle.ep_logic.specs.Numbers.{table}
use Rattle.ep_theory.specs.Kripke.{Kripke}
use Rattle.ep_bounds.specs.declared.bounds.TheConstants.{MOST_WORLDS}
use Rattle.ep_kripke.specs.Interning.{row_of, successor_rows}
use Rattle.ep_bytes.specs.Bytes.{number_of, row_byte, row_size, row_bytes, header, bytes_of, IsWithin}

digit_small : (b : Bool) → cond b 1 0 ≤ 1
digit_small true = omega arith
digit_small false = omega arith

number_small : (n : ℕ) (xs : List Bool) → length xs ≤ n → number_of xs < 2 ^ n
number_small zero [] h = omega arith
number_small zero (x ∷ xs) h = absurd (omega arith)
number_small (suc n) [] h = omega (arith, pow-succ' 2 n, number_small n [] (omega arith))
number_small (suc n) (x ∷ xs) h = omega (arith, pow-succ' 2 n, number_small n xs (omega arith), digit_small x)

abbrev Low : List ℕ → Type 0
Low bs = AllByRecursion (λ b. b < 256) bs

low_both : (xs ys : List ℕ) → Low xs → Low ys → Low (xs ++ ys)
low_both [] ys h k = k
low_both (x ∷ xs) ys h k = (h.0, low_both xs ys h.1 k)

low_flat : {A : Type 0} (f : A → List ℕ) → ((x : A) → Low (f x)) → (xs : List A) → Low (flat_map f xs)
low_flat f h [] = tt
low_flat f h (x ∷ xs) = low_both (f x) (flat_map f xs) (h x) (low_flat f h xs)

low_table : (f : ℕ → ℕ) → ((i : ℕ) → f i < 256) → (n : ℕ) → Low (table f n)
low_table f h zero = tt
low_table f h (suc n) = low_both (table f n) (f n ∷ []) (low_table f h n) (h n, tt)

low_byte : (row : List Bool) (k : ℕ) → row_byte row k < 256
low_byte row k = number_small 8 (take 8 (drop (8 * k) row)) (omega (arith, length-take 8 (drop (8 * k) row)))

low_row : (row : List Bool) → Low (row_bytes row)
low_row row = low_table (row_byte row) (low_byte row) (row_size (length row))

low_header : (S : Kripke) → IsWithin MOST_WORLDS S → Low (header S)
low_header S h = (omega (arith, h.worlds), (omega arith, (omega (arith, h.agents), (omega (arith, h.atoms), (omega arith, tt)))))

low_bytes : (S : Kripke) → IsWithin MOST_WORLDS S → Low (bytes_of S)
unfolding bytes_of
low_bytes S h =
    let truths = flat_map row_bytes S.truth in
    let rows = λ (pairs : List (ℕ × ℕ)). flat_map row_bytes (successor_rows S.worlds pairs) in
    let links = flat_map rows S.links in
    low_both ((header S ++ truths) ++ links) (row_bytes (row_of S.worlds S.designated))
    (low_both (header S ++ truths) links (low_both (header S) truths (low_header S h) (low_flat row_bytes low_row S.truth)) (low_flat rows (λ pairs. low_flat row_bytes low_row (successor_rows S.worlds pairs)) S.links))
    (low_row (row_of S.worlds S.designated))

low_at : (bs : List ℕ) (i : ℕ) → Low bs → get_or bs i 0 < 256
low_at [] i h = omega arith
low_at (b ∷ bs) zero h = h.0
low_at (b ∷ bs) (suc i) h = low_at bs i h.1

pub small_bytes : (S : Kripke) → IsWithin MOST_WORLDS S → (i : ℕ) → get_or (bytes_of S) i 0 < 256
small_bytes S h i = low_at (bytes_of S) i (low_bytes S h)
