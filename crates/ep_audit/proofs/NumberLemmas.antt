-- A plain text that parses is the decimal of its number, and the decimal of a number is plain and parses.
use Rattle.std.proofs.Common.{rules, ◌≡◌, ◌≢◌, ℕ, zero, suc, ◌<◌, ◌^◌, List, [], ◌∷◌, length, decimal, Result, Ok, Err, arith, subst, sym, ap, ◌∙◌}
use lib.ListN.{get_or}
use Rattle.std.specs.Str.Parse.{ParsesUnsigned, IsNumeral, digits_value, without_leading_plus, AllDigits}
use Rattle.std.proofs.lemmas.Str.Parse.{numerals_by_value, tells_digits, without_leading_plus_none}
use Rattle.std.proofs.lemmas.Fmt.{decimal-digits_value, decimal_digit, decimal_nonempty, first_decimal}
use Rattle.ep_audit.specs.Numerals.{IsPlain}

plain_first : (bs : List ℕ) → IsPlain bs → (get_or bs 0 0 ≢ 43) × (0 < length bs) × (get_or bs 0 0 ≡ 48 → length bs ≡ 1)
plain_first [] p = absurd p
plain_first (x ∷ []) p = (p, omega arith, λ _. omega arith)
plain_first (x ∷ y ∷ rest) p = (p.0, omega arith, λ e. absurd (p.1 e))

plain_from : (bs : List ℕ) → 0 < length bs → get_or bs 0 0 ≢ 43 → (get_or bs 0 0 ≡ 48 → length bs ≡ 1) → IsPlain bs
plain_from [] some sign zero_alone = absurd (omega (arith, some))
plain_from (x ∷ []) some sign zero_alone = sign
plain_from (x ∷ y ∷ rest) some sign zero_alone = (sign, λ e. absurd (omega (arith, zero_alone e)))

plain_numeral : (bs : List ℕ) → IsPlain bs → IsNumeral 10 bs → digits_value 10 bs < 2 ^ 32 → bs ≡ decimal (digits_value 10 bs)
plain_numeral bs p num small =
    let k = plain_first bs p in
    sym (decimal-digits_value (numerals_by_value (AllDigits 10) tells_digits) bs num.1 k.1 k.2 (omega (arith, small)))

pub plain_number : {E : Type 0} (bs : List ℕ) (n : ℕ) (r : Result ℕ E) → ParsesUnsigned 32 10 bs r → r ≡ Ok n → IsPlain bs → bs ≡ decimal n
plain_number bs n (Ok m) h e p =
    let w : without_leading_plus bs ≡ bs = without_leading_plus_none bs (plain_first bs p).0 in
    let num : IsNumeral 10 bs = subst (IsNumeral 10) w h.0.0 in
    let small : digits_value 10 bs < 2 ^ 32 = subst (λ x. digits_value 10 x < 2 ^ 32) w h.0.1 in
    let value : digits_value 10 bs ≡ n = search (rules, w, h.1, e) in
    plain_numeral bs p num small ∙ ap decimal value
plain_number bs n (Err x) h e p = search (rules, e)

pub number_is_plain : (bs : List ℕ) (n : ℕ) → n < 2 ^ 32 → bs ≡ decimal n → IsPlain bs
number_is_plain bs zero h e = subst IsPlain (sym (e ∙ decimal_digit 0 (omega arith))) (omega arith)
number_is_plain bs (suc n) h e =
    let first = first_decimal (suc n) (omega arith) (omega (arith, h)) in
    subst IsPlain (sym e) (plain_from (decimal (suc n)) (decimal_nonempty (suc n) (omega (arith, h))) (omega (arith, first)) (λ k. omega (arith, first, k)))
