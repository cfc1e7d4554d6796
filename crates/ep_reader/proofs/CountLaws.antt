-- Numbers without a leading zero are what `decimal` writes.
use Rattle.std.proofs.Common.{◌≡◌, ℕ, zero, suc, ◌+◌, ◌-◌, ◌*◌, ◌^◌, ◌≤◌, ◌<◌, Bool, true, false, ◌&&◌, ◌==◌, List, [], ◌∷◌, length, get_or, take, drop, Some, Ok, Err, refl, sym, ap, ◌∙◌, arith, rules}
use Rattle.std.specs.Prelude.{nat_le}
use Rattle.std.specs.Char.{digit_value}
use Rattle.std.specs.Fmt.{decimal}
use Rattle.std.specs.List.{list_all}
use Rattle.std.specs.Str.Parse.{digits_value}
use Rattle.std.proofs.lemmas.Bool.{false≢true, leb-true, le-leb}
use Rattle.std.proofs.lemmas.Bool.Decides.{nat_tests}
use Rattle.std.proofs.lemmas.Fmt.{digits_decimal, digits_value-decimal, decimal-digits_value, decimal_nonempty, first_decimal, decimal_digit, length-decimal-le}
use Rattle.std.proofs.lemmas.Str.Parse.{IsDigitsTest, IsNumeralModel, numerals_by_value, digits_value_short, digits_value-take-le, digit_at}
use Rattle.std.proofs.lemmas.Int.Digits.{digits_value_push}
use Rattle.std.proofs.lemmas.List.{take_more}
use Rattle.ep_lex.specs.declared.token.TokenKind.TheVariants as kind
use Rattle.ep_lex.specs.declared.token.PieceKind.TheVariants as piece
use Rattle.ep_lex.specs.Pieces.{is_piece, is_letter, is_digit, is_mark, is_mark_byte}
use Rattle.ep_reader.specs.Reading.{Token, Syntax, heads, first_token, is_unpadded, is_count, is_count_within, count_at, number_by, count, count_within}
use Rattle.ep_tree.specs.Formed.{IsFormedCount}
use Rattle.ep_tree.specs.Grammar.{Grammar}
use Rattle.ep_tree.specs.Spelling as spell
use Rattle.ep_reader.proofs.Laws.{Follow, IsRefused, Outcome}
use Rattle.ep_reader.proofs.MarkLists.{Agree}
use Rattle.ep_reader.proofs.Readers.{Part, Any, either, less_part}
use Rattle.ep_reader.proofs.Truth.{and_true, both_true}

abbrev pub Digits : List ℕ → Type 0
Digits ds = list_all is_digit ds ≡ true

digits_test : IsDigitsTest Digits
digits_test = search rules

pub own : IsNumeralModel Digits (digits_value 10)
own = numerals_by_value Digits digits_test

-- ---- a number's digits

pub record IsNumber (token : List ℕ) : Type 0 where
  pub some : 0 < length token
  pub digits : Digits token
  pub few : length token ≤ 9

pub number_is : (token : List ℕ) → is_piece (piece.Spelling kind.Number) token ≡ true → IsNumber token
number_is [] e = absurd (false≢true e)
number_is (d ∷ ds) e =
    let p = both_true (is_digit d && list_all is_digit ds) (nat_le (length ds) 8) e in
    let l : length ds ≤ 8 = leb-true (length ds) 8 p.1 in
    record { some = omega arith; digits = p.0; few = omega arith }

is_number : (token : List ℕ) → IsNumber token → is_piece (piece.Spelling kind.Number) token ≡ true
is_number [] n = absurd (omega (arith, n.some))
is_number (d ∷ ds) n = and_true (is_digit d && list_all is_digit ds) (nat_le (length ds) 8) n.digits (le-leb (length ds) 8 (omega (arith, n.few)))

-- ---- the value of the first digits

digit_is : (c : ℕ) → 48 ≤ c → c ≤ 57 → digit_value c ≡ c - 48
digit_is c low high = grind (arith, nat_tests)

-- one more digit
pub record OneMore (ds : List ℕ) (i : ℕ) : Type 0 where
  pub low : 48 ≤ get_or ds i 0
  pub high : get_or ds i 0 ≤ 57
  pub value : digits_value 10 (take (i + 1) ds) ≡ digits_value 10 (take i ds) * 10 + (get_or ds i 0 - 48)
  pub below : digits_value 10 (take (i + 1) ds) < 10 ^ 9

pub one_more : (ds : List ℕ) (i : ℕ) → is_piece (piece.Spelling kind.Number) ds ≡ true → i < length ds → OneMore ds i
one_more ds i e l =
    let n = number_is ds e in
    let r = digit_at ds i (own.to ds n.digits) l in
    let whole : digits_value 10 ds < 10 ^ 9 = digits_value_short own ds 9 n.digits n.few in
    record {
      low = r.0;
      high = r.1;
      value = ap (digits_value 10) (take_more ds i 0 l) ∙ digits_value_push 10 (take i ds) (get_or ds i 0)
          ∙ ap (λ z. digits_value 10 (take i ds) * 10 + z) (digit_is (get_or ds i 0) r.0 r.1);
      below = omega (arith, whole, digits_value-take-le 10 ds (i + 1) (omega arith));
    }

-- ---- a leading zero

unpadded_first : (token : List ℕ) → is_unpadded token ≡ true → get_or token 0 0 ≡ 48 → length token ≡ 1
unpadded_first [] e z = absurd (false≢true e)
unpadded_first (d ∷ ds) e z = by_test (d == 48) refl
  where
    by_test : (b : Bool) → (d == 48) ≡ b → suc (length ds) ≡ 1
    by_test b h = grind (arith, nat_tests)

unpadded_from : (token : List ℕ) → 0 < length token → (get_or token 0 0 ≡ 48 → length token ≡ 1) → is_unpadded token ≡ true
unpadded_from [] l z = absurd (omega arith)
unpadded_from (d ∷ ds) l z = grind (arith, nat_tests)

-- ---- counts

pub record IsWritten (token : List ℕ) : Type 0 where
  pub decimal : decimal (digits_value 10 token) ≡ token
  pub below : digits_value 10 token < 10 ^ 9

pub count_written : (token : List ℕ) → is_count token ≡ true → IsWritten token
count_written token e =
    let p = both_true (is_piece (piece.Spelling kind.Number) token) (is_unpadded token) e in
    let n = number_is token p.0 in
    let below : digits_value 10 token < 10 ^ 9 = digits_value_short own token 9 n.digits n.few in
    record { decimal = decimal-digits_value own token n.digits n.some (unpadded_first token p.1) (omega (arith, below)); below = below }

decimal_first : (n : ℕ) → n < 10 ^ 9 → get_or (decimal n) 0 0 ≡ 48 → length (decimal n) ≡ 1
decimal_first zero l e = ap length (decimal_digit 0 (omega arith))
decimal_first (suc n) l e = let h = first_decimal (suc n) (omega arith) (omega arith) in absurd (omega (arith, h, e))

pub written_count : (n : ℕ) → n < 10 ^ 9 → is_count (decimal n) ≡ true
written_count n l =
    let small : n < 2 ^ 64 = omega arith in
    let some = decimal_nonempty n small in
    let number = is_number (decimal n) (record { some = some; digits = digits_decimal own n small; few = length-decimal-le 9 n (omega arith) l small }) in
    and_true (is_piece (piece.Spelling kind.Number) (decimal n)) (is_unpadded (decimal n)) number (unpadded_from (decimal n) some (decimal_first n l))

pub written_value : (n : ℕ) → n < 10 ^ 9 → digits_value 10 (decimal n) ≡ n
written_value n l = digits_value-decimal own n (omega arith)

-- ---- other tokens are none

letter_no_digit : (b : ℕ) → is_letter b ≡ true → is_digit b ≡ false
letter_no_digit b e = grind (arith, nat_tests)

mark_byte_no_digit : (b : ℕ) → is_mark_byte b ≡ true → is_digit b ≡ false
mark_byte_no_digit b e = grind (arith, nat_tests)

mark_no_digit : (b : ℕ) (bs : List ℕ) → is_mark (b ∷ bs) ≡ true → is_digit b ≡ false
mark_no_digit b [] e = mark_byte_no_digit b e
mark_no_digit b (c ∷ []) e = grind (arith, nat_tests)
mark_no_digit b (c ∷ d ∷ ds) e = absurd (false≢true e)

no_count : (b : ℕ) (bs : List ℕ) → is_digit b ≡ false → is_count (b ∷ bs) ≡ false
no_count b bs e = rw e refl

pub word_no_count : (text : List ℕ) → is_piece (piece.Spelling kind.Word) text ≡ true → is_count text ≡ false
word_no_count [] e = refl
word_no_count (b ∷ bs) e = no_count b bs (letter_no_digit b (both_true _ _ (both_true _ _ e).0).0)

pub mark_no_count : (text : List ℕ) → is_piece (piece.Spelling kind.Mark) text ≡ true → is_count text ≡ false
mark_no_count [] e = refl
mark_no_count (b ∷ bs) e = no_count b bs (mark_no_digit b bs e)

-- ---- the first token

pub count-first : (n : ℕ) (ts : List Token) (t : Token) → Some t ≡ first_token ts → is_count t ≡ true → count n ts ≡ Ok (digits_value 10 t, n + 1, drop 1 ts)
count-first n [] t e f = absurd (cc)
count-first n (u ∷ us) t e f = let h : t ≡ u = cc in let g : is_count u ≡ true = ap is_count (sym h) ∙ f in rw (g, h) refl

pub count-not : (n : ℕ) (ts : List Token) (t : Token) → Some t ≡ first_token ts → is_count t ≡ false → count n ts ≡ Err (Syntax n)
count-not n [] t e f = absurd (cc)
count-not n (u ∷ us) t e f = let h : t ≡ u = cc in let g : is_count u ≡ false = ap is_count (sym h) ∙ f in rw g refl

-- ---- counts within bounds

abbrev pub IsWithin : ℕ → ℕ → ℕ → Type 0
IsWithin least most n = (least ≤ n) × (n ≤ most)

abbrev is_within : ℕ → ℕ → ℕ → Bool
is_within least most n = nat_le least n && nat_le n most

within_is : (least most n : ℕ) → is_within least most n ≡ true → IsWithin least most n
within_is least most n e = let p = both_true (nat_le least n) (nat_le n most) e in (leb-true least n p.0, leb-true n most p.1)

is_within-true : (least most n : ℕ) → IsWithin least most n → is_within least most n ≡ true
is_within-true least most n w = and_true (nat_le least n) (nat_le n most) (le-leb least n w.0) (le-leb n most w.1)

-- ---- numbers that pass a test

abbrev pub counts_of : (ℕ → Type 0) → Grammar ℕ
counts_of P = record { marks = λ n. spell.count n ∷ []; IsFormed = P; bare = λ n. n }

-- the test passes the counts whose value is such
record IsTestOf (P : ℕ → Type 0) (test : Token → Bool) : Type 0 where
  small : (n : ℕ) → P n → n < 10 ^ 9
  passes : (n : ℕ) → P n → test (decimal n) ≡ true
  count : (token : Token) → test token ≡ true → is_count token ≡ true
  such : (token : Token) → test token ≡ true → P (digits_value 10 token)

module _ (P : ℕ → Type 0) (test : Token → Bool) (is : IsTestOf P test) (some : ℕ) (some_such : P some) where
  none_first : (ts : List Token) → heads test ts ≡ false → (b : ℕ) (more : List Token) → P b → Agree 1 ts (decimal b ∷ more) → ⊥
  none_first [] e b more f a = a
  none_first (u ∷ us) e b more f a = false≢true (sym e ∙ ap test a.0 ∙ is.passes b f)

  number_refused : (n : ℕ) (ts : List Token) → heads test ts ≡ false → IsRefused (counts_of P) Any n ts n
  number_refused n ts e = record {
    front = [];
    back = ts;
    text = refl;
    at = omega arith;
    none = λ b more f s a. none_first ts e b more f a;
    value = some;
    more = decimal some ∷ [];
    formed = some_such;
    begins = refl;
    shallow = tt;
  }

  number_read : (n : ℕ) (ts : List Token) → heads test ts ≡ true → Outcome (counts_of P) Any n ts (count_at n ts)
  number_read n [] e = absurd (false≢true e)
  number_read n (u ∷ us) e =
      let w = count_written u (is.count u e) in
      record {
        text = ap (λ z. z ∷ us) (sym w.decimal);
        at = refl;
        placed = (tt, tt);
        formed = is.such u e;
        shallow = (tt, tt);
        only = λ b more f s a.
            let same : digits_value 10 u ≡ b = ap (digits_value 10) a.0 ∙ written_value b (is.small b f) in
            record { bare = same; outlines = ap (λ z. spell.count z ∷ []) same };
      }

  number_part : {F : Follow} → Part (counts_of P) F (number_by test)
  number_part = less_part (record {
    reads = λ n ts. either (heads test ts) (λ e. record { holds = number_read n ts e }) (λ e. record { holds = number_refused n ts e });
    value = some;
    formed = some_such;
  })

-- ---- counts

pub count_part : {F : Follow} → Part (counts_of IsFormedCount) F count
count_part = number_part IsFormedCount is_count
    (record { small = λ _ f. f; passes = written_count; count = λ _ e. e; such = λ token e. (count_written token e).below })
    0 (omega arith)

abbrev pub counts_within : ℕ → ℕ → Grammar ℕ
counts_within least most = counts_of (IsWithin least most)

pub count_within_part : {F : Follow} (least most : ℕ) → least ≤ most → most < 10 ^ 9 → Part (counts_within least most) F (count_within least most)
count_within_part least most l m = number_part (IsWithin least most) (is_count_within least most)
    (record {
      small = λ n f. omega (arith, f.0, f.1);
      passes = λ n f.
          let small : n < 10 ^ 9 = omega (arith, f.0, f.1) in
          and_true _ _ (written_count n small) (ap (is_within least most) (written_value n small) ∙ is_within-true least most n f);
      count = λ token e. (both_true _ _ e).0;
      such = λ token e. within_is least most (digits_value 10 token) (both_true (is_count token) (is_within least most (digits_value 10 token)) e).1;
    })
    least (omega arith, l)
