-- The lexemes of a text, and the tokens that they are.
use Rattle.std.proofs.Common.{◌≡◌, ℕ, zero, suc, ◌+◌, ◌-◌, ◌≤◌, ◌<◌, Bool, true, false, List, [], ◌∷◌, length, drop, Some, Ok, Err, All, refl, sym, ap, ◌∙◌, arith, length-drop}
use Rattle.std.specs.Prelude.{slice_get}
use Rattle.std.specs.List.{list_all}
use Rattle.std.specs.Option.{option_map}
use Rattle.std.proofs.lemmas.Bool.{false≢true, leb-true, le-leb}
use Rattle.std.proofs.lemmas.Bool.Decides.{nat_tests}
use Rattle.std.proofs.lemmas.List.{drop-drop, length-map}
use Rattle.std.proofs.lemmas.Option.{slice_get-map}
use Rattle.ep_lex.specs.declared.token.Token.{Token as Lexeme}
use Rattle.ep_lex.specs.declared.token.TokenKind.TheVariants as kind
use Rattle.ep_lex.specs.declared.token.PieceKind.TheVariants as piece
use Rattle.ep_lex.specs.Pieces.{is_piece, is_letter, is_digit, is_mark, is_mark_byte, is_word_byte}
use Rattle.ep_lex.specs.Tokens.{spelling, spellings, AreTokens}
use Rattle.ep_lex.proofs.CallerLemmas.{IsSpelled, token-spelled}
use Rattle.ep_tree.specs.Terminals.{is_name}
use Rattle.ep_reader.specs.Gives.{is_sound, all_sound}
use Rattle.ep_reader.proofs.Truth.{both_true}
use Rattle.ep_tree.specs.declared.terminal.Terminal.{Terminal}
use Rattle.ep_reader.specs.Gives.{Place}
use Rattle.ep_reader.specs.Reading.{Token, Syntax, Read, first_token, heads, begins, key, name}

-- ---- lexemes

pub sound_at : (bytes : List ℕ) (lexemes : List Lexeme) (i : ℕ) (t : Lexeme) → all_sound bytes lexemes ≡ true → slice_get lexemes i ≡ Some t → is_sound bytes t ≡ true
sound_at bytes [] i t s e = absurd (cc)
sound_at bytes (x ∷ xs) zero t s e = let h : x ≡ t = cc in ap (is_sound bytes) (sym h) ∙ (both_true _ _ s).0
sound_at bytes (x ∷ xs) (suc i) t s e = sound_at bytes xs i t (both_true _ _ s).1 e

pub within_at : (bytes : List ℕ) (lexemes : List Lexeme) (i : ℕ) (t : Lexeme) → all_sound bytes lexemes ≡ true → slice_get lexemes i ≡ Some t → t.start + t.len ≤ length bytes
within_at bytes lexemes i t s e = leb-true _ _ (both_true _ _ (sound_at bytes lexemes i t s e)).0

pub piece_at : (bytes : List ℕ) (lexemes : List Lexeme) (i : ℕ) (t : Lexeme) → all_sound bytes lexemes ≡ true → slice_get lexemes i ≡ Some t → is_piece (piece.Spelling t.kind) (spelling bytes t) ≡ true
piece_at bytes lexemes i t s e = (both_true _ _ (sound_at bytes lexemes i t s e)).1

sound_all : (bytes : List ℕ) (lexemes : List Lexeme) → ((i : ℕ) (t : Lexeme) → slice_get lexemes i ≡ Some t → IsSpelled bytes t) → all_sound bytes lexemes ≡ true
sound_all bytes [] h = refl
sound_all bytes (x ∷ xs) h =
    let s = h 0 x refl in
    rw (le-leb (x.start + x.len) (length bytes) s.within, s.spelled, sound_all bytes xs (λ i t e. h (suc i) t e)) refl

-- the tokens of a text are sound
pub sound_tokens : (bytes : List ℕ) (lexemes : List Lexeme) → AreTokens bytes lexemes → all_sound bytes lexemes ≡ true
sound_tokens bytes lexemes a = sound_all bytes lexemes (token-spelled bytes lexemes a)

pub first_token-drop : (xs : List (List ℕ)) (i : ℕ) → first_token (drop i xs) ≡ slice_get xs i
first_token-drop [] zero = refl
first_token-drop [] (suc i) = refl
first_token-drop (x ∷ xs) zero = refl
first_token-drop (x ∷ xs) (suc i) = first_token-drop xs i

pub heads-some : (test : List ℕ → Bool) (ts : List (List ℕ)) (t : List ℕ) → Some t ≡ first_token ts → heads test ts ≡ test t
heads-some test [] t e = absurd (cc)
heads-some test (u ∷ us) t e = let h : t ≡ u = cc in ap test (sym h)

-- the token that stands so far ahead of a place
pub first_token-ahead : (bytes : List ℕ) (lexemes : List Lexeme) (at by : ℕ)
    → first_token (drop by (drop at (spellings bytes lexemes))) ≡ option_map (spelling bytes) (slice_get lexemes (at + by))
first_token-ahead bytes lexemes at by =
    ap first_token (drop-drop by at (spellings bytes lexemes)) ∙ first_token-drop (spellings bytes lexemes) (at + by)
    ∙ slice_get-map (spelling bytes) lexemes (at + by)

-- ---- names

digit_no_letter : (b : ℕ) → is_digit b ≡ true → is_letter b ≡ false
digit_no_letter b e = grind (arith, nat_tests)

mark_byte_no_letter : (b : ℕ) → is_mark_byte b ≡ true → is_letter b ≡ false
mark_byte_no_letter b e = grind (arith, nat_tests)

mark_no_letter : (b : ℕ) (bs : List ℕ) → is_mark (b ∷ bs) ≡ true → is_letter b ≡ false
mark_no_letter b [] e = mark_byte_no_letter b e
mark_no_letter b (c ∷ []) e = grind (arith, nat_tests)
mark_no_letter b (c ∷ d ∷ ds) e = absurd (false≢true e)

no_word : (b : ℕ) (bs : List ℕ) → is_letter b ≡ false → is_name (b ∷ bs) ≡ false
no_word b bs e = rw e refl

pub number_no_name : (text : List ℕ) → is_piece (piece.Spelling kind.Number) text ≡ true → is_name text ≡ false
number_no_name [] e = refl
number_no_name (b ∷ bs) e = no_word b bs (digit_no_letter b (both_true _ _ (both_true _ _ e).0).0)

pub mark_no_name : (text : List ℕ) → is_piece (piece.Spelling kind.Mark) text ≡ true → is_name text ≡ false
mark_no_name [] e = refl
mark_no_name (b ∷ bs) e = no_word b bs (mark_no_letter b bs e)

letter_ascii : (b : ℕ) → is_letter b ≡ true → b < 128
letter_ascii b e = grind (arith, nat_tests)

word_byte_ascii : (b : ℕ) → is_word_byte b ≡ true → b < 128
word_byte_ascii b e = grind (arith, nat_tests)

word_bytes_ascii : (bs : List ℕ) → list_all is_word_byte bs ≡ true → All (λ b. b < 128) bs
word_bytes_ascii [] e k d l = absurd (omega arith)
word_bytes_ascii (b ∷ bs) e zero d l = word_byte_ascii b (both_true _ _ e).0
word_bytes_ascii (b ∷ bs) e (suc k) d l = word_bytes_ascii bs (both_true _ _ e).1 k d (omega arith)

-- a name's bytes are below 128
pub name_ascii : (text : List ℕ) → is_name text ≡ true → All (λ b. b < 128) text
name_ascii [] e k d l = absurd (omega arith)
name_ascii (b ∷ bs) e zero d l = letter_ascii b (both_true _ _ (both_true _ _ (both_true _ _ e).0).0).0
name_ascii (b ∷ bs) e (suc k) d l = word_bytes_ascii bs (both_true _ _ (both_true _ _ (both_true _ _ e).0).0).1 k d (omega arith)

-- ---- one token on

pub key-begins : (t : Terminal) (n : ℕ) (ts : List Token) → begins t ts ≡ true → key t n ts ≡ Ok (n, n + 1, drop 1 ts)
key-begins t n ts e = rw e refl

pub name-first : (n : ℕ) (ts : List Token) (t : Token) → Some t ≡ first_token ts → is_name t ≡ true → name n ts ≡ Ok (record { token = n; text = t }, n + 1, drop 1 ts)
name-first n [] t e f = absurd (cc)
name-first n (u ∷ us) t e f = let h : t ≡ u = cc in let g : is_name u ≡ true = ap is_name (sym h) ∙ f in rw (g, h) refl

pub name-not : (n : ℕ) (ts : List Token) (t : Token) → Some t ≡ first_token ts → is_name t ≡ false → name n ts ≡ Err (Syntax n)
name-not n [] t e f = absurd (cc)
name-not n (u ∷ us) t e f = let h : t ≡ u = cc in let g : is_name u ≡ false = ap is_name (sym h) ∙ f in rw g refl

abbrev pub read_as : {A : Type 0} → A → ℕ → List Token → Read A
read_as a n ts = Ok (a, n, ts)

-- the same place, as the code has it
pub one_on : {A : Type 0} (a : ℕ → A) (old : Place) (at : ℕ) (tokens : List Token) → (at, drop at tokens) ≡ old
    → read_as (a old.0) (old.0 + 1) (drop 1 old.1) ≡ read_as (a at) (at + 1) (drop (at + 1) tokens)
one_on a old at tokens e = ap (λ v. read_as (a v.0) (v.0 + 1) (drop 1 v.1)) (sym e) ∙ ap (read_as (a at) (at + 1)) (drop-drop 1 at tokens)

-- how many tokens stand from a place on
pub left-length : (old : Place) (at count : ℕ) (bytes : List ℕ) (lexemes : List Lexeme) → (at, drop at (spellings bytes lexemes)) ≡ old
    → count ≡ length lexemes → count - at ≡ length old.1
left-length old at count bytes lexemes e c =
    ap (λ n. n - at) (c ∙ sym (length-map lexemes (spelling bytes))) ∙ sym (length-drop at (spellings bytes lexemes))
    ∙ ap (λ v. length v.1) e
