-- The pieces of a text: blanks, comments and the spellings of tokens.
use Rattle.std.specs.Prelude.{◌≡◌, ℕ, ◌-◌, ◌<◌, ◌⊎◌, ◌==◌, nat_le, ◌&&◌, ◌||◌, not, Bool, true, false, IsTrue, IsFalse, Option, Some, None, IfSome, IsSomeAnd, List, [], ◌∷◌, ◌++◌, length, take, drop, slice_index}
use Rattle.std.specs.List.{list_all}
use Rattle.ep_lex.specs.declared.limits.TheConstants.{MOST_DIGITS, MOST_WORD_BYTES}
use Rattle.ep_lex.specs.declared.token.TokenKind.TheVariants.{Word, Number, Mark}
use Rattle.ep_lex.specs.declared.token.PieceKind.{PieceKind}
use Rattle.ep_lex.specs.declared.token.PieceKind.TheVariants.{Blank, Comment, Spelling}

-- space, tab, carriage return, line feed
abbrev pub is_blank : ℕ → Bool
is_blank b = b == 32 || b == 9 || b == 13 || b == 10

-- a letter or `_`
abbrev pub is_letter : ℕ → Bool
is_letter b = (nat_le 97 b && nat_le b 122) || (nat_le 65 b && nat_le b 90) || b == 95

abbrev pub is_digit : ℕ → Bool
is_digit b = nat_le 48 b && nat_le b 57

abbrev pub is_word_byte : ℕ → Bool
is_word_byte b = is_letter b || is_digit b

abbrev pub is_line_feed : ℕ → Bool
is_line_feed b = b == 10

abbrev pub is_comment_byte : ℕ → Bool
is_comment_byte b = not (is_line_feed b)

-- { } ( ) , ; : < =
abbrev pub is_mark_byte : ℕ → Bool
is_mark_byte b = b == 123 || b == 125 || b == 40 || b == 41 || b == 44 || b == 59 || b == 58 || b == 60 || b == 61

-- := and ->, or one byte
abbrev pub is_mark : List ℕ → Bool
is_mark [] = false
is_mark (b ∷ []) = is_mark_byte b
is_mark (b ∷ c ∷ []) = (b == 58 && c == 61) || (b == 45 && c == 62)
is_mark _ = false

-- The bytes are a piece of this kind.
abbrev pub is_piece : PieceKind → List ℕ → Bool
is_piece _ [] = false
is_piece Blank (b ∷ bs) = is_blank b && length bs == 0
is_piece Comment (b ∷ bs) = b == 35 && list_all is_comment_byte bs
is_piece (Spelling Word) (b ∷ bs) = is_letter b && list_all is_word_byte bs && nat_le (length bs) (MOST_WORD_BYTES - 1)
is_piece (Spelling Number) (b ∷ bs) = is_digit b && list_all is_digit bs && nat_le (length bs) (MOST_DIGITS - 1)
is_piece (Spelling Mark) (b ∷ bs) = is_mark (b ∷ bs)

-- the first byte, if there is one, does not pass
abbrev pub stops : (ℕ → Bool) → List ℕ → Bool
stops p [] = true
stops p (b ∷ bs) = not (p b)

abbrev pub is_equals : ℕ → Bool
is_equals b = b == 61

abbrev pub is_colon : List ℕ → Bool
is_colon [] = false
is_colon (b ∷ bs) = b == 58 && length bs == 0

-- what follows a piece does not go on with it
abbrev pub ends : PieceKind → List ℕ → List ℕ → Bool
ends Blank text rest = true
ends Comment text rest = stops is_comment_byte rest
ends (Spelling Word) text rest = stops is_word_byte rest
ends (Spelling Number) text rest = stops is_digit rest
ends (Spelling Mark) text rest = not (is_colon text) || stops is_equals rest

pub record Piece : Type 0 where
  pub kind : PieceKind
  pub text : List ℕ

-- The pieces in turn make up the bytes.
abbrev pub Split : List ℕ → List Piece → Type 0
Split bytes [] = bytes ≡ []
Split bytes (p ∷ ps) =
    (rest : List ℕ) × (bytes ≡ p.text ++ rest) × IsTrue (is_piece p.kind p.text) × IsTrue (ends p.kind p.text rest) × Split rest ps

abbrev pub last_piece : List Piece → Option Piece
last_piece [] = None
last_piece (p ∷ []) = Some p
last_piece (p ∷ q ∷ ps) = last_piece (q ∷ ps)

-- some piece begins at the first byte
abbrev pub Begins : List ℕ → Type 0
Begins bytes = (kind : PieceKind) × (text : List ℕ) × (rest : List ℕ) × (bytes ≡ text ++ rest) × IsTrue (is_piece kind text)

-- a word or a number of as many bytes as it may have, which the byte b would go on with
abbrev pub is_full_at : PieceKind → ℕ → ℕ → Bool
is_full_at (Spelling Word) len b = len == MOST_WORD_BYTES && is_word_byte b
is_full_at (Spelling Number) len b = len == MOST_DIGITS && is_digit b
is_full_at _ len b = false

abbrev pub is_full : ℕ → Piece → Bool
is_full b p = is_full_at p.kind (length p.text) b

abbrev pub is_comment : PieceKind → Bool
is_comment Comment = true
is_comment _ = false

-- The bytes before `at` split, with no comment at their end, and the byte there can stand in no token, blank or
-- comment: the last piece is full, or no piece begins there.
pub record IsStray (bytes : List ℕ) (at : ℕ) : Type 0 where
  pub within : at < length bytes
  pub pieces : List Piece
  pub split : Split (take at bytes) pieces
  pub no_comment : IfSome (last_piece pieces) (λ p. IsFalse (is_comment p.kind))
  pub why : IsSomeAnd (last_piece pieces) (λ p. IsTrue (is_full (slice_index bytes at) p)) ⊎ (Begins (drop at bytes) → ⊥)
