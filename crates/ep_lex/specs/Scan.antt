-- The one piece at the front of a text, or how many bytes stand before the stray one.
use Rattle.std.specs.Prelude.{ℕ, ◌==◌, nat_le, Bool, false, if◌then◌else◌, List, [], ◌∷◌, length, take_while, Result, Ok, Err}
use Rattle.ep_lex.specs.declared.limits.TheConstants.{MOST_DIGITS, MOST_WORD_BYTES}
use Rattle.ep_lex.specs.declared.token.TokenKind.TheVariants.{Word, Number, Mark}
use Rattle.ep_lex.specs.declared.token.PieceKind.{PieceKind}
use Rattle.ep_lex.specs.declared.token.PieceKind.TheVariants.{Blank, Comment, Spelling}
use Rattle.ep_lex.specs.Pieces.{is_blank, is_letter, is_digit, is_word_byte, is_comment_byte, is_mark_byte}

-- what stands behind the longest front that passes
abbrev pub behind : (ℕ → Bool) → List ℕ → List ℕ
behind p [] = []
behind p (b ∷ bs) = if p b then behind p bs else b ∷ bs

abbrev pub Scanned : Type 0
Scanned = Result (PieceKind × List ℕ × List ℕ) ℕ

-- at most so many bytes
abbrev pub at_most : ℕ → PieceKind → List ℕ → List ℕ → Scanned
at_most k s text rest = if nat_le (length text) k then Ok (s, text, rest) else Err k

abbrev pub next_is : ℕ → List ℕ → Bool
next_is wanted [] = false
next_is wanted (c ∷ cs) = c == wanted

abbrev pub with_next : ℕ → ℕ → List ℕ → Scanned → Scanned
with_next b wanted [] alone = alone
with_next b wanted (c ∷ cs) alone = if c == wanted then Ok (Spelling Mark, b ∷ c ∷ [], cs) else alone

abbrev pub scan : List ℕ → Scanned
scan [] = Err 0
scan (b ∷ bs) =
    if is_blank b then Ok (Blank, b ∷ [], bs)
    else (if b == 35 then Ok (Comment, b ∷ take_while is_comment_byte bs, behind is_comment_byte bs)
    else (if is_letter b then at_most MOST_WORD_BYTES (Spelling Word) (b ∷ take_while is_word_byte bs) (behind is_word_byte bs)
    else (if is_digit b then at_most MOST_DIGITS (Spelling Number) (b ∷ take_while is_digit bs) (behind is_digit bs)
    else (if b == 58 then with_next b 61 bs (Ok (Spelling Mark, b ∷ [], bs))
    else (if b == 45 then with_next b 62 bs (Err 0)
    else (if is_mark_byte b then Ok (Spelling Mark, b ∷ [], bs) else Err 0))))))

-- what a scan gives, without the bytes
abbrev pub lengths : Scanned → Result (PieceKind × ℕ) ℕ
lengths (Ok x) = Ok (x.0, length x.1)
lengths (Err k) = Err k
