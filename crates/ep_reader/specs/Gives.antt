-- What a method of the reader does, as a reader on lists says.
use Rattle.std.specs.Prelude.{◌≡◌, ℕ, ◌+◌, ◌≤◌, Bool, IsTrue, ◌&&◌, nat_le, List, length, drop, Result, Ok, Err}
use Rattle.std.specs.List.{list_all}
use Rattle.ep_lex.specs.declared.limits.TheConstants.{MOST_TOKENS}
use Rattle.ep_lex.specs.declared.token.Token.{Token as Lexeme}
use Rattle.ep_lex.specs.declared.token.PieceKind.TheVariants as piece
use Rattle.ep_lex.specs.Pieces.{is_piece}
use Rattle.ep_lex.specs.Tokens.{spelling, spellings}
use Rattle.ep_reader.specs.declared.error.SyntaxError.{SyntaxError}
use Rattle.ep_reader.specs.declared.error.SyntaxError.TheVariants as error
use Rattle.ep_reader.specs.Reading.{Token, Syntax, TooDeep, Read, Reader}

-- a place: its number, and the tokens from there
abbrev pub Place : Type 0
Place = ℕ × List Token

abbrev pub place_at : ℕ → List ℕ → List Lexeme → Place
place_at at bytes lexemes = (at, drop at (spellings bytes lexemes))

-- the lexeme stands within the bytes, and is spelled as its kind says
abbrev pub is_sound : List ℕ → Lexeme → Bool
is_sound bytes t = nat_le (t.start + t.len) (length bytes) && is_piece (piece.Spelling t.kind) (spelling bytes t)

abbrev pub all_sound : List ℕ → List Lexeme → Bool
all_sound bytes lexemes = list_all (is_sound bytes) lexemes

-- the place stands among the tokens, of which there are `count`
abbrev pub IsAtPlace : ℕ → ℕ → List ℕ → List Lexeme → Type 0
IsAtPlace at count bytes lexemes = (at ≤ count) × (count ≡ length lexemes) × (count ≤ MOST_TOKENS) × IsTrue (all_sound bytes lexemes)

abbrev pub Stops : {A : Type 0} → SyntaxError → Read A → Type 0
Stops (error.Syntax token) read = read ≡ Err (Syntax token)
Stops (error.TooDeep token) read = read ≡ Err (TooDeep token)
Stops error.OutOfMemory read = Unit {0}

abbrev pub Gives : {A : Type 0} → Reader A → Place → Result A SyntaxError → Place → Type 0
Gives p old (Ok a) new = p old.0 old.1 ≡ Ok (a, new.0, new.1)
Gives p old (Err e) new = Stops e (p old.0 old.1)

-- the same of a whole text
abbrev pub Says : {A : Type 0} → Result A SyntaxError → Read A → Type 0
Says (Ok a) read = (m : ℕ) × (rest : List Token) × (read ≡ Ok (a, m, rest))
Says (Err e) read = Stops e read
