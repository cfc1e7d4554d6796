-- The tokens of a layout are those that are laid out.
use Rattle.std.proofs.Common.{◌≡◌, ℕ, Bool, true, false, ◌||◌, ◌==◌, List, [], ◌∷◌, ◌++◌, refl, ap, ◌∙◌, subst}
use Rattle.std.specs.Prelude.{IsTrue, if◌then◌else◌}
use Rattle.ep_lex.specs.declared.token.Token.{Token as Lexeme}
use Rattle.ep_lex.specs.declared.token.TokenKind.{TokenKind}
use Rattle.ep_lex.specs.declared.token.TokenKind.TheVariants.{Word, Number, Mark}
use Rattle.ep_lex.specs.declared.token.PieceKind.TheVariants.{Blank, Spelling}
use Rattle.ep_lex.specs.Pieces.{is_letter, is_digit, is_piece, Split}
use Rattle.ep_lex.specs.Tokens.{AreTokens, spellings, tokens_behind}
use Rattle.ep_lex.proofs.CallerLemmas.{texts_of, spellings-are, Laid, laid, laid_pieces, AreLaid, laid_split}
use Rattle.ep_layout.specs.Layout.{starts_line, is_semicolon, gap, laid_behind, laid_out}

-- what kind of token the bytes spell, if they spell one
abbrev pub kind_of : List ℕ → TokenKind
kind_of [] = Mark
kind_of (b ∷ bs) = if is_letter b then Word else (if is_digit b then Number else Mark)

-- the bytes spell a token
abbrev pub IsSpelling : List ℕ → Type 0
IsSpelling token = IsTrue (is_piece (Spelling (kind_of token)) token)

abbrev pub AreSpellings : List (List ℕ) → Type 0
AreSpellings [] = Unit {0}
AreSpellings (t ∷ ts) = IsSpelling t × AreSpellings ts

-- each token with the blank behind it
labelled : List ℕ → List (List ℕ) → List Laid
labelled first [] = record { kind = kind_of first; text = first; blank = 10 } ∷ []
labelled first (second ∷ more) = record { kind = kind_of first; text = first; blank = gap first second } ∷ labelled second more

laid-labelled : (first : List ℕ) (more : List (List ℕ)) → laid (labelled first more) ≡ first ++ laid_behind first more
unfolding labelled
laid-labelled first [] = refl
laid-labelled first (second ∷ more) = ap (λ z. first ++ gap first second ∷ z) (laid-labelled second more)

texts_of-labelled : (first : List ℕ) (more : List (List ℕ)) → texts_of (laid_pieces (labelled first more)) ≡ first ∷ more
unfolding labelled
texts_of-labelled first [] = refl
texts_of-labelled first (second ∷ more) = ap (λ z. first ∷ z) (texts_of-labelled second more)

gap_blank : (first second : List ℕ) → (gap first second == 32 || gap first second == 10) ≡ true
gap_blank first second = by_test (is_semicolon first || starts_line second)
  where
    by_test : (b : Bool) → ((if b then 10 else 32) == 32 || (if b then 10 else 32) == 10) ≡ true
    by_test true = refl
    by_test false = refl

are_laid : (first : List ℕ) (more : List (List ℕ)) → IsSpelling first → AreSpellings more → AreLaid (labelled first more)
unfolding labelled
are_laid first [] s a = (s, refl, tt)
are_laid first (second ∷ more) s a = (s, gap_blank first second, are_laid second more a.0 a.1)

-- the layout splits into the tokens
layout_split : (first : List ℕ) (more : List (List ℕ)) → IsSpelling first → AreSpellings more → Split (laid_out (first ∷ more)) (laid_pieces (labelled first more))
layout_split first more s a = subst (λ z. Split z (laid_pieces (labelled first more))) (laid-labelled first more) (laid_split (labelled first more) (are_laid first more s a))

blank_split : Split (10 ∷ []) (record { kind = Blank; text = 10 ∷ [] } ∷ [])
blank_split = ([], refl, refl, refl, refl)

pub spellings-laid_out : (tokens : List (List ℕ)) (ts : List Lexeme) → AreSpellings tokens → AreTokens (laid_out tokens) ts → spellings (laid_out tokens) ts ≡ tokens
spellings-laid_out [] ts a t = spellings-are (10 ∷ []) ts (record { kind = Blank; text = 10 ∷ [] } ∷ []) t blank_split
spellings-laid_out (first ∷ more) ts a t =
    spellings-are (laid_out (first ∷ more)) ts (laid_pieces (labelled first more)) t (layout_split first more a.0 a.1) ∙ texts_of-labelled first more

pub some-laid_out : (tokens : List (List ℕ)) → AreSpellings tokens → (ts : List Lexeme) × AreTokens (laid_out tokens) ts
some-laid_out [] a = ([], record { pieces = record { kind = Blank; text = 10 ∷ [] } ∷ []; split = blank_split; tokens_are = refl })
some-laid_out (first ∷ more) a = (
  tokens_behind [] (laid_pieces (labelled first more)),
  record { pieces = laid_pieces (labelled first more); split = layout_split first more a.0 a.1; tokens_are = refl },
)
