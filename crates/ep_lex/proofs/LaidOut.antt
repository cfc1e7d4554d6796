-- Tokens with one blank behind each split into these tokens.
use Rattle.std.proofs.Common.{◌≡◌, ℕ, Bool, true, false, ◌==◌, ◌||◌, List, [], ◌∷◌, ◌++◌, refl, arith}
use Rattle.std.specs.Prelude.{not}
use Rattle.std.proofs.lemmas.Bool.Decides.{nat_tests}
use Rattle.ep_lex.specs.declared.token.TokenKind.{TokenKind}
use Rattle.ep_lex.specs.declared.token.TokenKind.TheVariants.{Word, Number, Mark}
use Rattle.ep_lex.specs.declared.token.PieceKind.TheVariants.{Blank, Spelling}
use Rattle.ep_lex.specs.Pieces.{is_piece, ends, is_word_byte, is_digit, is_equals, is_colon, is_blank, Piece, Split}

-- a token's kind and text, and the blank behind it
pub record Laid : Type 0 where
  pub kind : TokenKind
  pub text : List ℕ
  pub blank : ℕ

abbrev pub laid : List Laid → List ℕ
laid [] = []
laid (t ∷ ts) = t.text ++ t.blank ∷ laid ts

abbrev pub laid_pieces : List Laid → List Piece
laid_pieces [] = []
laid_pieces (t ∷ ts) = record { kind = Spelling t.kind; text = t.text } ∷ record { kind = Blank; text = t.blank ∷ [] } ∷ laid_pieces ts

abbrev pub AreLaid : List Laid → Type 0
AreLaid [] = Unit {0}
AreLaid (t ∷ ts) = (is_piece (Spelling t.kind) t.text ≡ true) × ((t.blank == 32 || t.blank == 10) ≡ true) × AreLaid ts

no_word : (b : ℕ) → (b == 32 || b == 10) ≡ true → not (is_word_byte b) ≡ true
no_word b e = grind (arith, nat_tests)

no_digit : (b : ℕ) → (b == 32 || b == 10) ≡ true → not (is_digit b) ≡ true
no_digit b e = grind (arith, nat_tests)

no_equals : (b : ℕ) → (b == 32 || b == 10) ≡ true → not (is_equals b) ≡ true
no_equals b e = grind (arith, nat_tests)

blank_is : (b : ℕ) → (b == 32 || b == 10) ≡ true → is_blank b ≡ true
blank_is b e = grind (arith, nat_tests)

or_second : (x y : Bool) → y ≡ true → (x || y) ≡ true
or_second true y e = refl
or_second false y e = e

ends_blank : (k : TokenKind) (text : List ℕ) (b : ℕ) (rest : List ℕ) → (b == 32 || b == 10) ≡ true → ends (Spelling k) text (b ∷ rest) ≡ true
ends_blank Word text b rest e = no_word b e
ends_blank Number text b rest e = no_digit b e
ends_blank Mark text b rest e = or_second (not (is_colon text)) (not (is_equals b)) (no_equals b e)

pub laid_split : (ts : List Laid) → AreLaid ts → Split (laid ts) (laid_pieces ts)
laid_split [] a = refl
laid_split (t ∷ ts) a = (
  t.blank ∷ laid ts,
  refl,
  a.0,
  ends_blank t.kind t.text t.blank (laid ts) a.1,
  (laid ts, refl, (rw (blank_is t.blank a.1) refl), refl, laid_split ts a.2),
)
