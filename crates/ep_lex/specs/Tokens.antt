-- The tokens of a text: the spellings among its pieces, with their places and lines.
use Rattle.std.specs.Prelude.{◌≡◌, ℕ, ◌+◌, ◌<◌, ◌≤◌, List, [], ◌∷◌, ◌++◌, length, map, slice_range, slice_index_or}
use Rattle.std.specs.List.{count_by}
use Rattle.ep_lex.specs.declared.limits.TheConstants.{MOST_TOKENS}
use Rattle.ep_lex.specs.declared.token.PieceKind.{PieceKind}
use Rattle.ep_lex.specs.declared.token.PieceKind.TheVariants.{Blank, Comment, Spelling}
use Rattle.ep_lex.specs.declared.token.Token.{Token}
use Rattle.ep_lex.specs.Pieces.{is_line_feed, Piece, Split}

-- the line of what stands behind these bytes
abbrev pub line_behind : List ℕ → ℕ
line_behind before = 1 + count_by is_line_feed before

-- the token of a piece that stands behind these bytes, if it is a spelling
abbrev pub token_behind : List ℕ → PieceKind → List ℕ → List Token
token_behind before Blank text = []
token_behind before Comment text = []
token_behind before (Spelling kind) text = record { kind = kind; start = length before; len = length text; line = line_behind before } ∷ []

-- the tokens of pieces that stand behind these bytes
abbrev pub tokens_behind : List ℕ → List Piece → List Token
tokens_behind before [] = []
tokens_behind before (p ∷ ps) = token_behind before p.kind p.text ++ tokens_behind (before ++ p.text) ps

-- The tokens are those of a split of the bytes.
pub record AreTokens (bytes : List ℕ) (tokens : List Token) : Type 0 where
  pub pieces : List Piece
  pub split : Split bytes pieces
  pub tokens_are : tokens ≡ tokens_behind [] pieces

-- the bytes of a token
abbrev pub spelling : List ℕ → Token → List ℕ
spelling bytes t = slice_range bytes t.start (t.start + t.len)

-- the bytes of each token
abbrev pub spellings : List ℕ → List Token → List (List ℕ)
spellings bytes tokens = map (spelling bytes) tokens

-- the tokens of a text, and the line of its end
pub record Lexed : Type 0 where
  pub tokens : List Token
  pub end_line : ℕ

-- They are those of the bytes, and no more than a list of them may have.
pub record AreLexed (bytes : List ℕ) (found : Lexed) : Type 0 where
  pub tokens : AreTokens bytes found.tokens
  pub few : length found.tokens ≤ MOST_TOKENS
  pub end_line : found.end_line ≡ line_behind bytes

-- the text has more tokens than that
abbrev pub HasTooManyTokens : List ℕ → Type 0
HasTooManyTokens bytes = (tokens : List Token) × AreTokens bytes tokens × (MOST_TOKENS < length tokens)

-- the line of token i, and of the end behind the last
abbrev pub line_at : Lexed → ℕ → ℕ
line_at found i = slice_index_or (map (λ t. t.line) found.tokens) i found.end_line
