-- What bytes say as a text of a kind: its tokens with its tree, or the first of its faults.
use Rattle.std.specs.Prelude.{◌≡◌, ◌⊎◌, ℕ, List, Result, Ok, Err, IfOk, IfErr, IsOkUnless}
use Rattle.ep_base.specs.Refusals.{OrWant}
use Rattle.ep_lex.specs.Pieces.{IsStray}
use Rattle.ep_lex.specs.Tokens.{AreLexed, HasTooManyTokens, Lexed, line_at, spellings}
use Rattle.ep_tree.specs.Grammar.{Grammar, Reads, IsOnly, SyntaxAt, DeepAt}
use Rattle.ep_reader.specs.declared.error.SyntaxError.{SyntaxError}
use Rattle.ep_reader.specs.declared.error.SyntaxError.TheVariants as syntax_error
use Rattle.ep_reader.specs.declared.text.TextError.{TextError}
use Rattle.ep_reader.specs.declared.text.TextError.TheVariants as error
use Rattle.ep_reader.specs.declared.text.ParsedText.{ParsedText}
use Rattle.ep_reader.specs.Reading as reading
use Rattle.ep_reader.specs.Reading.{Reader, whole}

-- the bytes have these tokens, which the tree reads
pub record IsTextOf {A : Type 0} (g : Grammar A) (bytes : List ℕ) (found : Lexed) (tree : A) : Type 0 where
  pub lexed : AreLexed bytes found
  pub reads : Reads g (spellings bytes found.tokens) tree

-- ---- faults

-- the bytes have tokens, whose syntax place is this, on this line
pub record IsSyntaxFault {A : Type 0} (g : Grammar A) (bytes : List ℕ) (token line : ℕ) : Type 0 where
  pub found : Lexed
  pub lexed : AreLexed bytes found
  pub fault : SyntaxAt g (spellings bytes found.tokens) token
  pub line_is : line ≡ line_at found token

-- the same of their depth place
pub record IsDepthFault {A : Type 0} (g : Grammar A) (bytes : List ℕ) (token line : ℕ) : Type 0 where
  pub found : Lexed
  pub lexed : AreLexed bytes found
  pub fault : DeepAt g (spellings bytes found.tokens) token
  pub line_is : line ≡ line_at found token

-- The tokens come first: where a byte is stray, or there are too many tokens, nothing is said of a tree.
abbrev pub IsTextFault : {A : Type 0} → Grammar A → List ℕ → TextError → Type 0
IsTextFault g bytes (error.Stray at) = IsStray bytes at
IsTextFault g bytes error.TooManyTokens = HasTooManyTokens bytes
IsTextFault g bytes (error.Syntax token line) = IsSyntaxFault g bytes token line
IsTextFault g bytes (error.TooDeep token line) = IsDepthFault g bytes token line
IsTextFault g bytes error.OutOfMemory = ⊥

-- of the tokens alone; want of memory is no fault
abbrev pub IsTokenFault : List ℕ → TextError → Type 0
IsTokenFault bytes (error.Stray at) = IsStray bytes at
IsTokenFault bytes error.TooManyTokens = HasTooManyTokens bytes
IsTokenFault bytes error.OutOfMemory = Unit {0}
IsTokenFault bytes (error.Syntax token line) = ⊥
IsTokenFault bytes (error.TooDeep token line) = ⊥

-- a refusal with its line
abbrev pub error_at : Lexed → SyntaxError → TextError
error_at found (syntax_error.Syntax token) = error.Syntax token (line_at found token)
error_at found (syntax_error.TooDeep token) = error.TooDeep token (line_at found token)
error_at found syntax_error.OutOfMemory = error.OutOfMemory

-- ---- answers

-- What is read is a tree of the bytes, and there is no other but for token numbers. A refusal is the first fault.
pub record IsParsedBy {A : Type 0} (g : Grammar A) (bytes : List ℕ) (answer : Result (ParsedText A) TextError) : Type 0 where
  pub read : IfOk answer (λ text. IsTextOf g bytes text.tokens text.tree)
  pub only : IfOk answer (λ text. IsOnly g (spellings bytes text.tokens.tokens) text.tree)
  pub all_read : (found : Lexed) (tree : A) → IsTextOf g bytes found tree → IsOkUnless answer error.OutOfMemory
  pub fault : IfErr answer (OrWant error.OutOfMemory (IsTextFault g bytes))
  pub all_faults : (e : TextError) → IsTextFault g bytes e → (answer ≡ Err e) ⊎ (answer ≡ Err error.OutOfMemory)

-- ---- as a reader says

-- the reader stops at this place of the tokens of the bytes, on this line
pub record StopsAt {A : Type 0} (p : Reader A) (bytes : List ℕ) (fault : reading.Fault) (token line : ℕ) : Type 0 where
  pub found : Lexed
  pub lexed : AreLexed bytes found
  pub stops : whole p 0 (spellings bytes found.tokens) ≡ Err fault
  pub line_is : line ≡ line_at found token

-- the reader reads the tokens of the bytes
pub record ReadsText {A : Type 0} (p : Reader A) (bytes : List ℕ) (text : ParsedText A) : Type 0 where
  pub lexed : AreLexed bytes text.tokens
  pub place : ℕ
  pub rest : List reading.Token
  pub reads : whole p 0 (spellings bytes text.tokens.tokens) ≡ Ok (text.tree, place, rest)

-- the answer is what the reader says of the bytes
abbrev pub SaysText : {A : Type 0} → Reader A → List ℕ → Result (ParsedText A) TextError → Type 0
SaysText p bytes (Ok text) = ReadsText p bytes text
SaysText p bytes (Err (error.Stray at)) = IsStray bytes at
SaysText p bytes (Err error.TooManyTokens) = HasTooManyTokens bytes
SaysText p bytes (Err (error.Syntax token line)) = StopsAt p bytes (reading.Syntax token) token line
SaysText p bytes (Err (error.TooDeep token line)) = StopsAt p bytes (reading.TooDeep token) token line
SaysText p bytes (Err error.OutOfMemory) = Unit {0}
