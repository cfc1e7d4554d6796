-- How a reader of whole texts answers.
use Rattle.std.specs.Prelude.{◌≡◌, ◌⊎◌, ℕ, List, Result, Err, IfOk, IsOkUnless}
use Rattle.ep_tree.specs.Grammar.{Grammar, Reads, IsOnly, SyntaxAt, DeepAt}
use Rattle.ep_reader.specs.declared.error.SyntaxError.{SyntaxError}
use Rattle.ep_reader.specs.declared.error.SyntaxError.TheVariants.{Syntax, TooDeep, OutOfMemory}
use Rattle.ep_reader.specs.Reading.{Token}

-- the refusal, or want of memory
abbrev pub RefusesWith : {A : Type 0} → Result A SyntaxError → SyntaxError → Type 0
RefusesWith answer error = (answer ≡ Err error) ⊎ (answer ≡ Err OutOfMemory)

-- What is read is a tree of the tokens, and there is no other but for token numbers. A refusal has its one place.
pub record IsReadBy {A : Type 0} (g : Grammar A) (tokens : List Token) (answer : Result A SyntaxError) : Type 0 where
  pub read : IfOk answer (Reads g tokens)
  pub only : IfOk answer (IsOnly g tokens)
  pub all_read : (tree : A) → Reads g tokens tree → IsOkUnless answer OutOfMemory
  pub syntax : (n : ℕ) → answer ≡ Err (Syntax n) → SyntaxAt g tokens n
  pub all_syntax : (n : ℕ) → SyntaxAt g tokens n → RefusesWith answer (Syntax n)
  pub deep : (t : ℕ) → answer ≡ Err (TooDeep t) → DeepAt g tokens t
  pub all_deep : (t : ℕ) → DeepAt g tokens t → RefusesWith answer (TooDeep t)
