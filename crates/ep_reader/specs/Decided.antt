-- What becomes of a list of tokens.
use Rattle.std.specs.Prelude.{◌≡◌, ◌⊎◌, ℕ, List}
use Rattle.ep_tree.specs.Grammar.{Grammar, Reads, SyntaxAt, DeepAt}
use Rattle.ep_reader.specs.Reading.{Token}

-- Every list of tokens is read by a tree, or has a syntax place, or a depth place, and only one of the three: one tree but
-- for token numbers, or one place.
pub record IsDecided {A : Type 0} (g : Grammar A) : Type 0 where
  pub some : (tokens : List Token)
      → ((tree : A) × Reads g tokens tree) ⊎ (((n : ℕ) × SyntaxAt g tokens n) ⊎ ((t : ℕ) × DeepAt g tokens t))
  pub read_not_syntax : (tokens : List Token) (tree : A) (n : ℕ) → Reads g tokens tree → SyntaxAt g tokens n → ⊥
  pub read_not_deep : (tokens : List Token) (tree : A) (t : ℕ) → Reads g tokens tree → DeepAt g tokens t → ⊥
  pub syntax_not_deep : (tokens : List Token) (n t : ℕ) → SyntaxAt g tokens n → DeepAt g tokens t → ⊥
  pub one_tree : (tokens : List Token) (tree other : A) → Reads g tokens tree → Reads g tokens other → g.bare other ≡ g.bare tree
  pub one_syntax : (tokens : List Token) (m n : ℕ) → SyntaxAt g tokens m → SyntaxAt g tokens n → m ≡ n
  pub one_deep : (tokens : List Token) (t u : ℕ) → DeepAt g tokens t → DeepAt g tokens u → t ≡ u
