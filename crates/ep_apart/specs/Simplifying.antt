-- Lines that say what others say.
use Rattle.std.specs.Prelude.{◌≡◌, ℕ, ◌<◌, ◌≤◌, ◌+◌, ◌↔◌, List, [], ◌++◌, length, slice_index}
use Rattle.ep_logic.specs.declared.formula.Node.{Node}
use Rattle.ep_theory.specs.Kripke.{Kripke, IsState}
use Rattle.ep_theory.specs.Truth.{Truth}
use Rattle.ep_apart.specs.declared.lines.Line.{Line}
use Rattle.ep_apart.specs.Lines.{formula_of, formula_with, formulas_from, IsLine, AreLines, last_line, nesting}
use Rattle.ep_apart.specs.Pruning.{NameEarlier}

-- g is true where f is, in every state, and nests no deeper
pub record Replaces (f g : Node) : Type 0 where
  pub same : (Q : Kripke) → IsState Q → (w : ℕ) → w < Q.worlds → Truth Q w f ↔ Truth Q w g
  pub shallow : nesting g ≤ nesting f

-- line n says what the line says behind the old lines
pub record IsShare (old : List Line) (line : Line) (new : List Line) (n : ℕ) : Type 0 where
  pub within : n < length new
  pub says : Replaces (formula_with (formulas_from [] old) line) (formula_of new n)
  pub more : (ls : List Line) × (new ≡ old ++ ls)
  pub few : length new ≤ length old + 1
  pub earlier : NameEarlier new
  pub proper : (agents atoms : ℕ) → AreLines agents atoms 0 old → IsLine agents atoms (length old) line → AreLines agents atoms 0 new

-- what the lines below k say is said by the shared lines with these numbers
pub record SharedSoFar (lines : List Line) (numbers : List ℕ) (shared : List Line) (k : ℕ) : Type 0 where
  pub long : length numbers ≡ k
  pub within : (i : ℕ) → i < k → slice_index numbers i < length shared
  pub says : (i : ℕ) → i < k → Replaces (formula_of lines i) (formula_of shared (slice_index numbers i))
  pub few : length shared ≤ k
  pub earlier : NameEarlier shared
  pub proper : (agents atoms : ℕ) → AreLines agents atoms 0 lines → AreLines agents atoms 0 shared

-- shared line r says what the last line says
pub record IsShared (lines shared : List Line) (r : ℕ) : Type 0 where
  pub within : r < length shared
  pub says : Replaces (formula_of lines (last_line lines)) (formula_of shared r)
  pub few : length shared ≤ length lines
  pub earlier : NameEarlier shared
  pub proper : (agents atoms : ℕ) → AreLines agents atoms 0 lines → AreLines agents atoms 0 shared

-- the last of the new lines says what the last of the old ones says, and no line is more
pub record IsSimpler (old new : List Line) : Type 0 where
  pub some_line : 0 < length new
  pub says : Replaces (formula_of old (last_line old)) (formula_of new (last_line new))
  pub proper : (agents atoms : ℕ) → AreLines agents atoms 0 old → AreLines agents atoms 0 new
  pub few : length new ≤ length old
