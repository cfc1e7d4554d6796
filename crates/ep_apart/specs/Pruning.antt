-- The lines that a line stands on.
use Rattle.std.specs.Prelude.{◌≡◌, ℕ, ◌<◌, ◌≤◌, ◌⊎◌, Bool, List, length, map, slice_index, slice_index_or, IsTrue}
use Rattle.ep_theory.specs.Rising.{IsIn}
use Rattle.ep_logic.specs.Rows.{value_at}
use Rattle.ep_apart.specs.declared.lines.Line.{Line}
use Rattle.ep_apart.specs.Lines.{formula_of, AreLines}

abbrev pub line_at : List Line → ℕ → Line
line_at lines k = slice_index_or lines k Line.True

-- the line has the number in it
abbrev pub Names : Line → ℕ → Type 0
Names Line.True i = ⊥
Names (Line.Atom p) i = ⊥
Names (Line.Not j) i = i ≡ j
Names (Line.And js) i = IsIn i js
Names (Line.Knows a j) i = i ≡ j

abbrev pub renumber : (ℕ → ℕ) → Line → Line
renumber f Line.True = Line.True
renumber f (Line.Atom p) = Line.Atom p
renumber f (Line.Not i) = Line.Not (f i)
renumber f (Line.And is) = Line.And (map f is)
renumber f (Line.Knows a i) = Line.Knows a (f i)

-- each line has only numbers of earlier lines
abbrev pub NameEarlier : List Line → Type 0
NameEarlier lines = (k i : ℕ) → k < length lines → Names (line_at lines k) i → i < k

-- the numbers in the line are marked besides
pub record MarksNames (line : Line) (old new : List Bool) : Type 0 where
  pub long : length new ≡ length old
  pub keeps : (i : ℕ) → IsTrue (value_at old i) → IsTrue (value_at new i)
  pub marks : (i : ℕ) → Names line i → IsTrue (value_at new i)
  pub only : (i : ℕ) → IsTrue (value_at new i) → IsTrue (value_at old i) ⊎ Names line i

-- marked are the numbers in line r, and those in each marked line from k on that comes before it
pub record IsClosedFrom (lines : List Line) (r k : ℕ) (needed : List Bool) : Type 0 where
  pub long : length needed ≡ length lines
  pub last : (i : ℕ) → Names (line_at lines r) i → IsTrue (value_at needed i)
  pub each : (j i : ℕ) → k ≤ j → j < r → IsTrue (value_at needed j) → Names (line_at lines j) i → IsTrue (value_at needed i)

-- the marked lines below k are kept, under new numbers, and say what they said
pub record KeptSoFar (lines : List Line) (needed : List Bool) (numbers : List ℕ) (kept : List Line) (k : ℕ) : Type 0 where
  pub long : length numbers ≡ k
  pub within : (i : ℕ) → i < k → IsTrue (value_at needed i) → slice_index numbers i < length kept
  pub formulas : (i : ℕ) → i < k → IsTrue (value_at needed i) → formula_of kept (slice_index numbers i) ≡ formula_of lines i
  pub few : length kept ≤ k
  pub proper : (agents atoms : ℕ) → AreLines agents atoms 0 lines → AreLines agents atoms 0 kept

-- the numbers of the list are marked besides
pub record MarksAll (numbers : List ℕ) (old new : List Bool) : Type 0 where
  pub long : length new ≡ length old
  pub keeps : (i : ℕ) → IsTrue (value_at old i) → IsTrue (value_at new i)
  pub marks : (i : ℕ) → IsIn i numbers → IsTrue (value_at new i)
  pub only : (i : ℕ) → IsTrue (value_at new i) → IsTrue (value_at old i) ⊎ IsIn i numbers
