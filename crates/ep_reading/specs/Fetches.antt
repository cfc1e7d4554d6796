-- Which files were fetched.
use Rattle.std.specs.Prelude.{◌≡◌, ℕ, List, [], ◌∷◌, ◌++◌, if◌then◌else◌}
use Rattle.std.specs.Str.{bytes_eq}
use Rattle.ep_io.specs.Library.{LibraryState}
use Rattle.ep_reading.specs.PlanFile.{no_plan}

-- all of these files were fetched, each once and in this order, and no other
abbrev pub FetchesAll : List (List ℕ) → LibraryState → LibraryState → Type 0
FetchesAll names old new = new.fetched ≡ old.fetched ++ names

-- the first of these files, some number of them, were fetched, each once and in this order, and no other
pub record Fetches (names : List (List ℕ)) (old new : LibraryState) : Type 0 where
  pub made : List (List ℕ)
  pub left : List (List ℕ)
  pub first : names ≡ made ++ left
  pub fetched : FetchesAll made old new

-- the files that the word of a plan names
abbrev pub plan_files : List ℕ → List (List ℕ)
plan_files word = if bytes_eq word no_plan then [] else word ∷ []
