-- Rows that are kept as bits or as lists.
use Rattle.std.specs.Prelude.{◌≡◌, ℕ, ◌≤◌, ◌*◌, Bool, false, List, [], length, map, replicate}
use Rattle.std.specs.List.{AllByRecursion}
use Rattle.ep_kripke.specs.declared.limits.TheConstants.{MOST_WORLDS}
use Rattle.ep_kripke.specs.declared.row_set.Kept.{Kept}
use Rattle.ep_kripke.specs.declared.row_set.Kept.TheVariants.{Packed, Listed}
use Rattle.ep_kripke.specs.Relations.{members, named_rows, IsNamed}

-- the rows as lists of numbers
abbrev pub kept_rows : Kept → List (List ℕ)
kept_rows (Packed t) = map members t.rows
kept_rows (Listed rows) = rows

-- rows of bits are as wide as there are worlds, and so is the empty row in which one is made
abbrev pub AreWide : ℕ → List Bool → Kept → Type 0
AreWide worlds blank (Packed t) = (t.width ≡ worlds) × (blank ≡ replicate worlds false)
AreWide worlds blank (Listed rows) = blank ≡ []

-- of pairs of a row's number and its length, the numbers
abbrev pub names_of : List (ℕ × ℕ) → List ℕ
names_of pushed = map (λ p. p.0) pushed

-- the rows of the first worlds: for each its number and its length
pub record IsNaming (worlds : ℕ) (kept : Kept) (blank : List Bool) (pushed : List (ℕ × ℕ)) (links : ℕ) : Type 0 where
  pub named : IsNamed (names_of pushed) (kept_rows kept) links
  pub lengths : map (λ p. p.1) pushed ≡ map length (named_rows (names_of pushed) (kept_rows kept))
  pub short : AllByRecursion (λ p. p.1 ≤ MOST_WORLDS) pushed
  pub wide : AreWide worlds blank kept
  pub small : worlds ≤ MOST_WORLDS
  pub few : length (kept_rows kept) ≤ length pushed
  pub room : length pushed ≤ MOST_WORLDS
  pub bound : links ≤ MOST_WORLDS * length pushed
