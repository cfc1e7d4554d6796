-- What lines and their parts show.
use Rattle.std.specs.Prelude.{◌≡◌, ℕ, ◌<◌, ◌≤◌, Bool, List, ◌∷◌, codes, Option, Some, None, ◌++◌, slice_get}
use Rattle.std.specs.Bool.{MatchBool}
use Rattle.std.specs.Fmt.{decimal}
use Rattle.ep_bounds.specs.declared.bounds.TheConstants.{MOST_WORLDS}
use Rattle.ep_theory.specs.Kripke.{Kripke, IsState}
use Rattle.ep_theory.specs.Events.{EventModel}
use Rattle.ep_theory.specs.Product.{IsApplicable, IsStuckAt, product_of}
use Rattle.ep_theory.specs.Maps.{Maps}
use Rattle.ep_bytes.specs.Bytes.{IsWithin}
use Rattle.ep_audit.specs.NamedTasks.{NamedTask}
use Rattle.ep_audit.specs.Certificates.{Takes}
use Rattle.ep_audit.specs.Lines.{map_text, entry_line}
use Rattle.ep_audit.specs.declared.progress.Progress.{Progress}

-- whether the line that is due keeps its rule, and what is told then
abbrev pub IsTaken : NamedTask → Progress → List ℕ → List ℕ → Progress → Bool → Type 0
IsTaken T told line behind next b = MatchBool b (Takes T told line behind next) ((other : Progress) → Takes T told line behind other → ⊥)

-- a number below `most` where there is one
abbrev pub IsBelow : ℕ → Option ℕ → Type 0
IsBelow most None = Unit {0}
IsBelow most (Some v) = v < most

-- the text is that of a map between the states
abbrev pub ShowsMap : Kripke → Kripke → List ℕ → Type 0
ShowsMap S R text = (m : List (Option ℕ)) × (text ≡ map_text m) × Maps S R m

-- the line of an entry at this place
pub record IsEntryLine (place bound : ℕ) (line : List ℕ) (e : Kripke × ℕ) : Type 0 where
  pub is_line : line ≡ entry_line place e
  pub valid : IsState e.0
  pub small : IsWithin MOST_WORLDS e.0
  pub cheap : e.1 ≤ bound

-- the digits are those of a world where the action is stuck
abbrev pub ShowsStuck : Kripke → EventModel → List ℕ → Type 0
ShowsStuck S A digits = (w : ℕ) × (digits ≡ decimal w) × IsStuckAt S A w

-- the product, where the action is applicable
abbrev pub Makes : Kripke → EventModel → Option Kripke → Type 0
Makes S A None = IsApplicable S A → ⊥
Makes S A (Some P) = IsApplicable S A × (P ≡ product_of S A)

-- the text names an entry of at most this weight, and a map of the product to it
pub record ShowsProduct (entries : List (Kripke × ℕ)) (most : ℕ) (S : Kripke) (A : EventModel) (text : List ℕ) : Type 0 where
  pub place : ℕ
  pub map : List (Option ℕ)
  pub is_text : text ≡ decimal place ++ 32 ∷ (codes "map " ++ map_text map)
  pub entry : Kripke × ℕ
  pub at : slice_get entries place ≡ Some entry
  pub cheap : entry.1 ≤ most
  pub applicable : IsApplicable S A
  pub maps : Maps (product_of S A) entry.0 map
