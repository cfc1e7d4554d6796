-- Canonical states by their bytes. This project's own.
use Rattle.std.specs.Prelude.{◌≡◌, ℕ, List}
use Rattle.ep_theory.specs.Kripke.{Kripke, IsState}
use Rattle.ep_theory.specs.Canonical.{IsCanonical}
use Rattle.ep_bytes.specs.Bytes.{IsWithin, bytes_of}
use Rattle.ep_bytes.specs.declared.reading.ReadError.{ReadError}
use Rattle.ep_bytes.specs.declared.reading.ReadError.TheVariants.{NoState}
use Rattle.ep_bytes.specs.declared.reading.ReadError.TheVariants as reading
use Rattle.ep_canon.specs.declared.limits.TheConstants.{MOST_CONTRACTED_WORLDS}
use Rattle.ep_canon.specs.declared.error.CanonError.{CanonError}
use Rattle.ep_canon.specs.declared.error.CanonError.TheVariants.{NotCanonical, OutOfMemory}

-- the limits of a canonical state that has bytes
abbrev pub IsSmall : Kripke → Type 0
IsSmall S = IsWithin MOST_CONTRACTED_WORLDS S

-- a canonical state within the limits that has these bytes
pub record HasBytes (bytes : List ℕ) (C : Kripke) : Type 0 where
  pub valid : IsState C
  pub canonical : IsCanonical C
  pub small : IsSmall C
  pub own : bytes_of C ≡ bytes

-- no canonical state within the limits has these bytes, or memory is wanting
abbrev pub IsRefused : List ℕ → CanonError → Type 0
IsRefused bytes NotCanonical = (C : Kripke) → HasBytes bytes C → ⊥
IsRefused bytes OutOfMemory = Unit {0}

-- where no state has the bytes, no canonical one has
abbrev pub refusal_of : ReadError → CanonError
refusal_of NoState = NotCanonical
refusal_of reading.OutOfMemory = OutOfMemory
