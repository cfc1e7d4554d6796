-- What a tally says of a reader.
use Rattle.std.specs.Prelude.{◌≡◌, ℕ, ◌+◌, List, length, min}
use Rattle.std.specs.declared.option.Option.{Option}
use Rattle.std.specs.Io.KnownBytes.{Consumes}
use Rattle.ep_base.specs.Counts.{last_count}

-- the reader lost some bytes, and the count rose by their number, or stands at its greatest value
abbrev pub HasTaken : Option (List ℕ) → Option (List ℕ) → ℕ → ℕ → Type 0
HasTaken old new before after = (bytes : List ℕ) × Consumes old new bytes × (after ≡ min (before + length bytes) last_count)
