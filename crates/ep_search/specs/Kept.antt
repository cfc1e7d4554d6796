-- A count that never falls.
use Rattle.std.specs.Prelude.{◌≡◌, ℕ, ◌⊎◌, ◌≤◌}
use Rattle.ep_base.specs.Counts.{Rose}

-- the count is as before, or it rose; it did not fall
abbrev pub Kept : ℕ → ℕ → Type 0
Kept before after = (before ≡ after) ⊎ (Rose before after × (before ≤ after))
