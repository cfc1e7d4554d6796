-- Counts that never fall and stay at the greatest u64.
use Rattle.std.specs.Prelude.{ℕ, ◌+◌, ◌-◌, ◌^◌, ◌≤◌, min}

-- the greatest u64, at which a count stays
abbrev pub last_count : ℕ
last_count = 2 ^ 64 - 1

-- one more, or the greatest u64
abbrev pub one_more : ℕ → ℕ
one_more n = min (n + 1) last_count

-- the count rose by more than n, or stands at its greatest value
abbrev pub RoseBeyond : ℕ → ℕ → ℕ → Type 0
RoseBeyond n before after = min (before + (n + 1)) last_count ≤ after

-- the count rose, or stands at its greatest value
abbrev pub Rose : ℕ → ℕ → Type 0
Rose = RoseBeyond 0
