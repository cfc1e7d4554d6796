-- The numbers of calls.
use Rattle.std.specs.Prelude.{ℕ, ◌-◌, ◌^◌, min}

-- the number of the next call after so many, which stays at the greatest u32
abbrev pub call_number : ℕ → ℕ
call_number calls = min calls (2 ^ 32 - 1)
