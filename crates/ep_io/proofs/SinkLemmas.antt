-- When a put fails.
use Rattle.std.proofs.Common.{◌≡◌, ◌⊎◌, inl, inr, ℕ, ◌≤◌, ◌<◌, List, Bool, true, false, Option, None, Some, IsSome, arith, sym, ap, ◌∙◌}
use Rattle.std.specs.Bool.{◌==◌}
use Rattle.std.specs.List.{find}
use Rattle.std.specs.Option.{is_some, option_map}
use Rattle.ep_io.specs.declared.memory_sink.SinkFault.{SinkFault}

abbrev pub kept_in : List SinkFault → ℕ → Option ℕ
kept_in faults number = option_map (λ f. f.kept) (find (λ f. f.call == number) faults)

-- whether there is a fault shows in the one that was found
pub fault_here : (kept : Option ℕ) (faults failing : List SinkFault) (number call : ℕ) (b : Bool) → kept ≡ kept_in faults number → faults ≡ failing → number ≡ call
    → is_some kept ≡ b → is_some (kept_in failing call) ≡ b
fault_here kept faults failing number call b is all here some = rw (← all, ← here) (ap is_some (sym is) ∙ some)

pub no_failure : (o : Option ℕ) (room count : ℕ) → is_some o ≡ false → count ≤ room → IsSome o ⊎ (room < count) → ⊥
no_failure None room count n l (inl h) = absurd (cc h)
no_failure None room count n l (inr h) = absurd (omega arith)
no_failure (Some k) room count n l h = absurd (cc n)

pub has_fault : (o : Option ℕ) → is_some o ≡ true → IsSome o
has_fault None n = absurd (cc n)
has_fault (Some k) n = λ _. true
