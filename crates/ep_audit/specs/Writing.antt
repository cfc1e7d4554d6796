-- Certificates as they are written, line by line.
use Rattle.std.specs.Prelude.{ℕ, List, ◌++◌}
use Rattle.ep_audit.specs.NamedTasks.{NamedTask}
use Rattle.ep_audit.specs.Certificates.{Keeps}
use Rattle.ep_audit.specs.declared.progress.Progress.{Progress}

-- the text is n lines that keep their rules, whatever comes behind them
abbrev pub Wrote : NamedTask → List ℕ → ℕ → Progress → Type 0
Wrote T text n told = (rest : List ℕ) → Keeps T (text ++ rest) n told rest
