-- What an audit answers.
use Rattle.std.specs.Prelude.{ℕ, List}
use Rattle.ep_audit.specs.NamedTasks.{NamedTask}
use Rattle.ep_audit.specs.Certificates.{Certifies, IsWrongLine}
use Rattle.ep_audit.specs.declared.verdict.Audited.{Audited}
use Rattle.ep_audit.specs.declared.verdict.Audited.TheVariants.{Proves, Wrong}

abbrev pub IsAudited : NamedTask → List ℕ → Audited → Type 0
IsAudited T text (Proves c) = Certifies T text c
IsAudited T text (Wrong l) = IsWrongLine T text l
