use Rattle.std.proofs.Common.{◌≡◌, ◌+◌, ◌-◌, ◌≤◌, [], length}
use Rattle.ep_audit.specs.Certificates.{Keeps}
use Rattle.ep_audit.specs.declared.progress.DueLine.TheVariants.{Nothing}
use Rattle.ep_audit.proofs.verdict.judge.Given as goal

abbrev pub invariant-lines : goal.invariant-lines
invariant-lines l = record {
  keeps : Keeps l.task l.bytes (l.line - 1) l.told l.rest;
  counted : 1 ≤ l.line;
  long : l.line + length l.rest ≤ length l.bytes + 1;
  last : l.told.due ≡ Nothing → l.rest ≡ [];
}

abbrev pub decreases-lines : goal.decreases-lines
decreases-lines l = length l.rest
