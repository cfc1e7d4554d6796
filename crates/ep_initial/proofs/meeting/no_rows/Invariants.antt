use Rattle.std.proofs.Common.{◌≡◌, []}
use Rattle.ep_logic.specs.Numbers.{table}
use Rattle.ep_initial.proofs.meeting.no_rows.Given as goal

abbrev pub invariant-loop-world : goal.invariant-loop-world
invariant-loop-world l = l.rows ≡ table (λ _. []) l._world
