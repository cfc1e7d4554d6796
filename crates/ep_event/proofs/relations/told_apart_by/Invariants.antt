use Rattle.std.proofs.Common.{◌≡◌}
use Rattle.ep_event.specs.Relations.{two_rows}
use Rattle.ep_logic.specs.Numbers.{table}
use Rattle.ep_logic.specs.Rows.{value_at}
use Rattle.ep_event.proofs.relations.told_apart_by.Given as goal

abbrev pub invariant-loop-n : goal.invariant-loop-n
invariant-loop-n l = l.relations ≡ table (λ a. two_rows (value_at l.group a) l.seen) l.n
