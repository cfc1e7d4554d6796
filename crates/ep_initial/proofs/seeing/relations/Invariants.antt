use Rattle.std.proofs.Common.{◌≡◌}
use Rattle.ep_logic.specs.Numbers.{table}
use Rattle.ep_initial.specs.Seeing.{alike_rows, seen}
use Rattle.ep_initial.proofs.seeing.relations.Given as goal

abbrev pub invariant-loop-n : goal.invariant-loop-n
invariant-loop-n l = l.relations ≡ table (λ a. alike_rows l.rows (seen l.universe.names l.sees a)) l.n
