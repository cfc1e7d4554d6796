use Rattle.std.proofs.Common.{◌≡◌, length}
use Rattle.ep_logic.specs.Numbers.{numbers_where, table}
use Rattle.ep_initial.specs.Seeing.{alike}
use Rattle.ep_initial.proofs.seeing.find_alike_rows.Given as goal

abbrev pub invariant-loop-row : goal.invariant-loop-row
invariant-loop-row l = l.links ≡ table (λ v. numbers_where (alike l.rows l.atoms v) (length l.rows)) l.row-index
