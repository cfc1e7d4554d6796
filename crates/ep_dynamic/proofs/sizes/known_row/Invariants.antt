use Rattle.std.proofs.Common.{◌≡◌}
use Rattle.ep_logic.specs.Numbers.{table}
use Rattle.ep_dynamic.specs.Sizes.{known_size}
use Rattle.ep_dynamic.proofs.sizes.known_row.Given as goal

abbrev pub invariant-loop-e : goal.invariant-loop-e
invariant-loop-e l = l.new ≡ table (known_size l.a l.g.n l.row) l.e
