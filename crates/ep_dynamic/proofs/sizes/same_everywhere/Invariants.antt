use Rattle.std.proofs.Common.{◌≡◌}
use Rattle.ep_logic.specs.Numbers.{table}
use Rattle.ep_dynamic.proofs.sizes.same_everywhere.Given as goal

abbrev pub invariant-loop-e : goal.invariant-loop-e
invariant-loop-e l = l.row ≡ table (λ e. l.size) l._e
