use Rattle.std.proofs.Common.{◌≡◌}
use Rattle.ep_logic.specs.Numbers.{table}
use Rattle.ep_dynamic.specs.Sizes.{join, size_at}
use Rattle.ep_dynamic.proofs.sizes.joined_row.Given as goal

abbrev pub invariant-loop-e : goal.invariant-loop-e
invariant-loop-e l = l.new ≡ table (λ e. join (size_at l.first e) (size_at l.second e)) l.e
