use Rattle.std.proofs.Common.{◌≡◌}
use Rattle.std.specs.List.{list_any}
use Rattle.ep_logic.specs.Numbers.{numbers_where}
use Rattle.ep_theory.specs.Product.{applies}
use Rattle.ep_update.proofs.ahead.openings.Given as goal

abbrev pub invariant-loop-w : goal.invariant-loop-w
invariant-loop-w l = l.worlds ≡ numbers_where (λ w. list_any (applies l.s l.a w) l.a.designated) l.w
