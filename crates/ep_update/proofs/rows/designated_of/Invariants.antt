use Rattle.std.proofs.Common.{◌≡◌}
use Rattle.ep_logic.specs.Numbers.{numbers_where}
use Rattle.ep_theory.specs.Product.{place_at, is_designated}
use Rattle.ep_update.proofs.rows.designated_of.Given as goal

abbrev pub invariant-loop-i : goal.invariant-loop-i
invariant-loop-i l = l.designated ≡ numbers_where (λ i. is_designated l.s l.a (place_at l.s l.a i)) l.i
