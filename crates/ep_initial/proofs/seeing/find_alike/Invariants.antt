use Rattle.std.proofs.Common.{◌≡◌, [], get_or}
use Rattle.ep_logic.specs.Numbers.{numbers_where}
use Rattle.ep_initial.specs.Seeing.{agree}
use Rattle.ep_initial.proofs.seeing.find_alike.Given as goal

abbrev pub invariant-loop-place : goal.invariant-loop-place
invariant-loop-place l = l.places ≡ numbers_where (λ w. agree l.atoms l.row (get_or l.rows w [])) l.place
