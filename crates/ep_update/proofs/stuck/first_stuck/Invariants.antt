use Rattle.std.proofs.Common.{◌≡◌, take, None, not}
use Rattle.std.specs.List.{find, list_any}
use Rattle.ep_theory.specs.Product.{applies}
use Rattle.ep_update.proofs.stuck.first_stuck.Given as goal

abbrev pub invariant-loop-w : goal.invariant-loop-w
invariant-loop-w l = find (λ w. not (list_any (applies l.s l.a w) l.a.designated)) (take l.w-index l.s.designated) ≡ None
