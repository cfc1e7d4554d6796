use Rattle.std.proofs.Common.{◌≡◌, take, false}
use Rattle.std.specs.List.{list_any}
use Rattle.ep_theory.specs.Product.{applies}
use Rattle.ep_update.proofs.stuck.goes_on.Given as goal

abbrev pub invariant-loop-e : goal.invariant-loop-e
invariant-loop-e l = list_any (applies l.s l.a l.w) (take l.e-index l.a.designated) ≡ false
