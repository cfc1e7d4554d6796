use Rattle.std.proofs.Common.{◌≡◌, map, take}
use Rattle.ep_theory.specs.Product.{truth_after}
use Rattle.ep_update.proofs.truth.truth_table.Given as goal

abbrev pub invariant-loop-at : goal.invariant-loop-at
invariant-loop-at l = l.table ≡ record { width = l.s.atoms; rows = map (truth_after l.s l.a) (take l.at-index l.list) }
