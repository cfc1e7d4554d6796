use Rattle.std.proofs.Common.{◌≡◌, map, take}
use Rattle.ep_theory.specs.Kripke.{truth_of}
use Rattle.ep_refine.proofs.images.truth_table.Given as goal

abbrev pub invariant-loop-w : goal.invariant-loop-w
invariant-loop-w l = l.table ≡ record { width = l.s.atoms; rows = map (truth_of l.s) (take l.w-index l.worlds) }
