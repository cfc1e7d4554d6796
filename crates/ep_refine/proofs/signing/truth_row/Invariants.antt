use Rattle.std.proofs.Common.{◌≡◌, take}
use Rattle.ep_theory.specs.Kripke.{truth_of}
use Rattle.ep_refine.proofs.signing.truth_row.Given as goal

abbrev pub invariant-loop-p : goal.invariant-loop-p
invariant-loop-p l = l.row.items ≡ take l.p (truth_of l.s l.w.n)
