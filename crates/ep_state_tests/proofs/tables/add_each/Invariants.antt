use Rattle.std.specs.List.{AllByRecursion}
use Rattle.ep_theory.specs.Fits.{Fits}
use Rattle.ep_state_tests.proofs.tables.add_each.Given as goal

abbrev pub invariant-loop-shape : goal.invariant-loop-shape
invariant-loop-shape g l = AllByRecursion (Fits l.s) l.formulas
