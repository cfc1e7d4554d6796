use Rattle.std.proofs.Common.{◌≡◌, map, take}
use Rattle.ep_truth.specs.FormulaTables.{truth_row}
use Rattle.ep_truth.proofs.table_labels.label_all.Given as goal

abbrev pub invariant-loop-n : goal.invariant-loop-n
invariant-loop-n l = l.rows ≡ map (truth_row l.s) (take l.n l.formulas)
