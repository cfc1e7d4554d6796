use Rattle.std.proofs.Common.{take}
use Rattle.ep_truth.specs.Labels.{HasValues}
use Rattle.ep_truth.specs.FormulaTables.{all_rows_test}
use Rattle.ep_truth.proofs.table_labels.join_and.Given as goal

abbrev pub invariant-loop-n : goal.invariant-loop-n
invariant-loop-n l = HasValues l.worlds (all_rows_test l.rows (take l.n-index l.numbers)) l.joined
