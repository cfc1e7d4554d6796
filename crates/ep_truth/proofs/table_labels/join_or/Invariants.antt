use Rattle.std.proofs.Common.{take}
use Rattle.ep_truth.specs.Labels.{HasValues}
use Rattle.ep_truth.specs.FormulaTables.{any_rows_test}
use Rattle.ep_truth.proofs.table_labels.join_or.Given as goal

abbrev pub invariant-loop-n : goal.invariant-loop-n
invariant-loop-n l = HasValues l.worlds (any_rows_test l.rows (take l.n-index l.numbers)) l.joined
