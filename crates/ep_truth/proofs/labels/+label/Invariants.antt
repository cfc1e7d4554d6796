use Rattle.std.proofs.Common.{take}
use Rattle.ep_truth.specs.Labels.{all_test, any_test, HasValues}
use Rattle.ep_truth.proofs.labels.+label.Given as goal

abbrev pub invariant-label_and-loop-i : goal.invariant-label_and-loop-i
invariant-label_and-loop-i l = HasValues l.s.worlds (all_test l.s (take l.i l.parts)) l.row

abbrev pub invariant-label_or-loop-i : goal.invariant-label_or-loop-i
invariant-label_or-loop-i l = HasValues l.s.worlds (any_test l.s (take l.i l.parts)) l.row
