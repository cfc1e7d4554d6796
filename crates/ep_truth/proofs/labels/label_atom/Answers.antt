use Rattle.std.proofs.Common.{arith}
use Rattle.ep_logic.proofs.CallerLemmas.{row_is_table}
use Rattle.ep_truth.specs.Labels.{atom_test}
use Rattle.ep_truth.proofs.labels.label_atom.Goals as goal

pub returns : goal.returns
returns c =
    let s = c.args.s.now in
    row_is_table (atom_test s c.args.p.n) s.worlds c.loop-w.row c.loop-w.invariant.long
    (λ w l. c.loop-w.invariant.told w (omega (arith, l, c.loop-w-test.false, c.worlds-w-end.ensures.value)))
