use Rattle.std.proofs.Common.{get_or, length, false, arith}
use Rattle.ep_initial.specs.Valuations.{value_of}
use Rattle.ep_logic.proofs.CallerLemmas.{row_is_table}
use Rattle.ep_initial.proofs.rows.row.Goals as goal

pub returns : goal.returns
returns c =
    row_is_table (λ p. value_of c.args.varied.now c.args.valuation.now p (get_or c.args.facts.now p false)) (length c.args.facts.now) c.loop-atom.row c.loop-atom.invariant.long
    (λ i l. c.loop-atom.invariant.told i (omega (arith, l, c.loop-atom-test.false, c.len-atom-end.ensures)))
