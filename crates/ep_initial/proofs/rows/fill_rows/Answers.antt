use Rattle.std.proofs.Common.{length, ap, ◌∙◌}
use Rattle.ep_initial.proofs.ValuationLemmas.{long_at}
use Rattle.ep_initial.proofs.rows.fill_rows.Goals as goal

pub row-requires : goal.row-requires
row-requires c =
    ap length c.as_slice.ensures
    ∙ long_at (length c.args.varied.now) c.loop-valuation.valuation-index c.as_slice-valuation-items.result.now c.valuation-item.result
    (c.as_slice-valuation-items.ensures ∙ c.in_ok-valuations.ensures) c.loop-valuation-test.true c.valuation-item.is
