use Rattle.std.proofs.Common.{[], get_or, length, arith}
use Rattle.std.specs.List.{list_all}
use Rattle.ep_logic.specs.Rows.{value_at}
use Rattle.ep_logic.proofs.CallerLemmas.{row_is_table}
use Rattle.ep_kripke.proofs.row_set.RowSet.all_within.Goals as goal

pub returns : goal.returns
returns c =
    row_is_table (λ i. list_all (value_at c.args.set.now) (get_or c.args.self.now i [])) (length c.args.self.now) c.loop-i.row c.loop-i.invariant.long
    (λ i l. c.loop-i.invariant.told i (omega (arith, l, c.len-i-end.ensures, c.loop-i-test.false, c.requires)))
