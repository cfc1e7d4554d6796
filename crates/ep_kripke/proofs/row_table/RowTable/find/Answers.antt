use Rattle.std.proofs.Common.{◌≡◌, Some, slice_get, subst}
use Rattle.std.specs.Option.{MatchOption}
use Rattle.ep_theory.specs.Rising.{IsIn}
use Rattle.ep_kripke.proofs.RowTableLemmas.{exact}
use Rattle.ep_kripke.proofs.row_table.RowTable.find.Goals as goal

pub returns-clause-place : goal.returns-clause-place
returns-clause-place c =
    let w = c.row.inside.words.value in
    subst (λ rows. MatchOption c.get_index_of.result (IsIn c.args.row.now rows → ⊥) (λ n. slice_get rows n ≡ Some c.args.row.now)) c.self.view_is
    (exact w.items.items w.len c.args.row.now c.row.invariant c.row.view_is c.self.inside.rows.entries c.self.invariant.keyed c.get_index_of.result c.get_index_of.ensures.index c.get_index_of.ensures.found)
