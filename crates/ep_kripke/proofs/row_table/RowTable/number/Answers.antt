use Rattle.std.proofs.Common.{◌≡◌, ◌++◌, ◌∷◌, [], Some, slice_get, sym, subst, ap, ◌∙◌}
use Rattle.ep_kripke.proofs.RowTableLemmas.{in_rows, at_push_new}
use Rattle.ep_kripke.proofs.row_table.RowTable.number.Goals as goal

pub returns-in-Some-clause-new : goal.returns-in-Some-clause-new
returns-in-Some-clause-new c = λ h. absurd (h (in_rows c.args.self.now c.in-Some.n c.args.row.now c.in-Some.ensures.place))

pub returns-clause-place : goal.returns-clause-place
returns-clause-place c =
    subst (λ rows. slice_get rows c.len-n.result ≡ Some c.args.row.now) (sym c.in_ok-put.ensures.ok)
    (ap (slice_get (c.args.self.now ++ c.args.row.now ∷ [])) c.len-n.ensures.value ∙ at_push_new c.args.self.now c.args.row.now)
