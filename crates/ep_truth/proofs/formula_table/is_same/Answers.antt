use Rattle.std.proofs.Common.{sym, ◌∙◌}
use Rattle.ep_truth.proofs.FormulaTableLemmas.{same_common}
use Rattle.ep_truth.proofs.formula_table.is_same.Goals as goal

pub returns-then-eq : goal.returns-then-eq
returns-then-eq c = λ same.
    let w = c.in-Common-Common in
    w.is-0 ∙ same_common w.g w.h w.m w.n (sym c.eq-in-Common-Common.ensures ∙ c.if-eq.true) same ∙ sym w.is-1
