use Rattle.std.proofs.Common.{ap, sym, ◌∙◌, take}
use Rattle.ep_types.specs.Places.{scope}
use Rattle.ep_types.specs.Uses.{equality_uses, formulas_uses}
use Rattle.ep_types.proofs.Formulas.{uses-And, uses-Equal, uses-Or, judged_as, out_of_force}
use Rattle.ep_types.proofs.formula.+formula.Goals as goal

pub check_formula_in-returns-in-And-clause-judged : goal.check_formula_in-returns-in-And-clause-judged
check_formula_in-returns-in-And-clause-judged t c =
    let s = scope c.args.names.now c.args.frame.now in
    judged_as c.args.tree.now (formulas_uses c.as_slice-in-And.result.now s) s _ c.check_formulas.result c.in-And.is
    (uses-And c.in-And.token c.in-And.parts s ∙ ap (λ z. formulas_uses z s) (sym c.as_slice-in-And.ensures)) c.check_formulas.ensures.judged

pub check_formula_in-returns-in-Or-clause-judged : goal.check_formula_in-returns-in-Or-clause-judged
check_formula_in-returns-in-Or-clause-judged t c =
    let s = scope c.args.names.now c.args.frame.now in
    judged_as c.args.tree.now (formulas_uses c.as_slice-in-Or.result.now s) s _ c.check_formulas-in-Or.result c.in-Or.is
    (uses-Or c.in-Or.token c.in-Or.parts s ∙ ap (λ z. formulas_uses z s) (sym c.as_slice-in-Or.ensures)) c.check_formulas-in-Or.ensures.judged

pub check_formula_in-returns-in-Equal-clause-judged : goal.check_formula_in-returns-in-Equal-clause-judged
check_formula_in-returns-in-Equal-clause-judged t c =
    let s = scope c.args.names.now c.args.frame.now in
    judged_as c.args.tree.now (equality_uses c.in-Equal.left c.in-Equal.right s) s _ c.check_sides.result c.in-Equal.is (uses-Equal c.in-Equal.token c.in-Equal.left c.in-Equal.right s) c.check_sides.ensures

pub check_quantified-returns-clause-kept : goal.check_quantified-returns-clause-kept
check_quantified-returns-clause-kept t c =
    (λ i. record { params = c.truncate.ensures i; knowledge = c.check_formula_in.new.frame.knowledge })
    ∙ (λ i. record { params = take (c.len-before.ensures i) c.check_formula_in.new.frame.params; knowledge = c.check_formula_in.new.frame.knowledge })
    ∙ out_of_force c.args.names.now c.args.frame.now c.check_formula_in.new.frame c.args.params.now
    (ap (scope c.args.names.now) (c.in_ok-check_formula_in.ensures.kept) ∙ c.in_ok-bring_into_force.ensures.in_force)
