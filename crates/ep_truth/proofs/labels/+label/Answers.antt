use Rattle.std.proofs.Common.{◌≡◌, true, false, replicate, IfOk, rules, arith, sym, ap, ◌∙◌, subst}
use Rattle.std.proofs.lemmas.Result.{IfOk-weaker}
use Rattle.ep_logic.specs.declared.formula.Node.TheVariants.{True, False, Atom, And, Or, Knows}
use Rattle.ep_logic.specs.declared.formula.Node.TheFolds.{the_lemmas}
use Rattle.ep_theory.specs.Fits.{fits_in}
use Rattle.ep_logic.specs.Numbers.{table}
use Rattle.ep_truth.specs.Labels.{IsLabel, atom_test, all_test, any_test, knows_test, HasValues}
use Rattle.ep_truth.proofs.FitLemmas.{fits_in-And, fits_in-Or}
use Rattle.ep_truth.proofs.LabelLemmas.{label-True, label-False, label-Atom, label-Not, label-And, label-Or, label-Knows, table_values, common_label, tells_and, tells_or}
use Rattle.ep_truth.proofs.labels.+label.Goals as goal

pub label_node-label_and-requires : goal.label_node-label_and-requires
label_node-label_and-requires t c =
    let s = c.args.s.now in
    (search (rules, the_lemmas), sym (fits_in-And s.agents s.atoms c.in-And.parts) ∙ ap (fits_in s.agents s.atoms) (sym c.in-And.is) ∙ c.requires)

pub label_node-label_or-requires : goal.label_node-label_or-requires
label_node-label_or-requires t c =
    let s = c.args.s.now in
    (search (rules, the_lemmas), sym (fits_in-Or s.agents s.atoms c.in-Or.parts) ∙ ap (fits_in s.agents s.atoms) (sym c.in-Or.is) ∙ c.requires)

pub label_node-returns-in-True : goal.label_node-returns-in-True
label_node-returns-in-True t c =
    let s = c.args.s.now in
    let n = c.worlds-worlds.ensures.value in
    subst (λ n. IfOk c.ones.result (IsLabel s n)) (sym c.in-True.is)
    (IfOk-weaker c.ones.result _ (IsLabel s True) (λ row h. label-True s row (h ∙ ap (λ n. replicate n true) n)) c.ones.ensures)

pub label_node-returns-in-False : goal.label_node-returns-in-False
label_node-returns-in-False t c =
    let s = c.args.s.now in
    let n = c.worlds-worlds.ensures.value in
    subst (λ n. IfOk c.zeros.result (IsLabel s n)) (sym c.in-False.is)
    (IfOk-weaker c.zeros.result _ (IsLabel s False) (λ row h. label-False s row (h ∙ ap (λ n. replicate n false) n)) c.zeros.ensures)

pub label_node-returns-in-Atom : goal.label_node-returns-in-Atom
label_node-returns-in-Atom t c =
    let s = c.args.s.now in
    let p = c.in-Atom.p in
    subst (λ n. IfOk c.label_atom.result (IsLabel s n)) (sym c.in-Atom.is)
    (IfOk-weaker c.label_atom.result (λ row. row ≡ table (atom_test s p.n) s.worlds) (IsLabel s (Atom p)) (λ row e. label-Atom s p row (table_values s.worlds (atom_test s p.n) row e)) c.label_atom.ensures)

pub label_node-returns-in_ok-row-in-Not : goal.label_node-returns-in_ok-row-in-Not
label_node-returns-in_ok-row-in-Not t c =
    let s = c.args.s.now in
    let f = c.in-Not.inner in
    let row = c.in_ok-row-in-Not.row in
    let had : IsLabel s f row = subst (λ n. IsLabel s n row) c.get.ensures c.in_ok-row-in-Not.ensures in
    subst (λ n. IsLabel s n c.flip.new.self) (sym c.in-Not.is)
    (label-Not s f row c.flip.new.self had c.flip.ensures)

pub label_node-returns-in-And : goal.label_node-returns-in-And
label_node-returns-in-And t c =
    let s = c.args.s.now in
    let fs = c.in-And.parts in
    subst (λ n. IfOk c.label_and.result (IsLabel s n)) (sym c.in-And.is)
    (IfOk-weaker c.label_and.result (HasValues s.worlds (all_test s fs)) (IsLabel s (And fs)) (label-And s fs) c.label_and.ensures)

pub label_node-returns-in-Or : goal.label_node-returns-in-Or
label_node-returns-in-Or t c =
    let s = c.args.s.now in
    let fs = c.in-Or.parts in
    subst (λ n. IfOk c.label_or.result (IsLabel s n)) (sym c.in-Or.is)
    (IfOk-weaker c.label_or.result (HasValues s.worlds (any_test s fs)) (IsLabel s (Or fs)) (label-Or s fs) c.label_or.ensures)

pub label_node-returns-in_ok-row-in-Knows : goal.label_node-returns-in_ok-row-in-Knows
label_node-returns-in_ok-row-in-Knows t c =
    let s = c.args.s.now in
    let a = c.in-Knows.a in
    let f = c.in-Knows.inner in
    let inner = c.in_ok-row-in-Knows.row in
    let had : IsLabel s f inner = subst (λ n. IsLabel s n inner) c.get-in-Knows.ensures c.in_ok-row-in-Knows.ensures in
    subst (λ n. IfOk c.label_knows.result (IsLabel s n)) (sym c.in-Knows.is)
    (IfOk-weaker c.label_knows.result (λ row. row ≡ table (knows_test s a.n inner) s.worlds) (IsLabel s (Knows a f))
    (λ row e. label-Knows s c.worlds-worlds.ensures.valid a f inner row had (table_values s.worlds (knows_test s a.n inner) row e)) c.label_knows.ensures)

pub label_node-returns-in_ok-row-in-Common : goal.label_node-returns-in_ok-row-in-Common
label_node-returns-in_ok-row-in-Common t c =
    let s = c.args.s.now in
    let g = c.in-Common.group in
    let f = c.in-Common.inner in
    let inner = c.in_ok-row-in-Common.row in
    let had : IsLabel s f inner = subst (λ n. IsLabel s n inner) c.get-in-Common.ensures c.in_ok-row-in-Common.ensures in
    subst (λ n. IfOk c.label_common.result (IsLabel s n)) (sym c.in-Common.is)
    (common_label s c.worlds-worlds.ensures.valid g f inner had c.label_common.result c.label_common.ensures.long c.label_common.ensures.each)

pub label_and-loop-i-preserved : goal.label_and-loop-i-preserved
label_and-loop-i-preserved t c =
    let s = c.args.s.now in
    let fs = c.as_slice-parts.result.now in
    let i = c.loop-i.i in
    let d = c.index-parts-i.result in
    let next = c.in_ok-next.next in
    tells_and s fs i d c.loop-i.row next c.and_with.new.self (omega (arith, c.loop-i-test.true)) c.loop-i.invariant
    (subst (λ n. IsLabel s n next) c.index-parts-i.is c.in_ok-next.ensures) c.and_with.ensures

pub label_or-loop-i-preserved : goal.label_or-loop-i-preserved
label_or-loop-i-preserved t c =
    let s = c.args.s.now in
    let fs = c.as_slice-parts.result.now in
    let i = c.loop-i.i in
    let d = c.index-parts-i.result in
    let next = c.in_ok-next.next in
    tells_or s fs i d c.loop-i.row next c.or_with.new.self (omega (arith, c.loop-i-test.true)) c.loop-i.invariant
    (subst (λ n. IsLabel s n next) c.index-parts-i.is c.in_ok-next.ensures) c.or_with.ensures
