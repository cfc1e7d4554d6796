use Rattle.std.proofs.Common.{◌≡◌, ◌<◌, not, map, replicate, true, false, IfOk, subst, sym, ap, ◌∙◌}
use Rattle.std.specs.List.{AllByRecursion}
use Rattle.std.proofs.lemmas.Result.{IfOk-weaker}
use Rattle.ep_logic.specs.Numbers.{table}
use Rattle.ep_logic.specs.declared.formula.Node.TheVariants.{True, False, Atom, Not, And, Or, Knows, Common}
use Rattle.ep_truth.specs.Labels.{HasValues, IsLabel, atom_test, knows_test}
use Rattle.ep_truth.specs.FormulaTables.{tree_at, tree_of, truth_row, IsBelow, all_rows_test, any_rows_test}
use Rattle.ep_truth.proofs.LabelLemmas.{table_values, label-True, label-False, label-Atom, label-Not, label-Knows, common_label}
use Rattle.ep_truth.proofs.TableLabelLemmas.{atom_fits, agent_fits, group_fits, fits_at, label_row, rows_long, part_label, part_long, joined_and, joined_or, rows_wide}
use Rattle.ep_truth.proofs.table_labels.label_entry.Goals as goal

pub label_atom-requires : goal.label_atom-requires
label_atom-requires c =
    let s = c.args.s.now in
    let trees = c.args.formulas.now in
    let n = c.args.n in
    let rows = c.args.rows.now in
    let tree : tree_at trees n ≡ Atom c.in-Atom.p = c.entry.ensures.tree ∙ ap (tree_of trees) c.in-Atom.is in
    atom_fits s c.in-Atom.p (fits_at s trees n (Atom c.in-Atom.p) c.requires.fits c.requires.number tree)

pub join_and-requires-clause-long : goal.join_and-requires-clause-long
join_and-requires-clause-long c =
    let s = c.args.s.now in
    let trees = c.args.formulas.now in
    let n = c.args.n in
    let rows = c.args.rows.now in
    rows_wide s trees n rows c.requires.number c.requires.rows c.worlds-worlds.result c.worlds-worlds.ensures.value

pub join_and-requires-clause-numbers : goal.join_and-requires-clause-numbers
join_and-requires-clause-numbers c =
    let s = c.args.s.now in
    let trees = c.args.formulas.now in
    let n = c.args.n in
    let rows = c.args.rows.now in
    let below : AllByRecursion (λ m. m < n) c.in-And.numbers = subst (IsBelow n) c.in-And.is c.entry.ensures.below in
    subst (λ k. AllByRecursion (λ m. m < k) c.as_slice.result.now) (sym (rows_long s trees n rows c.requires.number c.requires.rows))
    (subst (λ ns. AllByRecursion (λ m. m < n) ns) (sym c.as_slice.ensures) below)

pub join_or-requires-clause-long : goal.join_or-requires-clause-long
join_or-requires-clause-long c =
    let s = c.args.s.now in
    let trees = c.args.formulas.now in
    let n = c.args.n in
    let rows = c.args.rows.now in
    rows_wide s trees n rows c.requires.number c.requires.rows c.worlds-worlds.result c.worlds-worlds.ensures.value

pub join_or-requires-clause-numbers : goal.join_or-requires-clause-numbers
join_or-requires-clause-numbers c =
    let s = c.args.s.now in
    let trees = c.args.formulas.now in
    let n = c.args.n in
    let rows = c.args.rows.now in
    let below : AllByRecursion (λ m. m < n) c.in-Or.numbers = subst (IsBelow n) c.in-Or.is c.entry.ensures.below in
    subst (λ k. AllByRecursion (λ m. m < k) c.as_slice-in-Or.result.now) (sym (rows_long s trees n rows c.requires.number c.requires.rows))
    (subst (λ ns. AllByRecursion (λ m. m < n) ns) (sym c.as_slice-in-Or.ensures) below)

pub label_knows-requires-clause-agent : goal.label_knows-requires-clause-agent
label_knows-requires-clause-agent c =
    let s = c.args.s.now in
    let trees = c.args.formulas.now in
    let n = c.args.n in
    let rows = c.args.rows.now in
    let a = c.in-Knows.a in
    let f = tree_at trees c.in-Knows.m in
    let tree : tree_at trees n ≡ Knows a f = c.entry.ensures.tree ∙ ap (tree_of trees) c.in-Knows.is in
    agent_fits s a f (fits_at s trees n (Knows a f) c.requires.fits c.requires.number tree)

pub label_knows-requires-clause-long : goal.label_knows-requires-clause-long
label_knows-requires-clause-long c =
    let s = c.args.s.now in
    let trees = c.args.formulas.now in
    let n = c.args.n in
    let rows = c.args.rows.now in
    let below : c.in-Knows.m < n = subst (IsBelow n) c.in-Knows.is c.entry.ensures.below in
    part_long s trees n rows c.requires.number c.requires.rows c.in-Knows.m c.index-rows-m-in-Knows.result below c.index-rows-m-in-Knows.is

pub label_common-requires-clause-group : goal.label_common-requires-clause-group
label_common-requires-clause-group c =
    let s = c.args.s.now in
    let trees = c.args.formulas.now in
    let n = c.args.n in
    let rows = c.args.rows.now in
    let g = c.in-Common.group in
    let f = tree_at trees c.in-Common.m in
    let tree : tree_at trees n ≡ Common g f = c.entry.ensures.tree ∙ ap (tree_of trees) c.in-Common.is in
    group_fits s g f (fits_at s trees n (Common g f) c.requires.fits c.requires.number tree)

pub label_common-requires-clause-long : goal.label_common-requires-clause-long
label_common-requires-clause-long c =
    let s = c.args.s.now in
    let trees = c.args.formulas.now in
    let n = c.args.n in
    let rows = c.args.rows.now in
    let below : c.in-Common.m < n = subst (IsBelow n) c.in-Common.is c.entry.ensures.below in
    part_long s trees n rows c.requires.number c.requires.rows c.in-Common.m c.index-rows-m-in-Common.result below c.index-rows-m-in-Common.is

pub returns-in-True : goal.returns-in-True
returns-in-True c =
    let s = c.args.s.now in
    let trees = c.args.formulas.now in
    let n = c.args.n in
    let rows = c.args.rows.now in
    let tree : tree_at trees n ≡ True = c.entry.ensures.tree ∙ ap (tree_of trees) c.in-True.is in
    IfOk-weaker c.ones.result _ (λ row. row ≡ truth_row s (tree_at trees n))
    (λ row e. label_row s trees n True row tree (label-True s row (e ∙ ap (λ k. replicate k true) c.worlds-worlds.ensures.value))) c.ones.ensures

pub returns-in-False : goal.returns-in-False
returns-in-False c =
    let s = c.args.s.now in
    let trees = c.args.formulas.now in
    let n = c.args.n in
    let rows = c.args.rows.now in
    let tree : tree_at trees n ≡ False = c.entry.ensures.tree ∙ ap (tree_of trees) c.in-False.is in
    IfOk-weaker c.zeros.result _ (λ row. row ≡ truth_row s (tree_at trees n))
    (λ row e. label_row s trees n False row tree (label-False s row (e ∙ ap (λ k. replicate k false) c.worlds-worlds.ensures.value))) c.zeros.ensures

pub returns-in-Atom : goal.returns-in-Atom
returns-in-Atom c =
    let s = c.args.s.now in
    let trees = c.args.formulas.now in
    let n = c.args.n in
    let rows = c.args.rows.now in
    let p = c.in-Atom.p in
    let tree : tree_at trees n ≡ Atom p = c.entry.ensures.tree ∙ ap (tree_of trees) c.in-Atom.is in
    IfOk-weaker c.label_atom.result (λ row. row ≡ table (atom_test s p.n) s.worlds) (λ row. row ≡ truth_row s (tree_at trees n))
    (λ row e. label_row s trees n (Atom p) row tree (label-Atom s p row (table_values s.worlds (atom_test s p.n) row e))) c.label_atom.ensures

pub returns-in-Not : goal.returns-in-Not
returns-in-Not c =
    let s = c.args.s.now in
    let trees = c.args.formulas.now in
    let n = c.args.n in
    let rows = c.args.rows.now in
    let m = c.in-Not.m in
    let f = tree_at trees m in
    let part = c.index-rows-m.result in
    let tree : tree_at trees n ≡ Not f = c.entry.ensures.tree ∙ ap (tree_of trees) c.in-Not.is in
    let below : m < n = subst (IsBelow n) c.in-Not.is c.entry.ensures.below in
    let had = part_label s trees n rows c.requires.number c.requires.rows m part below c.index-rows-m.is in
    IfOk-weaker c.flipped.result (λ row. row ≡ map not part) (λ row. row ≡ truth_row s (tree_at trees n))
    (λ row e. label_row s trees n (Not f) row tree (label-Not s f part row had e)) c.flipped.ensures

pub returns-in-And : goal.returns-in-And
returns-in-And c =
    let s = c.args.s.now in
    let trees = c.args.formulas.now in
    let n = c.args.n in
    let rows = c.args.rows.now in
    let ns = c.in-And.numbers in
    let tree : tree_at trees n ≡ And (map (tree_at trees) ns) = c.entry.ensures.tree ∙ ap (tree_of trees) c.in-And.is in
    let below : AllByRecursion (λ m. m < n) ns = subst (IsBelow n) c.in-And.is c.entry.ensures.below in
    let values = subst (λ xs. IfOk c.join_and.result (HasValues s.worlds (all_rows_test rows xs))) c.as_slice.ensures
    (subst (λ k. IfOk c.join_and.result (HasValues k (all_rows_test rows c.as_slice.result.now))) c.worlds-worlds.ensures.value c.join_and.ensures) in
    IfOk-weaker c.join_and.result (HasValues s.worlds (all_rows_test rows ns)) (λ row. row ≡ truth_row s (tree_at trees n))
    (λ row t. label_row s trees n (And (map (tree_at trees) ns)) row tree (joined_and s trees n rows c.requires.number c.requires.rows ns row below t)) values

pub returns-in-Or : goal.returns-in-Or
returns-in-Or c =
    let s = c.args.s.now in
    let trees = c.args.formulas.now in
    let n = c.args.n in
    let rows = c.args.rows.now in
    let ns = c.in-Or.numbers in
    let tree : tree_at trees n ≡ Or (map (tree_at trees) ns) = c.entry.ensures.tree ∙ ap (tree_of trees) c.in-Or.is in
    let below : AllByRecursion (λ m. m < n) ns = subst (IsBelow n) c.in-Or.is c.entry.ensures.below in
    let values = subst (λ xs. IfOk c.join_or.result (HasValues s.worlds (any_rows_test rows xs))) c.as_slice-in-Or.ensures
    (subst (λ k. IfOk c.join_or.result (HasValues k (any_rows_test rows c.as_slice-in-Or.result.now))) c.worlds-worlds.ensures.value c.join_or.ensures) in
    IfOk-weaker c.join_or.result (HasValues s.worlds (any_rows_test rows ns)) (λ row. row ≡ truth_row s (tree_at trees n))
    (λ row t. label_row s trees n (Or (map (tree_at trees) ns)) row tree (joined_or s trees n rows c.requires.number c.requires.rows ns row below t)) values

pub returns-in-Knows : goal.returns-in-Knows
returns-in-Knows c =
    let s = c.args.s.now in
    let trees = c.args.formulas.now in
    let n = c.args.n in
    let rows = c.args.rows.now in
    let a = c.in-Knows.a in
    let m = c.in-Knows.m in
    let f = tree_at trees m in
    let part = c.index-rows-m-in-Knows.result in
    let tree : tree_at trees n ≡ Knows a f = c.entry.ensures.tree ∙ ap (tree_of trees) c.in-Knows.is in
    let below : m < n = subst (IsBelow n) c.in-Knows.is c.entry.ensures.below in
    let had = part_label s trees n rows c.requires.number c.requires.rows m part below c.index-rows-m-in-Knows.is in
    IfOk-weaker c.label_knows.result (λ row. row ≡ table (knows_test s a.n part) s.worlds) (λ row. row ≡ truth_row s (tree_at trees n))
    (λ row e. label_row s trees n (Knows a f) row tree (label-Knows s c.worlds-worlds.ensures.valid a f part row had (table_values s.worlds (knows_test s a.n part) row e))) c.label_knows.ensures

pub returns-in-Common : goal.returns-in-Common
returns-in-Common c =
    let s = c.args.s.now in
    let trees = c.args.formulas.now in
    let n = c.args.n in
    let rows = c.args.rows.now in
    let g = c.in-Common.group in
    let m = c.in-Common.m in
    let f = tree_at trees m in
    let part = c.index-rows-m-in-Common.result in
    let tree : tree_at trees n ≡ Common g f = c.entry.ensures.tree ∙ ap (tree_of trees) c.in-Common.is in
    let below : m < n = subst (IsBelow n) c.in-Common.is c.entry.ensures.below in
    let had = part_label s trees n rows c.requires.number c.requires.rows m part below c.index-rows-m-in-Common.is in
    IfOk-weaker c.label_common.result (IsLabel s (Common g f)) (λ row. row ≡ truth_row s (tree_at trees n))
    (λ row t. label_row s trees n (Common g f) row tree t)
    (common_label s c.worlds-worlds.ensures.valid g f part had c.label_common.result c.label_common.ensures.long c.label_common.ensures.each)
