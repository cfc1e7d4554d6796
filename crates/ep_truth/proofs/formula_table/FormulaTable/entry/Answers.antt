use Rattle.std.proofs.Common.{◌≡◌, length, get_or, subst, sym, ap, ◌∙◌, arith}
use Rattle.ep_truth.specs.FormulaTables.{tree_at, tree_of, trees_of, IsBelow}
use Rattle.ep_truth.proofs.FormulaTableLemmas.{entries_long, entry_at}
use Rattle.ep_truth.proofs.formula_table.FormulaTable.entry.Goals as goal

pub bounds-entries-n : goal.bounds-entries-n
bounds-entries-n c =
    let es = c.self.inside.entries in
    omega (arith, c.requires, ap length c.as_slice-entries.ensures, entries_long es c.args.self.now c.self.view_is)

pub returns-clause-below : goal.returns-clause-below
returns-clause-below c =
    let es = c.self.inside.entries in
    let n = c.args.n in
    let e = c.index-entries-n.result in
    let item : e ≡ get_or es n e = c.index-entries-n.is ∙ ap (λ xs. get_or xs n e) c.as_slice-entries.ensures in
    subst (IsBelow n) (sym item) (entry_at es n e c.self.invariant.0 (omega (arith, c.requires, entries_long es c.args.self.now c.self.view_is))).0

pub returns-clause-tree : goal.returns-clause-tree
returns-clause-tree c =
    let es = c.self.inside.entries in
    let n = c.args.n in
    let e = c.index-entries-n.result in
    let item : e ≡ get_or es n e = c.index-entries-n.is ∙ ap (λ xs. get_or xs n e) c.as_slice-entries.ensures in
    subst (λ ts. tree_at ts n ≡ tree_of ts e) c.self.view_is
    (subst (λ x. tree_at (trees_of es) n ≡ tree_of (trees_of es) x) (sym item) (entry_at es n e c.self.invariant.0 (omega (arith, c.requires, entries_long es c.args.self.now c.self.view_is))).1)
