use Rattle.std.proofs.Common.{◌≡◌, ◌≤◌, [], ◌∷◌, ◌++◌, length, subst, sym, ap, ◌∙◌, refl, arith}
use Rattle.ep_truth.specs.FormulaTables.{tree_of, tree_at, trees_of, AreOrdered, KeepsTrees, StayFit}
use Rattle.ep_truth.specs.declared.formula_table.TheConstants.{MOST_TREES}
use Rattle.ep_truth.proofs.FormulaTableLemmas.{entries_long, more_ordered, more_kept, more_fit, more_long, last_tree}
use Rattle.ep_truth.proofs.formula_table.FormulaTable.number_of.Goals as goal

pub invariant_of-self-2 : goal.invariant_of-self-2
invariant_of-self-2 c =
    let es = c.self.inside.entries in
    let e = c.args.entry in
    let old = c.args.self.now in
    let pushed : c.push.new.self ≡ es ++ e ∷ [] = c.in_ok-push.ensures.ok in
    subst (λ xs. AreOrdered 0 xs × (length xs ≤ MOST_TREES)) (sym pushed) (
      more_ordered es e old c.self.view_is c.self.invariant.0 c.requires.below,
      omega (arith, c.requires.room, more_long es e old c.self.view_is, entries_long (es ++ e ∷ []) (trees_of (es ++ e ∷ [])) refl),
    )

pub returns-clause-number : goal.returns-clause-number
returns-clause-number c =
    let es = c.self.inside.entries in
    let e = c.args.entry in
    let old = c.args.self.now in
    let pushed : c.push.new.self ≡ es ++ e ∷ [] = c.in_ok-push.ensures.ok in
    omega (arith, c.len-n.ensures.value, ap (λ xs. length (trees_of xs)) pushed, more_long es e old c.self.view_is)

pub returns-clause-tree : goal.returns-clause-tree
returns-clause-tree c =
    let es = c.self.inside.entries in
    let e = c.args.entry in
    let old = c.args.self.now in
    let n = c.len-n.result in
    let pushed : c.push.new.self ≡ es ++ e ∷ [] = c.in_ok-push.ensures.ok in
    ap (λ xs. tree_at (trees_of xs) n) pushed ∙ last_tree es e old c.self.view_is n c.len-n.ensures.value

pub returns-clause-earlier : goal.returns-clause-earlier
returns-clause-earlier c =
    let es = c.self.inside.entries in
    let e = c.args.entry in
    let old = c.args.self.now in
    let pushed : c.push.new.self ≡ es ++ e ∷ [] = c.in_ok-push.ensures.ok in
    subst (λ xs. KeepsTrees old (trees_of xs)) (sym pushed) (more_kept es e old c.self.view_is)

pub returns-clause-few : goal.returns-clause-few
returns-clause-few c =
    let es = c.self.inside.entries in
    let e = c.args.entry in
    let old = c.args.self.now in
    let pushed : c.push.new.self ≡ es ++ e ∷ [] = c.in_ok-push.ensures.ok in
    omega (arith, ap (λ xs. length (trees_of xs)) pushed, more_long es e old c.self.view_is)

pub returns-clause-fit : goal.returns-clause-fit
returns-clause-fit c =
    let es = c.self.inside.entries in
    let e = c.args.entry in
    let old = c.args.self.now in
    let pushed : c.push.new.self ≡ es ++ e ∷ [] = c.in_ok-push.ensures.ok in
    subst (λ xs. StayFit old (tree_of old e) (trees_of xs)) (sym pushed) (more_fit es e old c.self.view_is)
