use Rattle.std.proofs.Common.{◌≡◌, ◌++◌, not, sym, ap, ◌∙◌, List, ℕ}
use Rattle.ep_kripke.specs.Sources.{with_sources, row_at}
use Rattle.ep_refine.proofs.BackwardLemmas.{hold_same, hold_new}
use Rattle.ep_refine.proofs.backward.hold.Goals as goal

pub returns-then-not-get : goal.returns-then-not-get
returns-then-not-get c = hold_same c.args.rows.now c.args.name c.args.left.now c.args.holders.now c.requires.holding (ap not (sym c.get.ensures ∙ c.if-not-get.true))

pub returns : goal.returns
returns c =
    let row : c.deref.result.now ≡ row_at c.args.rows.now c.args.name = c.deref.ensures.value ∙ c.in_ok-put_row.ensures ∙ ap (λ (xs : List ℕ). xs ++ row_at c.args.rows.now c.args.name) c.clear.ensures.items in
    hold_new c.args.rows.now c.args.name c.args.left.now c.set.new.self c.args.holders.now c.add_all.new.self c.requires.holding c.requires.name c.requires.members c.set.ensures
    (c.in_ok-add_all.ensures ∙ ap (with_sources c.args.holders.now c.args.name) row)
