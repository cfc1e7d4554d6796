use Rattle.std.proofs.Common.{◌≡◌, ◌∙◌, ◌∷◌, [], ap, arith, get_or, length, refl, sym, add-one, append-nil, append_assoc, ℕ, List}
use Rattle.std.proofs.lemmas.Bool.{le-leb}
use Rattle.ep_logic.specs.Numbers.{has_pair, numbers_where}
use Rattle.ep_theory.specs.Events.{event_links}
use Rattle.ep_update.specs.Places.{is_linked_from}
use Rattle.ep_update.proofs.PlaceLemmas.{no_block}
use Rattle.ep_update.proofs.RowLemmas.{place_in}
use Rattle.ep_update.proofs.blocks.add_block.Goals as goal
use Rattle.ep_update.proofs.blocks.add_block.Goals.{then-leads_to+in_ok-push, else-leads_to}

pub leads_to-requires-clause-other : goal.leads_to-requires-clause-other
leads_to-requires-clause-other c = (place_in c.args.product.now.state.now c.args.product.now.action.now c.as_slice-list.result.now c.loop-k.k (c.as_slice-list.ensures.value ∙ c.requires.places.list)
    (omega (arith, c.loop-k-test.true, c.requires.within, ap length c.as_slice-list.ensures.value))).1

pub loop-k-init : goal.loop-k-init
loop-k-init c = rw (no_block c.args.from c.args.product.now.action.now c.args.product.now.agent c.args.e c.args.product.now.found.now.list.items, append-nil) refl

pub loop-k-preserved : goal.loop-k-preserved
loop-k-preserved c =
    let before : List ℕ = numbers_where (is_linked_from c.args.from c.args.product.now.action.now c.args.product.now.agent c.args.e c.args.product.now.found.now.list.items) c.loop-k.k in
    let passes : is_linked_from c.args.from c.args.product.now.action.now c.args.product.now.agent c.args.e c.args.product.now.found.now.list.items c.loop-k.k ≡ c.leads_to.result =
    rw (le-leb c.args.from c.loop-k.k c.loop-k.auto.k)
    (ap (λ (xs : List (ℕ × ℕ)). has_pair (event_links c.args.product.now.action.now c.args.product.now.agent) c.args.e (get_or xs c.loop-k.k (0, 0)).1) (sym c.as_slice-list.ensures.value) ∙ sym c.leads_to.ensures) in
    rw add-one (elim c.if-leads_to.branch [
      | then-leads_to+in_ok-push w ↦ rw (w.row-is, w.in_ok-push.ensures.items, c.loop-k.invariant, passes, w.if-leads_to.true) (append_assoc c.args.row.now.items (numbers_where (is_linked_from c.args.from c.args.product.now.action.now c.args.product.now.agent c.args.e c.args.product.now.found.now.list.items) c.loop-k.k) (c.loop-k.k ∷ []))
      | else-leads_to w ↦ rw (w.row-is, c.loop-k.invariant, passes, w.if-leads_to.false, append-nil) refl
    ])
