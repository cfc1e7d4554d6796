use Rattle.std.proofs.Common.{◌∙◌, ◌<◌, map, sym, ap, subst}
use Rattle.ep_event.specs.Built.{set_of}
use Rattle.ep_dynamic.specs.Reduction.{reduce}
use Rattle.ep_dynamic.specs.Sizes.{size_of}
use Rattle.ep_dynamic.proofs.EventLemmas.{turn_found, turn_not_found}
use Rattle.ep_dynamic.proofs.GreatestLemmas.{size_in_row, row_long}
use Rattle.ep_dynamic.proofs.greatest.value_size_by_both.Goals as goal

pub bounds-as_slice-at : goal.bounds-as_slice-at
bounds-as_slice-at c = subst (λ n. c.args.at.0 < n) (sym (row_long c.args.a.now c.node.result.now c.as_slice.result.now (c.as_slice.ensures ∙ c.in_ok-row.ensures))) c.requires.first

pub returns-then-set-p : goal.returns-then-set-p
returns-then-set-p c =
    size_in_row c.args.a.now c.node.result.now c.args.at.0 c.as_slice.result.now (c.as_slice.ensures ∙ c.in_ok-row.ensures) c.requires.first
    ∙ ap size_of (ap (reduce c.args.a.now c.args.at.0) c.node.ensures.value
    ∙ turn_found c.args.a.now c.args.b.now c.args.at.0 c.args.at.1 c.args.p c.as_slice-set-items.result.now c.loop-set.set-index c.set-item.result
    (ap (map set_of) c.as_slice-set-items.ensures ∙ c.sets.ensures.value) c.loop-set.invariant c.loop-set-test.true c.set-item.is c.if-set-p.true)

pub returns : goal.returns
returns c =
    c.value_at.ensures
    ∙ ap size_of (turn_not_found c.args.a.now c.args.b.now c.args.at.0 c.args.at.1 c.args.p c.as_slice-set-items.result.now c.loop-set.set-index
    (ap (map set_of) c.as_slice-set-items.ensures ∙ c.sets.ensures.value) c.loop-set.invariant c.loop-set-test.false)
