use Rattle.std.proofs.Common.{ap, map, ◌∙◌}
use Rattle.std.proofs.lemmas.Result.{IfOk-weaker}
use Rattle.ep_event.specs.Built.{set_of}
use Rattle.ep_dynamic.specs.Reduction.{reduce}
use Rattle.ep_dynamic.proofs.EventLemmas.{turn_found, turn_not_found}
use Rattle.ep_dynamic.proofs.events.value_by_both.Goals as goal

pub returns-then-set-p : goal.returns-then-set-p
returns-then-set-p c = IfOk-weaker c.reduced.result _ _ (λ v h.
    h ∙ ap (reduce c.args.a.now c.args.at.0) c.node.ensures.value
    ∙ turn_found c.args.a.now c.args.b.now c.args.at.0 c.args.at.1 c.args.p c.as_slice-set-items.result.now c.loop-set.set-index c.set-item.result
    (ap (map set_of) c.as_slice-set-items.ensures ∙ c.sets.ensures.value) c.loop-set.invariant c.loop-set-test.true c.set-item.is c.if-set-p.true) c.reduced.ensures

pub returns : goal.returns
returns c = IfOk-weaker c.value_before.result _ _ (λ v h.
    h ∙ turn_not_found c.args.a.now c.args.b.now c.args.at.0 c.args.at.1 c.args.p c.as_slice-set-items.result.now c.loop-set.set-index
    (ap (map set_of) c.as_slice-set-items.ensures ∙ c.sets.ensures.value) c.loop-set.invariant c.loop-set-test.false) c.value_before.ensures
