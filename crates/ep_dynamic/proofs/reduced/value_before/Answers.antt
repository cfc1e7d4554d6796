use Rattle.std.proofs.Common.{ap, map, ◌∙◌}
use Rattle.ep_event.specs.Built.{set_of}
use Rattle.ep_dynamic.proofs.EventLemmas.{value_found, value_not_found}
use Rattle.ep_dynamic.proofs.reduced.value_before.Goals as goal

pub returns-then-set-p : goal.returns-then-set-p
returns-then-set-p c =
    c.in_ok-copy.ensures ∙ value_found c.args.a.now c.args.p c.args.e.n c.as_slice-set-items.result.now c.loop-set.set-index c.set-item.result
    (ap (map set_of) c.as_slice-set-items.ensures ∙ c.sets.ensures.value) c.loop-set.invariant c.loop-set-test.true c.set-item.is c.if-set-p.true

pub returns : goal.returns
returns c =
    c.atom.ensures ∙ value_not_found c.args.a.now c.args.p c.args.e.n c.as_slice-set-items.result.now c.loop-set.set-index
    (ap (map set_of) c.as_slice-set-items.ensures ∙ c.sets.ensures.value) c.loop-set.invariant c.loop-set-test.false
