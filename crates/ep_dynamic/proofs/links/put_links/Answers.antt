use Rattle.std.proofs.Common.{◌≡◌, ◌∙◌, ◌+◌, length, sym, subst, arith}
use Rattle.ep_theory.specs.Rising.{IsIn}
use Rattle.ep_theory.specs.Events.{event_links}
use Rattle.ep_dynamic.proofs.EventLemmas.{pair_events}
use Rattle.ep_dynamic.proofs.LinkLemmas.{Adds, put_more, put_same, at_place, from_place, clash}
use Rattle.ep_dynamic.proofs.links.put_links.Goals as goal
use Rattle.ep_dynamic.proofs.links.put_links.Goals.{then-are_linked+in_ok-push, else-are_linked}

pub are_linked-requires-clause-from : goal.are_linked-requires-clause-from
are_linked-requires-clause-from c = pair_events c.args.a.now c.args.b.now c.args.pairs.now c.args.ends.0 c.requires.pairs c.requires.from

pub are_linked-requires-clause-to : goal.are_linked-requires-clause-to
are_linked-requires-clause-to c = pair_events c.args.a.now c.args.b.now c.args.pairs.now c.args.ends.1 c.requires.pairs c.requires.to

pub loop-n-preserved : goal.loop-n-preserved
loop-n-preserved c =
    let A = c.args.a.now in
    let B = c.args.b.now in
    let ps = c.args.pairs.now in
    let ends = c.args.ends in
    let n = c.loop-n.n in
    elim c.if-are_linked.branch [
      | then-are_linked+in_ok-push w ↦
          let both = c.are_linked.ensures.0 w.if-are_linked.true in
          put_more A B ends n c.args.links.now c.loop-n.links c.if-are_linked.links c.loop-n.invariant
          (at_place (λ x y. IsIn (x.0, y.0) (event_links A n)) A B ps ends.0 ends.1 c.requires.pairs both.0)
          (at_place (λ x y. IsIn (x.1, y.1) (event_links B n)) A B ps ends.0 ends.1 c.requires.pairs both.1) (w.links-is ∙ w.in_ok-push.ensures.ok)
      | else-are_linked w ↦ subst (Adds A B ends (n + 1) c.args.links.now) (sym w.links-is) (put_same A B ends n c.args.links.now c.loop-n.links c.loop-n.invariant (λ r. clash c.are_linked.result w.if-are_linked.false (c.are_linked.ensures.1 (
        from_place (λ x y. IsIn (x.0, y.0) (event_links A n)) A B ps ends.0 ends.1 c.requires.pairs r.0,
        from_place (λ x y. IsIn (x.1, y.1) (event_links B n)) A B ps ends.0 ends.1 c.requires.pairs r.1,
      ))))
    ]

pub returns : goal.returns
returns c =
    let all : c.loop-n.n ≡ length c.args.a.now.links = omega (arith, c.loop-n.auto.n-end, c.loop-n-test.false, c.agents-n-end.ensures.value) in
    subst (λ n. Adds c.args.a.now c.args.b.now c.args.ends n c.args.links.now c.loop-n.links) all c.loop-n.invariant
