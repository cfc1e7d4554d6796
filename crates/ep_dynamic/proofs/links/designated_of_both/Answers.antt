use Rattle.std.proofs.Common.{◌≡◌, ◌∙◌, ◌+◌, length, sym, ap, subst, arith}
use Rattle.ep_theory.specs.Rising.{IsIn}
use Rattle.ep_dynamic.specs.Composition.{event_pairs}
use Rattle.ep_dynamic.proofs.EventLemmas.{pair_events}
use Rattle.ep_dynamic.proofs.LinkLemmas.{Marks, marks_more, marks_same, at_place, from_place, clash}
use Rattle.ep_dynamic.proofs.links.designated_of_both.Goals as goal
use Rattle.ep_dynamic.proofs.links.designated_of_both.Goals.{then-are_designated+in_ok-push, else-are_designated}

pub are_designated-requires : goal.are_designated-requires
are_designated-requires c = pair_events c.args.a.now c.args.b.now c.args.pairs.now c.loop-k.k c.requires.pairs c.loop-k-test.true

pub loop-k-preserved : goal.loop-k-preserved
loop-k-preserved c =
    let A = c.args.a.now in
    let B = c.args.b.now in
    let ps = c.args.pairs.now in
    let k = c.loop-k.k in
    elim c.if-are_designated.branch [
      | then-are_designated+in_ok-push w ↦
          let both = c.are_designated.ensures.0 w.if-are_designated.true in
          marks_more A B k c.loop-k.ids c.if-are_designated.ids c.loop-k.invariant
          (at_place (λ x y. IsIn x.0 A.designated) A B ps k k c.requires.pairs both.0)
          (at_place (λ x y. IsIn x.1 B.designated) A B ps k k c.requires.pairs both.1) (w.ids-is ∙ w.in_ok-push.ensures.ok)
      | else-are_designated w ↦ subst (Marks A B (k + 1)) (sym w.ids-is) (marks_same A B k c.loop-k.ids c.loop-k.invariant (λ r. clash c.are_designated.result w.if-are_designated.false (c.are_designated.ensures.1 (
        from_place (λ x y. IsIn x.0 A.designated) A B ps k k c.requires.pairs r.0,
        from_place (λ x y. IsIn x.1 B.designated) A B ps k k c.requires.pairs r.1,
      ))))
    ]

pub returns : goal.returns
returns c =
    let all : c.loop-k.k ≡ length (event_pairs c.args.a.now c.args.b.now) = omega (arith, c.loop-k.auto.k-end, c.loop-k-test.false, ap length c.requires.pairs) in
    subst (λ n. Marks c.args.a.now c.args.b.now n c.loop-k.ids) all c.loop-k.invariant
