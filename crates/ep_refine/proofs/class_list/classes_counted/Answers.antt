use Rattle.std.proofs.Common.{slice_index, ◌∙◌, arith}
use Rattle.ep_theory.proofs.CallerLemmas.{classes_decide}
use Rattle.ep_refine.proofs.class_list.classes_counted.Goals as goal

pub number-requires : goal.number-requires
number-requires g c =
    let v = c.in_ok-blocks.ensures.valid in
    let r = v.ranked in
    let f = v.few in
    let k = c.in_ok-blocks.blocks.ranks.ok.0 in
    omega (arith, r, f, k)

pub returns-clause-one_each : goal.returns-clause-one_each
returns-clause-one_each g c = c.in_ok-numbers.ensures.ordered.one_each ∙ c.in_ok-blocks.ensures.valid.ranked

pub returns-clause-ordered : goal.returns-clause-ordered
returns-clause-ordered g c = λ w v a b.
    let long = c.in_ok-blocks.ensures.valid.ranked in
    c.in_ok-numbers.ensures.ordered.ordered w v 0 (omega (arith, a, long)) (omega (arith, b, long)) ∙ c.in_ok-blocks.ensures.ordered w v a b

pub returns-clause-bisimilar : goal.returns-clause-bisimilar
returns-clause-bisimilar g c = λ w v a b.
    let long = c.in_ok-blocks.ensures.valid.ranked in
    classes_decide c.args.s.now (slice_index c.in_ok-numbers.field-0.numbers.items) c.refined.ensures.state
    (λ x y d e. c.in_ok-numbers.ensures.ordered.ordered x y 0 (omega (arith, d, long)) (omega (arith, e, long)) ∙ c.in_ok-blocks.ensures.ordered x y d e) w v a b
