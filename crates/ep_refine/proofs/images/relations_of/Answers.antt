use Rattle.std.proofs.Common.{◌<◌, length, map, slice_index, arith}
use Rattle.ep_theory.specs.Kripke.{successors}
use Rattle.ep_logic.specs.Rows.{value_at}
use Rattle.ep_refine.specs.Choices.{kept_numbers}
use Rattle.ep_refine.proofs.ImageLemmas.{relations_more}
use Rattle.ep_refine.proofs.images.relations_of.Goals as goal

pub loop-a-preserved : goal.loop-a-preserved
loop-a-preserved c =
    let inside : c.loop-a.a < length c.args.s.now.links = (let v = c.agents-a-end.ensures.value in let r = c.agents-a-end.ensures.valid.relations in let t = c.loop-a-test.true in omega (arith, v, r, t)) in
    relations_more (λ pairs. map (λ w. kept_numbers (value_at c.args.keep.now) (slice_index c.args.numbers.now) (successors pairs w)) c.args.chosen.now) c.args.s.now.links
    c.loop-a.relations c.push.new.self c.in_ok-relation_of.field-0 c.loop-a.a inside c.loop-a.invariant c.in_ok-relation_of.ensures c.in_ok-push.ensures.ok
