use Rattle.std.proofs.Common.{length, slice_index, ap₂, sym, subst, ◌∙◌, arith}
use Rattle.ep_refine.specs.Blocks.{AreBlocks, target_of}
use Rattle.ep_refine.proofs.GatherLemmas.{has_room, start_is, end_is, target_from, target_to, gathered_more}
use Rattle.ep_refine.proofs.blocks.gather.Goals as goal

pub target-p-requires : goal.target-p-requires
target-p-requires c = has_room (length c.args.b.now.order.items) c.args.b.now c.loop-i.b c.args.worlds.now c.args.front c.loop-i.i c.start-from.result c.end-to.result
    c.loop-i.invariant.valid c.loop-i.invariant.ranks c.loop-i.invariant.starts c.loop-i.invariant.ends c.requires.one c.loop-i-test.true c.start-from.ensures c.end-to.ensures c.loop-i.invariant.gathered

pub put-requires-clause-from : goal.put-requires-clause-from
put-requires-clause-from c =
    let n = length c.args.b.now.order.items in
    let ws = c.args.worlds.now in
    let l = c.loop-i in
    let room = has_room n c.args.b.now l.b ws c.args.front l.i c.start-from.result c.end-to.result l.invariant.valid l.invariant.ranks l.invariant.starts l.invariant.ends c.requires.one c.loop-i-test.true c.start-from.ensures c.end-to.ensures l.invariant.gathered in
    let here = start_is n c.args.b.now l.b ws c.args.front l.i c.start-from.result c.end-to.result l.invariant.valid l.invariant.ranks l.invariant.starts l.invariant.ends c.requires.one c.loop-i-test.true c.start-from.ensures c.end-to.ensures l.invariant.gathered in
    let from = target_from c.args.front c.start-from.result c.end-to.result l.i room in
    let e = c.target-p.ensures in
    omega (arith, here, from, e)

pub put-requires-clause-to : goal.put-requires-clause-to
put-requires-clause-to c =
    let n = length c.args.b.now.order.items in
    let ws = c.args.worlds.now in
    let l = c.loop-i in
    let room = has_room n c.args.b.now l.b ws c.args.front l.i c.start-from.result c.end-to.result l.invariant.valid l.invariant.ranks l.invariant.starts l.invariant.ends c.requires.one c.loop-i-test.true c.start-from.ensures c.end-to.ensures l.invariant.gathered in
    let here = end_is n c.args.b.now l.b ws c.args.front l.i c.start-from.result c.end-to.result l.invariant.valid l.invariant.ranks l.invariant.starts l.invariant.ends c.requires.one c.loop-i-test.true c.start-from.ensures c.end-to.ensures l.invariant.gathered in
    let to = target_to c.args.front c.start-from.result c.end-to.result l.i room in
    let e = c.target-p.ensures in
    omega (arith, here, to, e)

pub loop-i-preserved : goal.loop-i-preserved
loop-i-preserved c =
    let n = length c.args.b.now.order.items in
    let ws = c.args.worlds.now in
    let l = c.loop-i in
    let room = has_room n c.args.b.now l.b ws c.args.front l.i c.start-from.result c.end-to.result l.invariant.valid l.invariant.ranks l.invariant.starts l.invariant.ends c.requires.one c.loop-i-test.true c.start-from.ensures c.end-to.ensures l.invariant.gathered in
    record {
      valid = subst (λ m. AreBlocks m c.put.new.b) l.invariant.valid.orders c.put.ensures.valid;
      ranks = c.put.ensures.ranks ∙ l.invariant.ranks;
      starts = c.put.ensures.starts ∙ l.invariant.starts;
      ends = c.put.ensures.ends ∙ l.invariant.ends;
      inside = omega (arith, room);
      gathered = gathered_more n c.args.b.now l.b ws c.args.front l.i c.start-from.result c.end-to.result l.invariant.valid l.invariant.ranks l.invariant.starts l.invariant.ends c.requires.one c.loop-i-test.true c.start-from.ensures c.end-to.ensures l.invariant.gathered
          c.target-p.result c.put.new.b c.target-p.ensures c.put.ensures.here c.put.ensures.others;
    }

pub returns-clause-gathered : goal.returns-clause-gathered
returns-clause-gathered c = λ i l.
    let f = c.start-from.ensures in let t = c.end-to.ensures in
    ap₂ (λ a b. slice_index c.loop-i.b.order.items (target_of c.args.front a b i)) (sym f) (sym t) ∙ c.loop-i.invariant.gathered i (let z = c.loop-i-test.false in omega (arith, z, l))
