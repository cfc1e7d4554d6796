use Rattle.std.proofs.Common.{◌∙◌, arith}
use Rattle.ep_refine.proofs.ReachLemmas.{first_none, first_more, first_all, targets_within}
use Rattle.ep_refine.proofs.marking.mark_targets.Goals as goal

pub loop-a-init : goal.loop-a-init
loop-a-init c = first_none c.args.s.now c.args.w.n c.args.marked.now c.args.waiting.now.items

pub mark-requires : goal.mark-requires
mark-requires c = λ k d b.
    let within = targets_within c.args.s.now c.in_ok-read_targets.ensures.valid c.args.w.n c.loop-a.a c.deref.result.now (c.deref.ensures.value ∙ c.in_ok-read_targets.ensures.value) k d b in
    let long = c.loop-a.invariant.long in
    let worlds = c.requires.one_each in
    omega (arith, within, long, worlds)

pub loop-a-preserved : goal.loop-a-preserved
loop-a-preserved c = first_more c.args.s.now c.args.w.n c.loop-a.a c.deref.result.now c.args.marked.now c.loop-a.marked c.mark.new.marked c.args.waiting.now.items c.loop-a.waiting.items c.mark.new.waiting.items
    (c.deref.ensures.value ∙ c.in_ok-read_targets.ensures.value) c.loop-a.invariant c.in_ok-mark.ensures

pub returns : goal.returns
returns c = first_all c.args.s.now c.agents-a-end.ensures.valid c.args.w.n c.loop-a.a c.args.marked.now c.loop-a.marked c.args.waiting.now.items c.loop-a.waiting.items
    (let v = c.agents-a-end.ensures.value in let t = c.loop-a-test.false in omega (arith, v, t)) c.loop-a.invariant
