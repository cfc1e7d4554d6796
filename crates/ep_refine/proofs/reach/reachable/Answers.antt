use Rattle.std.proofs.Common.{arith}
use Rattle.ep_refine.proofs.ReachLemmas.{searches_from, searches_step, searches_end, marked_within, last_todo, empty_todo}
use Rattle.ep_refine.proofs.reach.reachable.Goals as goal

pub loop-w-init : goal.loop-w-init
loop-w-init c = searches_from c.args.s.now c.worlds.result c.designated.result.now c.in_ok-marked.marked c.mark.new.marked c.new-waiting.result.items c.mark.new.waiting.items
    c.worlds.ensures.value c.designated.ensures.value c.in_ok-marked.ensures c.new-waiting.ensures.items c.in_ok-mark.ensures

pub mark_targets-requires-clause-world : goal.mark_targets-requires-clause-world
mark_targets-requires-clause-world c =
    let b = marked_within c.loop-w.marked c.in-Some.w (c.loop-w.invariant.todo_marked c.in-Some.w (last_todo c.in-Some.w c.loop-w.waiting.items c.pop.new.self.items c.in-Some.ensures.items)) in
    let l = c.loop-w.invariant.long in
    omega (arith, b, l)

pub loop-w-preserved : goal.loop-w-preserved
loop-w-preserved c = searches_step c.args.s.now c.loop-w.marked c.mark_targets.new.marked c.loop-w.waiting.items c.pop.new.self.items c.mark_targets.new.waiting.items c.in-Some.w
    c.in-Some.ensures.items c.loop-w.invariant c.in_ok-mark_targets.ensures

pub returns-clause-reached : goal.returns-clause-reached
returns-clause-reached c = λ w b. searches_end c.args.s.now c.loop-w.marked c.loop-w.waiting.items
    (empty_todo c.loop-w.waiting.items (let k = c.loop-w.waiting.ok.0 in let z = c.in_default.ensures.cases.0 in omega (arith, k, z))) c.loop-w.invariant w
