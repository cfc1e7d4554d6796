use Rattle.std.proofs.Common.{◌≡◌, ◌<◌, [], true, false, Some, length, sym, ap, ◌∙◌, arith}
use Rattle.ep_ground.proofs.FrameLemmas.{equal_here, tried, unequal_here}
use Rattle.ep_ground.proofs.frames.unequal_in_state.Goals as goal

pub returns-then-not-is_equivalence : goal.returns-then-not-is_equivalence
returns-then-not-is_equivalence c =
    let t = c.loop-n-test.true in
    let v = c.agents-n-end.ensures.value in
    let e = c.loop-n.auto.n-end in
    let r = c.agents-n-end.ensures.valid.relations in let n : c.loop-n.n < length c.args.agents.now = omega (arith, t, v, e, c.requires) in
    let m : c.loop-n.n < length c.args.state.now.links = omega (arith, t, v, e, c.requires, r) in
    let no : c.is_equivalence.result ≡ false = cc (c.if-not-is_equivalence.true) in
    ap Some c.index-agents-n.is
    ∙ sym (unequal_here c.args.agents.now c.args.state.now.worlds c.args.state.now.links c.loop-n.n n m c.index-agents-n.result (tried c.is_equivalence.result c.args.state.now.worlds _ c.is_equivalence.ensures.value ∙ no))
    ∙ c.loop-n.invariant

pub loop-n-preserved : goal.loop-n-preserved
loop-n-preserved c =
    let t = c.loop-n-test.true in
    let v = c.agents-n-end.ensures.value in
    let e = c.loop-n.auto.n-end in
    let r = c.agents-n-end.ensures.valid.relations in let n : c.loop-n.n < length c.args.agents.now = omega (arith, t, v, e, c.requires) in
    let m : c.loop-n.n < length c.args.state.now.links = omega (arith, t, v, e, c.requires, r) in
    let yes : c.is_equivalence.result ≡ true = cc (c.if-not-is_equivalence.false) in
    equal_here c.args.agents.now c.args.state.now.worlds c.args.state.now.links c.loop-n.n n m [] (tried c.is_equivalence.result c.args.state.now.worlds _ c.is_equivalence.ensures.value ∙ yes) ∙ c.loop-n.invariant
