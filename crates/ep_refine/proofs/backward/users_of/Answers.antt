use Rattle.std.proofs.Common.{subst, arith}
use Rattle.ep_refine.specs.Backward.{Users}
use Rattle.ep_refine.proofs.BackwardLemmas.{users_more}
use Rattle.ep_refine.proofs.backward.users_of.Goals as goal

pub loop-w-preserved : goal.loop-w-preserved
loop-w-preserved c = users_more c.args.names.now c.args.count c.loop-w.w c.loop-w.users c.add.new.self c.loop-w.invariant c.loop-w-test.true c.requires.within c.in_ok-add.ensures.ok

pub returns : goal.returns
returns c = let t = c.loop-w-test.false in let e = c.loop-w.auto.w-end in subst (λ i. Users c.args.names.now c.args.count i c.loop-w.users) (omega (arith, t, e)) c.loop-w.invariant
