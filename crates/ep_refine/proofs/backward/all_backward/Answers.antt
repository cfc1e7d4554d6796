use Rattle.std.proofs.Common.{◌∷◌, [], length, length-append, ap, ◌∙◌, arith}
use Rattle.ep_refine.proofs.BackwardLemmas.{back_more}
use Rattle.ep_refine.proofs.backward.all_backward.Goals as goal

pub loop-a-preserved : goal.loop-a-preserved
loop-a-preserved c =
    let more = back_more c.args.s.now c.loop-a.all c.push.new.self c.loop-a.a c.in_ok-turned.field-0 c.loop-a.invariant.one_each c.in_ok-push.ensures.ok c.in_ok-turned.ensures.shaped c.in_ok-turned.ensures.back
    (λ a d l. (c.loop-a.invariant.shaped a d l, c.loop-a.invariant.back a d l)) in
    record {
      one_each = let e = ap length c.in_ok-push.ensures.ok ∙ length-append c.loop-a.all (c.in_ok-turned.field-0 ∷ []) in let o = c.loop-a.invariant.one_each in omega (arith, e, o);
      shaped = λ b d l. (more b d l).0;
      back = λ b d l. (more b d l).1;
    }
