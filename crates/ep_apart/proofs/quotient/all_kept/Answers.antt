use Rattle.std.proofs.Common.{true, false, replicate, sym, ◌∙◌, arith}
use Rattle.std.proofs.Math.ListN.{length-replicate}
use Rattle.ep_theory.proofs.CallerLemmas.{same_places}
use Rattle.ep_apart.proofs.ClassLemmas.{all_true}
use Rattle.ep_apart.proofs.quotient.all_kept.Goals as goal

pub returns : goal.returns
returns c =
    let long = c.loop-w.invariant.long in
    same_places false c.loop-w.row (replicate c.args.count true) (long ∙ sym (length-replicate c.args.count true))
    (λ v l. c.loop-w.invariant.set v (let t = c.loop-w-test.false in omega (arith, l, t, long)) ∙ sym (all_true c.args.count v (omega (arith, l, long))))
