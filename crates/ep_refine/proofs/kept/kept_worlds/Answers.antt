use Rattle.std.proofs.Common.{◌∷◌, ◌++◌, [], length, sym, ap, ◌∙◌, arith}
use Rattle.ep_refine.proofs.KeptLemmas.{kept_more, kept_same, kept_few, numbers_more}
use Rattle.ep_refine.proofs.kept.kept_worlds.Goals as goal
use Rattle.ep_refine.proofs.kept.kept_worlds.Goals.{then-get+in_ok-push-2, else-get}

pub overflow_cast-len : goal.overflow_cast-len
overflow_cast-len c =
    let few = kept_few c.args.keep.now c.loop-w.w in
    let long = ap length c.loop-w.invariant.worlds in
    let k = c.loop-w.worlds.ok.0 in
    let e = c.len.ensures in
    let t = c.loop-w-test.true in
    let v = c.worlds-w-end.ensures.value in
    let b = c.worlds-w-end.ensures.bounded.worlds in
    omega (arith, few, long, k, e, t, v, b)

pub loop-w-preserved : goal.loop-w-preserved
loop-w-preserved c =
    let keep = c.args.keep.now in
    record {
      worlds = elim c.if-get.branch [
        | then-get+in_ok-push-2 w ↦ ap (λ v. v.items) w.worlds-is ∙ w.in_ok-push-2.ensures.items ∙ ap (λ l. l ++ c.loop-w.w ∷ []) c.loop-w.invariant.worlds ∙ sym (kept_more keep c.loop-w.w (sym c.get.ensures ∙ w.if-get.true))
        | else-get w ↦ ap (λ v. v.items) w.worlds-is ∙ c.loop-w.invariant.worlds ∙ sym (kept_same keep c.loop-w.w (sym c.get.ensures ∙ w.if-get.false))
      ];
      numbers = numbers_more keep c.loop-w.numbers.items c.push.new.self.items c.len.result c.loop-w.w c.loop-w.invariant.numbers
          (let long = ap length c.loop-w.invariant.worlds in let k = c.loop-w.worlds.ok.0 in let e = c.len.ensures in omega (arith, long, k, e)) c.in_ok-push.ensures.items;
    }
