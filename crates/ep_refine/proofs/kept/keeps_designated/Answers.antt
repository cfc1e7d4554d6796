use Rattle.std.proofs.Common.{refl, sym, ap, length, arith}
use Rattle.std.proofs.lemmas.Bool.{false≢true}
use Rattle.ep_refine.proofs.KeptLemmas.{some_kept, none_kept}
use Rattle.ep_refine.proofs.kept.keeps_designated.Goals as goal

pub returns-then-get : goal.returns-then-get
returns-then-get c = (
  λ _. some_kept c.args.s.now c.args.keep.now c.designated-w-items.result.now c.loop-w.w-index c.designated-w-items.ensures.value c.loop-w-test.true (sym c.if-get.ensures),
  λ _. refl,
)

pub returns : goal.returns
returns c = (
  λ h. absurd (false≢true h),
  λ d. absurd (none_kept c.args.s.now c.args.keep.now c.loop-w.w-index (let v = ap length c.designated-w-items.ensures.value in let t = c.loop-w-test.false in omega (arith, v, t)) c.loop-w.invariant d),
)
