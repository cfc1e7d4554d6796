use Rattle.std.proofs.Common.{refl, arith}
use Rattle.std.proofs.lemmas.Bool.{false≢true}
use Rattle.ep_event.proofs.EquivalenceLemmas.{from_event_classes, to_event_classes}
use Rattle.ep_event.proofs.action.Action.is_equivalence.Goals as goal

pub returns-then-not-is_class-clause-value : goal.returns-then-not-is_class-clause-value
returns-then-not-is_class-clause-value c = (
  λ h. absurd (false≢true h),
  λ e. c.if-not-is_class.ensures.1 (to_event_classes c.args.self.now c.events-n-end.ensures.valid c.args.a.n c.requires e c.loop-n.n
      (let t = c.loop-n-test.true in let v = c.events-n-end.ensures.value in let e = c.loop-n.auto.n-end in omega (arith, t, v, e))),
)

pub returns-clause-value : goal.returns-clause-value
returns-clause-value c = (
  λ h. from_event_classes c.args.self.now c.events-n-end.ensures.valid c.args.a.n c.requires (λ w l. c.loop-n.invariant w
      (let t = c.loop-n-test.false in let v = c.events-n-end.ensures.value in let e = c.loop-n.auto.n-end in omega (arith, t, v, e, l))),
  λ e. refl,
)
