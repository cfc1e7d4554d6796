use Rattle.std.proofs.Common.{length, refl, arith, below_more}
use Rattle.std.proofs.lemmas.Bool.{false≢true}
use Rattle.ep_theory.specs.Events.{event_links}
use Rattle.ep_theory.specs.Equivalences.{IsEquivalence}
use Rattle.ep_event.proofs.EquivalenceLemmas.{at_agent, from_each_agent}
use Rattle.ep_event.proofs.action.Action.is_s5.Goals as goal

pub loop-n-preserved : goal.loop-n-preserved
loop-n-preserved c = below_more (λ a. IsEquivalence (length c.args.self.now.events) (event_links c.args.self.now a)) c.loop-n.n
    c.loop-n.invariant (c.if-not-is_equivalence.ensures.value.0 refl)

pub returns-then-not-is_equivalence-clause-value : goal.returns-then-not-is_equivalence-clause-value
returns-then-not-is_equivalence-clause-value c = (
  λ h. absurd (false≢true h),
  λ s. c.if-not-is_equivalence.ensures.value.1 (at_agent c.args.self.now s c.loop-n.n
      (let t = c.loop-n-test.true in let v = c.agents-n-end.ensures.value in let e = c.loop-n.auto.n-end in omega (arith, t, v, e))),
)

pub returns-clause-value : goal.returns-clause-value
returns-clause-value c = (
  λ h. from_each_agent c.args.self.now (λ a l. c.loop-n.invariant a
      (let t = c.loop-n-test.false in let v = c.agents-n-end.ensures.value in let e = c.loop-n.auto.n-end in omega (arith, t, v, e, l))),
  λ s. refl,
)
