use Rattle.std.proofs.Common.{IsTrue, refl, sym, subst, arith, inl, inr}
use Rattle.std.proofs.lemmas.Bool.{cases_eq}
use Rattle.ep_theory.specs.Kripke.{links_of}
use Rattle.ep_theory.specs.Equivalences.{IsEquivalence}
use Rattle.ep_kripke.proofs.EquivalenceLemmas.{all_equivalences}
use Rattle.ep_kripke.proofs.state.State.is_s5.Goals as goal

pub loop-a-preserved : goal.loop-a-preserved
loop-a-preserved c = λ k h.
    let s = c.args.self.now in
    let t : IsTrue c.is_equivalence.result = cc (c.if-not-is_equivalence.false) in
    elim (cases_eq k c.loop-a.a) [
      | inl e ↦ subst (λ a. IsEquivalence s.worlds (links_of s a)) (sym e) (c.is_equivalence.ensures.value.0 t)
      | inr ne ↦ c.loop-a.invariant k (omega (arith, h, ne))
    ]

pub returns-clause-value : goal.returns-clause-value
returns-clause-value c = (
  λ t. all_equivalences c.args.self.now (λ a l. c.loop-a.invariant a (omega (arith, l, c.loop-a-test.false, c.agents-a-end.ensures.value, c.agents-a-end.ensures.valid.relations))),
  λ h. refl,
)
