use Rattle.std.proofs.Common.{refl, arith}
use Rattle.ep_kripke.proofs.EquivalenceLemmas.{from_equivalence, to_equivalence}
use Rattle.ep_kripke.proofs.relation.Relation.is_equivalence.Goals as goal

pub returns-then-not-is_class : goal.returns-then-not-is_class
returns-then-not-is_class c = (
  λ t. absurd (cc t),
  λ e. absurd (cc (c.is_class.ensures.1 (from_equivalence c.args.self.now c.requires.rows e c.loop-w.w (omega (arith, c.loop-w-test.true, c.len-w-end.ensures))), c.if-not-is_class.true)),
)

pub returns : goal.returns
returns c = (
  λ t. to_equivalence c.args.self.now c.requires.rows (λ w l. c.loop-w.invariant w (omega (arith, l, c.loop-w-test.false, c.len-w-end.ensures))),
  λ e. refl,
)
