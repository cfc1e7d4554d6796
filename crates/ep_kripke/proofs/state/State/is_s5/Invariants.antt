use Rattle.std.proofs.Common.{ℕ, ◌<◌}
use Rattle.ep_theory.specs.Kripke.{links_of}
use Rattle.ep_theory.specs.Equivalences.{IsEquivalence}
use Rattle.ep_kripke.proofs.state.State.is_s5.Given as goal

abbrev pub invariant-loop-a : goal.invariant-loop-a
invariant-loop-a l = (k : ℕ) → k < l.a → IsEquivalence l.self.worlds (links_of l.self k)
