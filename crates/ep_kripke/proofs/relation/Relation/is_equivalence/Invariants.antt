use Rattle.std.proofs.Common.{ℕ, ◌<◌}
use Rattle.ep_kripke.specs.Equivalence.{IsClass}
use Rattle.ep_kripke.proofs.relation.Relation.is_equivalence.Given as goal

abbrev pub invariant-loop-w : goal.invariant-loop-w
invariant-loop-w l = (k : ℕ) → k < l.w → IsClass l.self k
