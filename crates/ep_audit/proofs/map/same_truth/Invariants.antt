use Rattle.std.proofs.Common.{◌≡◌, ℕ, ◌<◌}
use Rattle.ep_theory.specs.Kripke.{atom_at}
use Rattle.ep_audit.proofs.map.same_truth.Given as goal

abbrev pub invariant-loop-n : goal.invariant-loop-n
invariant-loop-n l = (k : ℕ) → k < l.n → atom_at l.s l.w.n k ≡ atom_at l.r l.v.n k
