use Rattle.std.proofs.Common.{◌≡◌, ℕ, ◌<◌, [], get_or}
use Rattle.ep_theory.specs.Rising.{IsIn}
use Rattle.ep_kripke.specs.Relations.{members}
use Rattle.ep_kripke.proofs.equivalence.rows_are_shared.Given as goal

abbrev pub invariant-loop-v : goal.invariant-loop-v
invariant-loop-v l = (k : ℕ) → k < l.v → IsIn k (members (get_or l.rows l.at [])) → members (get_or l.rows (get_or l.names k 0) []) ≡ members (get_or l.rows l.at [])
