use Rattle.std.proofs.Common.{◌≡◌, ℕ, ◌<◌, [], get_or}
use Rattle.ep_kripke.proofs.equivalence.list_is_shared.Given as goal

abbrev pub invariant-loop-v : goal.invariant-loop-v
invariant-loop-v l = (k : ℕ) → k < l.v-index → get_or l.rows (get_or l.names (get_or l.v-items k 0) 0) [] ≡ get_or l.rows l.at []
