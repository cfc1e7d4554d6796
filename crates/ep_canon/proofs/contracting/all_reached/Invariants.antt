use Rattle.std.proofs.Common.{◌<◌, ℕ, IsTrue}
use Rattle.ep_logic.specs.Rows.{value_at}
use Rattle.ep_canon.proofs.contracting.all_reached.Given as goal

abbrev pub invariant-loop-w : goal.invariant-loop-w
invariant-loop-w l = (v : ℕ) → v < l.w → IsTrue (value_at l.reached v)
