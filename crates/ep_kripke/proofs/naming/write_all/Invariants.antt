use Rattle.std.proofs.Common.{◌≡◌, ℕ, length, take, cond}
use Rattle.ep_logic.specs.Numbers.{has_number}
use Rattle.ep_logic.specs.Rows.{value_at}
use Rattle.ep_kripke.proofs.naming.write_all.Given as goal

abbrev pub invariant-loop-place : goal.invariant-loop-place
invariant-loop-place l = record {
  long : length l.bits ≡ length l.initial.bits;
  each : (k : ℕ) → value_at l.bits k ≡ cond (has_number (take l.place-index l.places) k) l.v (value_at l.initial.bits k);
}
