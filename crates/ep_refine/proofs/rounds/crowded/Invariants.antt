use Rattle.std.proofs.Common.{ℕ, ◌≤◌, ◌⊎◌, length, take}
use Rattle.ep_theory.specs.Rising.{IsIn}
use Rattle.ep_refine.specs.Touching.{Listed}
use Rattle.ep_refine.specs.Rounds.{IsAlone}
use Rattle.ep_refine.proofs.rounds.crowded.Given as goal

abbrev pub invariant-loop-w : goal.invariant-loop-w
invariant-loop-w l = record {
  listed : Listed (length l.b.order.items) l.left l.list.items;
  all : (u : ℕ) → IsIn u (take l.w-index l.touched.worlds.items) → IsIn u l.list.items ⊎ IsAlone l.b u;
  few : length l.list.items ≤ l.w-index;
}
