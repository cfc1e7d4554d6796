use Rattle.std.proofs.Common.{ℕ, ◌<◌}
use Rattle.ep_theory.specs.Rising.{IsIn}
use Rattle.ep_refine.specs.Touching.{Listed}
use Rattle.ep_refine.proofs.touching.all_worlds.Given as goal

abbrev pub invariant-loop-w : goal.invariant-loop-w
invariant-loop-w l = record {
  listed : Listed l.worlds l.left l.list.items;
  all : (u : ℕ) → u < l.w → IsIn u l.list.items;
}
