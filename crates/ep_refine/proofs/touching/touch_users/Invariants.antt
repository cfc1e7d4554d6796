use Rattle.std.proofs.Common.{length, take}
use Rattle.ep_kripke.specs.Sources.{row_at}
use Rattle.ep_refine.specs.Touching.{Listed, Adds, InSome}
use Rattle.ep_refine.proofs.touching.touch_users.Given as goal

abbrev pub invariant-loop-r : goal.invariant-loop-r
invariant-loop-r l = record {
  listed : Listed (length l.initial.touched.left) l.touched.left l.touched.worlds.items;
  adds : Adds (InSome (row_at l.back.users) (take l.r-index l.rows)) l.initial.touched.worlds.items l.touched.worlds.items;
}
