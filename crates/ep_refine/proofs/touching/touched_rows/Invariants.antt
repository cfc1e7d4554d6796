use Rattle.std.proofs.Common.{[], take}
use Rattle.ep_kripke.specs.Sources.{row_at}
use Rattle.ep_refine.specs.Touching.{Listed, Adds, InSome}
use Rattle.ep_refine.proofs.touching.touched_rows.Given as goal

abbrev pub invariant-loop-v : goal.invariant-loop-v
invariant-loop-v l = record {
  listed : Listed l.back.count l.left l.rows.items;
  adds : Adds (InSome (row_at l.back.holders) (take l.v-index l.moved)) [] l.rows.items;
}
