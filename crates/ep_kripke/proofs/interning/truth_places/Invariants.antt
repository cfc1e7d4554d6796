use Rattle.std.proofs.Common.{take}
use Rattle.ep_kripke.specs.RowTables.{Keeps}
use Rattle.ep_kripke.specs.Interning.{ArePlaces}
use Rattle.ep_kripke.proofs.interning.truth_places.Given as goal

abbrev pub invariant-loop-w : goal.invariant-loop-w
invariant-loop-w l = record {
  stand : ArePlaces l.table l.places.items (take l.w l.truth.rows);
  kept : Keeps l.fn.table l.table;
}
