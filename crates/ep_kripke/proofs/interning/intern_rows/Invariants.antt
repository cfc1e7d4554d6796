use Rattle.std.proofs.Common.{◌≡◌, map, take}
use Rattle.ep_kripke.specs.RowTables.{Keeps}
use Rattle.ep_kripke.specs.Interning.{row_of, ArePlaces}
use Rattle.ep_kripke.proofs.interning.intern_rows.Given as goal

abbrev pub invariant-loop-at : goal.invariant-loop-at
invariant-loop-at l = record {
  rows : l.shared ≡ take l.at (map (row_of l.worlds) l.rows);
  stand : ArePlaces l.table l.places.items (take l.at (map (row_of l.worlds) l.rows));
  kept : Keeps l.fn.table l.table;
}
