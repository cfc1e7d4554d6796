use Rattle.std.proofs.Common.{◌≡◌, map, take}
use Rattle.std.specs.List.{flat_map}
use Rattle.ep_kripke.specs.RowTables.{Keeps}
use Rattle.ep_kripke.specs.Interning.{row_of, ArePlaces}
use Rattle.ep_kripke.proofs.interning.intern_relations.Given as goal

abbrev pub invariant-loop-relation : goal.invariant-loop-relation
invariant-loop-relation l = record {
  relations : l.all ≡ take l.relation-index l.relations;
  stand : ArePlaces l.table l.all_places.items (flat_map (map (row_of l.worlds)) (take l.relation-index l.relations));
  kept : Keeps l.fn.table l.table;
}
