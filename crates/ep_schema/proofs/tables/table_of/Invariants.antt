use Rattle.std.proofs.Common.{◌≡◌, take}
use Rattle.ep_schema.proofs.tables.table_of.Given as goal

abbrev pub invariant-loop-text : goal.invariant-loop-text
invariant-loop-text l = l.table ≡ take l.text-index l.texts
