use Rattle.std.proofs.Common.{◌≡◌, take}
use Rattle.ep_event.proofs.action.copy_relations.Given as goal

abbrev pub invariant-loop-rows : goal.invariant-loop-rows
invariant-loop-rows l = l.copies ≡ take l.rows-index l.relations
