use Rattle.std.proofs.Common.{◌≡◌, take}
use Rattle.ep_kripke.proofs.build.named_relations.Given as goal

abbrev pub invariant-loop-rows : goal.invariant-loop-rows
invariant-loop-rows l = l.named ≡ take l.rows-index l.relations
