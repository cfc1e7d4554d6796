use Rattle.std.proofs.Common.{length}
use Rattle.ep_binding.proofs.laminar.+are_nested.Given as goal

abbrev pub decreases-are_nested : goal.decreases-are_nested
decreases-are_nested l = length l.sets.now
