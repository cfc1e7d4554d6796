use Rattle.std.proofs.Common.{◌+◌, ◌≤◌}
use Rattle.ep_search.specs.Kept.{Kept}
use Rattle.ep_search.proofs.ExpandLemmas.{Going}
use Rattle.ep_search.proofs.expand.expand.Given as goal

abbrev pub invariant-loop-n : goal.invariant-loop-n
invariant-loop-n g l = record {
  going : Going l.problem l.setting.bounds l.fn.p l.p l.id.n l.weight l.n;
  steps : l.steps ≤ l.fn.steps + l.n;
  asked : Kept ((goal.Guide-dyn g (l.fn.guide.vtable, l.fn.guide.value)).asked l.fn.guide.value) ((goal.Guide-dyn g (l.guide.vtable, l.guide.value)).asked l.guide.value);
}
