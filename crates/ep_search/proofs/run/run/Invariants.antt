use Rattle.std.proofs.Common.{◌+◌, ◌-◌, ◌*◌, ◌≤◌, length}
use Rattle.ep_search.specs.Kept.{Kept}
use Rattle.ep_search.specs.Progresses.{Keeps, CoversAll, spent}
use Rattle.ep_search.proofs.run.run.Given as goal

abbrev pub invariant-loop-id : goal.invariant-loop-id
invariant-loop-id g l = record {
  keeps : Keeps l.problem l.setting.bounds l.p;
  covers : CoversAll l.problem l.setting.bounds l.p;
  steps : l.steps ≤ l.fn.steps + length l.problem.actions * spent l.setting.bounds.bound l.p.expanded.items;
  asked : Kept ((goal.Guide-dyn g (l.fn.guide.vtable, l.fn.guide.value)).asked l.fn.guide.value) ((goal.Guide-dyn g (l.guide.vtable, l.guide.value)).asked l.guide.value);
}

abbrev pub decreases-loop-id : goal.decreases-loop-id
decreases-loop-id g l = (length l.problem.actions + 1) * (l.setting.bounds.states * l.setting.bounds.bound - spent l.setting.bounds.bound l.p.expanded.items) + length l.p.frontier
