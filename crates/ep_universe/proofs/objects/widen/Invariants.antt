use Rattle.std.proofs.Common.{◌≡◌, ◌++◌, take}
use Rattle.ep_universe.specs.Objects.{bound}
use Rattle.ep_universe.proofs.objects.widen.Given as goal

abbrev pub invariant-loop-bound : goal.invariant-loop-bound
invariant-loop-bound l = l.wider ≡ take l.bound-index l.binding

abbrev pub invariant-loop-place : goal.invariant-loop-place
invariant-loop-place l = l.wider ≡ l.binding ++ bound (take l.place l.params) l.objects
