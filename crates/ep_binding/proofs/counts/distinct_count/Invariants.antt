use Rattle.std.proofs.Common.{◌≡◌, ◌*◌, ◌^◌, ◌≤◌, [], take, drop}
use Rattle.ep_binding.specs.Counts.{choices}
use Rattle.ep_binding.proofs.counts.distinct_count.Given as goal

abbrev pub invariant-loop-place : goal.invariant-loop-place
invariant-loop-place l = record {
  so_far : l.count * choices (take l.place l.params) (drop l.place l.params) ≡ choices [] l.params;
  small : l.count ≤ 64 ^ l.place;
}
