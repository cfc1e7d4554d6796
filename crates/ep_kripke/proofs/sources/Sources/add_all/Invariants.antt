use Rattle.std.proofs.Common.{◌≡◌, ◌+◌, length, sum_by, drop}
use Rattle.ep_kripke.specs.Sources.{with_sources}
use Rattle.ep_kripke.proofs.sources.Sources.add_all.Given as goal

abbrev pub invariant-loop-to : goal.invariant-loop-to
invariant-loop-to l = record {
  long : length l.self ≡ length l.initial.self;
  counted : sum_by length l.self ≡ sum_by length l.initial.self + l.to-index;
  left : with_sources l.self l.from (drop l.to-index l.targets) ≡ with_sources l.initial.self l.from l.targets;
}
