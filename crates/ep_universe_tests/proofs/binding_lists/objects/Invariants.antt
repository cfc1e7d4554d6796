use Rattle.std.proofs.Common.{◌≡◌, ◌+◌, ◌<◌, length, All}
use Rattle.ep_binding.specs.Bindings.{IsApart}
use Rattle.ep_universe_tests.proofs.binding_lists.objects.Given as goal

abbrev pub invariant-loop-place : goal.invariant-loop-place
invariant-loop-place l = record {
  long : length l.objects ≡ l.place;
  below : All (λ o. o < l.first + l.place) l.objects;
  apart : IsApart l.objects;
}
