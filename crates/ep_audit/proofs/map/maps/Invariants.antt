use Rattle.std.proofs.Common.{◌≡◌, ℕ, ◌<◌, get_or, Some, None}
use Rattle.ep_audit.specs.Related.{MapsAt}
use Rattle.ep_audit.proofs.map.maps.Given as goal

abbrev pub invariant-loop-w : goal.invariant-loop-w
invariant-loop-w l = (k v : ℕ) → k < l.w → get_or l.map k None ≡ Some v → MapsAt l.s l.r l.map k v
