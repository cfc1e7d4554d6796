use Rattle.std.proofs.Common.{ℕ, ◌<◌}
use Rattle.ep_theory.specs.Kripke.{links_of, successors}
use Rattle.ep_audit.specs.Related.{Relates}
use Rattle.ep_audit.proofs.map.maps_world.Given as goal

abbrev pub invariant-loop-n : goal.invariant-loop-n
invariant-loop-n l = (b : ℕ) → b < l.n → Relates l.map (successors (links_of l.s b) l.w.n) (successors (links_of l.r b) l.v.n)
