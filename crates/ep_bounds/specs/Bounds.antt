-- The limits of the bounds of a search. This project's own.
use Rattle.std.specs.Prelude.{◌≤◌}
use Rattle.ep_bounds.specs.declared.bounds.Bounds.{Bounds}
use Rattle.ep_bounds.specs.declared.bounds.TheConstants.{MOST_BOUND, MOST_STATES, MOST_WORLDS}

pub record IsBounds (b : Bounds) : Type 0 where
  pub bound : b.bound ≤ MOST_BOUND
  pub some_state : 1 ≤ b.states
  pub states : b.states ≤ MOST_STATES
  pub worlds : b.worlds ≤ MOST_WORLDS
