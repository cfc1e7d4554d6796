use Rattle.std.proofs.Common.{◌≡◌, ◌<◌, length}
use Rattle.ep_types.specs.Names.{is_below}
use Rattle.ep_types.specs.Links.{typings, name_at, depth_at}
use Rattle.ep_types.proofs.types.climbs_to.Given as goal

abbrev pub invariant-loop-at : goal.invariant-loop-at
invariant-loop-at l = record {
  there : l.at < length l.rows;
  same : is_below (typings l.rows) (name_at l.rows l.kind) (name_at l.rows l.above) ≡ is_below (typings l.rows) (name_at l.rows l.at) (name_at l.rows l.above);
}

abbrev pub decreases-loop-at : goal.decreases-loop-at
decreases-loop-at l = depth_at l.rows l.at
