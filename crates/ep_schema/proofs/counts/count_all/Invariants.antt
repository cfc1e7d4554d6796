use Rattle.std.proofs.Common.{◌≡◌, ◌≤◌, ◌*◌, length, take}
use Rattle.ep_schema.specs.Actions.{actions_of}
use Rattle.ep_schema.proofs.counts.count_all.Given as goal

abbrev pub invariant-loop-schema : goal.invariant-loop-schema
invariant-loop-schema l = record {
  count : l.count ≡ length (actions_of l.universe.names (take l.schema-index l.schemas));
  most : l.count ≤ l.schema-index * 68719476736;
}
