use Rattle.std.proofs.Common.{◌≡◌, None, take}
use Rattle.ep_schema.specs.Actions.{actions_of}
use Rattle.ep_schema.specs.Faults.{atom_twice}
use Rattle.ep_schema.specs.ActionNames.{action_names}
use Rattle.ep_schema.proofs.schemas.ground_actions.Given as goal

abbrev pub invariant-loop-schema : goal.invariant-loop-schema
invariant-loop-schema l = record {
  actions : l.actions ≡ actions_of l.universe.names (take l.schema-index l.schemas);
  once : atom_twice (action_names l.universe.names (take l.schema-index l.schemas)) (actions_of l.universe.names (take l.schema-index l.schemas)) ≡ None;
}
