use Rattle.std.proofs.Common.{◌≡◌, ◌++◌, None, map, take}
use Rattle.ep_schema.specs.Actions.{action_at, schema_bindings}
use Rattle.ep_schema.specs.Faults.{atom_twice}
use Rattle.ep_schema.specs.ActionNames.{action_name}
use Rattle.ep_schema.proofs.schemas.push_actions.Given as goal

abbrev pub invariant-loop-objects : goal.invariant-loop-objects
invariant-loop-objects l = record {
  actions : l.actions ≡ l.initial.actions ++ map (action_at l.universe.names l.schema) (take l.objects-index (schema_bindings l.universe.names l.schema));
  once : atom_twice (map (action_name l.universe.names l.schema) (take l.objects-index (schema_bindings l.universe.names l.schema))) (map (action_at l.universe.names l.schema) (take l.objects-index (schema_bindings l.universe.names l.schema))) ≡ None;
}
