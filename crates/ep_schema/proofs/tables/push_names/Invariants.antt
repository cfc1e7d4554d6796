use Rattle.std.proofs.Common.{◌≡◌, ◌++◌, map, take}
use Rattle.ep_schema.specs.Actions.{schema_bindings}
use Rattle.ep_schema.specs.ActionNames.{action_name}
use Rattle.ep_schema.proofs.tables.push_names.Given as goal

abbrev pub invariant-loop-objects : goal.invariant-loop-objects
invariant-loop-objects l = l.actions ≡ l.initial.actions ++ map (action_name l.universe.names l.schema) (take l.objects-index (schema_bindings l.universe.names l.schema))
