use Rattle.std.proofs.Common.{◌≡◌, take}
use Rattle.ep_schema.specs.ActionNames.{action_names}
use Rattle.ep_schema.proofs.tables.action_names.Given as goal

abbrev pub invariant-loop-schema : goal.invariant-loop-schema
invariant-loop-schema l = l.actions ≡ action_names l.universe.names (take l.schema-index l.schemas)
