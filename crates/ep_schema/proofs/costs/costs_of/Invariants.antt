use Rattle.std.proofs.Common.{◌≡◌, take}
use Rattle.ep_schema.specs.Actions.{costs_of}
use Rattle.ep_schema.proofs.costs.costs_of.Given as goal

abbrev pub invariant-loop-schema : goal.invariant-loop-schema
invariant-loop-schema l = l.costs ≡ costs_of l.universe.names (take l.schema-index l.schemas)
