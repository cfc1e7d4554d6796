use Rattle.std.proofs.Common.{◌≡◌, ◌++◌, map, take}
use Rattle.ep_schema.specs.Actions.{cost_of, schema_bindings}
use Rattle.ep_schema.proofs.costs.push_costs.Given as goal

abbrev pub invariant-loop-objects : goal.invariant-loop-objects
invariant-loop-objects l = l.costs ≡ l.initial.costs ++ map (λ objects. cost_of l.schema) (take l._objects-index (schema_bindings l.universe.names l.schema))
