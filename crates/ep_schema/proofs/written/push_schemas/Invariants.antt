use Rattle.std.proofs.Common.{◌≡◌, ◌++◌, take}
use Rattle.std.specs.List.{flat_map}
use Rattle.ep_schema.specs.Written.{schema_formulas}
use Rattle.ep_schema.proofs.written.push_schemas.Given as goal

abbrev pub invariant-loop-schema : goal.invariant-loop-schema
invariant-loop-schema l = l.formulas ≡ l.initial.formulas ++ flat_map (schema_formulas l.universe.names) (take l.schema-index l.schemas)
