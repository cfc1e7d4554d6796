use Rattle.std.proofs.Common.{◌≡◌, drop}
use Rattle.ep_types.specs.Faults.{first_fault}
use Rattle.ep_types.specs.Names.{names_of}
use Rattle.ep_types.specs.Tasks.{schema_uses}
use Rattle.ep_types.proofs.schema.check_schemas_behind.Given as goal

abbrev pub invariant-loop-entry : goal.invariant-loop-entry
invariant-loop-entry l =
    first_fault (schema_uses (names_of l.fn.before) l.list l.names) ≡ first_fault (schema_uses (names_of l.before) (drop l.entry-index l.list) l.names)
