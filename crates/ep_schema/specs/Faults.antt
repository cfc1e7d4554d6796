-- Why schemas have no ground actions.
use Rattle.std.specs.Prelude.{List, Option, option_map}
use Rattle.std.specs.List.{find, zip}
use Rattle.ep_theory.specs.Events.{EventModel}
use Rattle.ep_types.specs.Names.{Text}
use Rattle.ep_schema.specs.Actions.{assigns_twice}
use Rattle.ep_schema.specs.declared.fault.SchemaError.{SchemaError}
use Rattle.ep_schema.specs.declared.fault.SchemaError.TheVariants.{AtomTwice}

-- the name of the first action with an event that assigns to one atom twice
abbrev pub atom_twice : List Text → List EventModel → Option SchemaError
atom_twice names actions = option_map (λ x. AtomTwice x.0) (find (λ x. assigns_twice x.1) (zip names actions))
