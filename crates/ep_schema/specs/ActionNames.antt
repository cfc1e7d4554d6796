-- Printed names of ground actions.
use Rattle.std.specs.Prelude.{ℕ, List, map, All}
use Rattle.std.specs.List.{flat_map}
use Rattle.ep_binding.specs.Bindings.{IsApart}
use Rattle.ep_name.specs.Names.{printed, IsPlain}
use Rattle.ep_tree.specs.declared.tree.SchemaTree.{SchemaTree}
use Rattle.ep_types.specs.Names.{Text, names_of}
use Rattle.ep_types.specs.declared.scope.Declared.{Declared}
use Rattle.ep_universe.specs.PrintedNames.{object_name}
use Rattle.ep_schema.specs.Actions.{schema_bindings}

-- the name of the action of a schema at objects
abbrev pub action_name : Declared → SchemaTree → List ℕ → Text
action_name d s objects = printed s.name.text (map (object_name d) objects)

abbrev pub schema_names : Declared → SchemaTree → List Text
schema_names d s = map (action_name d s) (schema_bindings d s)

abbrev pub action_names : Declared → List SchemaTree → List Text
action_names d schemas = flat_map (schema_names d) schemas

-- the names of objects and of schemas differ, and hold neither '(' nor ')' nor ','
pub record AreNames (d : Declared) (schemas : List SchemaTree) : Type 0 where
  pub objects_apart : IsApart (names_of d.objects)
  pub objects_plain : All IsPlain (names_of d.objects)
  pub schemas_apart : IsApart (map (λ s. s.name.text) schemas)
  pub schemas_plain : All IsPlain (map (λ s. s.name.text) schemas)
