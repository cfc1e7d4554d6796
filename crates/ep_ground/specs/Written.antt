-- The formulas of a task in file order, each with the number of its ground forms.
use Rattle.std.specs.Prelude.{List, [], ◌∷◌, ◌++◌, map}
use Rattle.std.specs.List.{flat_map}
use Rattle.ep_tree.specs.declared.tree.TaskTree.{TaskTree}
use Rattle.ep_types.specs.declared.scope.Declared.{Declared}
use Rattle.ep_initial.specs.Initial.{init_formulas}
use Rattle.ep_schema.specs.Written.{Written, schema_formulas, written}

abbrev pub task_formulas : Declared → TaskTree → List Written
task_formulas d t = map (written 1) (init_formulas t.init) ++ (flat_map (schema_formulas d) t.schemas ++ written 1 t.goal ∷ [])
