-- The formulas of schemas in file order, each with the number of its ground forms.
use Rattle.std.specs.Prelude.{ℕ, List, [], ◌∷◌, length, map}
use Rattle.std.specs.List.{flat_map}
use Rattle.ep_tree.specs.declared.tree.FormulaTree.{FormulaTree}
use Rattle.ep_tree.specs.declared.tree.SetTree.{SetTree}
use Rattle.ep_tree.specs.declared.tree.EventTree.{EventTree}
use Rattle.ep_tree.specs.declared.tree.BodyTree.{BodyTree}
use Rattle.ep_tree.specs.declared.tree.BodyTree.TheVariants.{Announce, Private, Sense, Assign, Events}
use Rattle.ep_tree.specs.declared.tree.SchemaTree.{SchemaTree}
use Rattle.ep_types.specs.declared.scope.Declared.{Declared}
use Rattle.ep_schema.specs.Actions.{schema_bindings}

pub record Written : Type 0 where
  pub times : ℕ
  pub formula : FormulaTree

abbrev pub written : ℕ → FormulaTree → Written
written n f = record { times = n; formula = f }

abbrev pub values_of : List SetTree → List FormulaTree
values_of sets = map (λ s. s.value) sets

abbrev pub event_formulas : EventTree → List FormulaTree
event_formulas e = e.pre ∷ values_of e.sets

abbrev pub body_formulas : BodyTree → List FormulaTree
body_formulas (Announce f) = f ∷ []
body_formulas (Private f g) = f ∷ []
body_formulas (Sense f g) = f ∷ []
body_formulas (Assign f sets) = f ∷ values_of sets
body_formulas (Events events designated links) = flat_map event_formulas events

-- each formula of a schema has a ground form for each of its ground actions
abbrev pub schema_formulas : Declared → SchemaTree → List Written
schema_formulas d s = map (written (length (schema_bindings d s))) (body_formulas s.body)
