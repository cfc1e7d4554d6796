-- What the schemas of a task that was read and has no fault are, and what the names of schemas and objects are.
use Rattle.std.proofs.Common.{◌≡◌, None, List, [], ◌∷◌, ◌++◌, map, All}
use Rattle.std.specs.List.{AllByRecursion}
use Rattle.std.proofs.lemmas.List.Elements.{All-nil, All-cons}
use Rattle.ep_name.specs.Names.{IsPlain}
use Rattle.ep_tree.specs.Formed.{IsFormedSchema}
use Rattle.ep_tree.specs.Grammar.{IsRead}
use Rattle.ep_tree.specs.declared.tree.SchemaTree.{SchemaTree}
use Rattle.ep_tree.specs.declared.tree.TaskTree.{TaskTree}
use Rattle.ep_types.specs.Faults.{first_fault}
use Rattle.ep_types.specs.Names.{Text}
use Rattle.ep_types.specs.Places.{both, at, closed, NewName}
use Rattle.ep_types.specs.Tasks as tasks
use Rattle.ep_types.specs.Tasks.{HasNoFault, declarations}
use Rattle.ep_types.specs.declared.scope.Declared.{Declared}
use Rattle.ep_universe.proofs.CallerLemmas.{IsFresh, both-none, fresh-apart, new-name, objects_apart, objects_plain, plain-name, schemas_fine, schemas_long, schemas_shallow}
use Rattle.ep_schema.specs.ActionNames.{AreNames}
use Rattle.ep_schema.proofs.BodyLemmas.{IsSound, sound_schemas}

plain-schemas : (ss : List SchemaTree) → AllByRecursion IsFormedSchema ss → All IsPlain (map (λ s. s.name.text) ss)
plain-schemas [] h = All-nil IsPlain
plain-schemas (s ∷ ss) h = All-cons IsPlain s.name.text (map (λ (s : SchemaTree). s.name.text) ss) (plain-name s.name.text h.0.0) (plain-schemas ss h.1)

schemas-fresh : (d : Declared) (taken : List Text) (ss : List SchemaTree) → first_fault (tasks.schema_uses taken ss d) ≡ None → IsFresh taken (map (λ s. s.name.text) ss)
schemas-fresh d taken [] h = tt
schemas-fresh d taken (s ∷ ss) h =
    let r = both-none (at s.name.token (NewName s.name.text taken)) (both (tasks.inner_uses s (closed d)) (tasks.schema_uses (taken ++ s.name.text ∷ []) ss d)) h in
    let q = both-none (tasks.inner_uses s (closed d)) (tasks.schema_uses (taken ++ s.name.text ∷ []) ss d) r.1 in
    (new-name s.name.token s.name.text taken r.0, schemas-fresh d (taken ++ s.name.text ∷ []) ss q.1)

-- each schema was read and has no fault
pub schemas_sound : (t : TaskTree) → HasNoFault t → IsRead t → All (IsSound (declarations t)) t.schemas
schemas_sound t fine read = sound_schemas (declarations t) [] t.schemas read.formed.5 (schemas_shallow t read) (schemas_long t read) (schemas_fine t fine)

-- the names of objects and of schemas differ and are plain
pub names_are : (t : TaskTree) → HasNoFault t → IsRead t → AreNames (declarations t) t.schemas
names_are t fine read = record {
  objects_apart = objects_apart t fine read;
  objects_plain = objects_plain t fine read;
  schemas_apart = fresh-apart (map (λ (s : SchemaTree). s.name.text) t.schemas) (schemas-fresh (declarations t) [] t.schemas (schemas_fine t fine));
  schemas_plain = plain-schemas t.schemas read.formed.5;
}
