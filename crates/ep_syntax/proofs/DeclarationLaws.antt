-- The laws of the readers of types, objects and fluents.
use Rattle.std.proofs.Common.{◌≡◌, true, IfSome, List, [], ◌∷◌, ◌++◌, Option, refl, append_assoc}
use Rattle.std.specs.List.{AllByRecursion}
use Rattle.ep_tree.specs.declared.terminal.Terminal.TheVariants as the
use Rattle.ep_tree.specs.declared.tree.Name.{Name}
use Rattle.ep_tree.specs.declared.tree.TypeTree.{TypeTree}
use Rattle.ep_tree.specs.declared.tree.ObjectTree.{ObjectTree}
use Rattle.ep_tree.specs.declared.tree.FluentTree.{FluentTree}
use Rattle.ep_tree.specs.Bare.{bare_type, bare_types, bare_object, bare_fluent}
use Rattle.ep_tree.specs.Formed.{OneOrMore, IsFormedName, IsFormedType, IsFormedObject, IsFormedFluent}
use Rattle.ep_tree.specs.Grammar.{Grammar}
use Rattle.ep_tree.specs.Marks.{Mark, fixed, named, texts}
use Rattle.ep_reader.specs.Reading.{Token, heads, each, braced}
use Rattle.ep_tree.specs.Terminals.{is}
use Rattle.ep_tree.specs.Spelling as spell
use Rattle.ep_tree.specs.Terminals.{is_name}
use Rattle.ep_syntax.specs.TaskReading.{type_entry, types, object_entry, objects, fluent_entry, fluents}
use Rattle.ep_syntax.proofs.AtomLaws.{arguments_part}
use Rattle.ep_reader.proofs.CallerLemmas.{each_of, behind_of, keyed_part, Part, Any, Next, pair, then, made_all, next_lacks, plain_part, name_part, some_name, names_part, IsOptional, braced_of, named_entries_part, optional_part}

-- ---- types

abbrev types_one : Grammar TypeTree
types_one = record { marks = spell.type_entry; IsFormed = IsFormedType; bare = bare_type }

type_part : Part types_one Any type_entry
unfolding type_entry
type_part = record {
  reads = λ n ts. made_all (record { marks = λ _ _. refl; formed = λ _ f. (f.0.0.0, f.0.1); bare = λ _. refl })
      (λ b f. record { from = (((b.name, 0), b.parent), 0); formed = (((f.0, tt), f.1), tt); is = refl })
      (then (then (then (name_part.reads n ts) (plain_part the.Less)) name_part) (plain_part the.Semicolon));
  value = record { name = some_name; parent = some_name };
  formed = (refl, refl);
}

abbrev pub types_of : Grammar (Option (List TypeTree))
types_of = record { marks = spell.types; IsFormed = λ o. IfSome o (AllByRecursion IsFormedType); bare = bare_types }

types_optional : IsOptional the.Types (braced_of (each_of types_one)) types_of
types_optional = record { nothing = refl; something = λ _. refl; none_formed = tt; some_formed = λ _ f. f; formed_some = λ _ f. f; none_bare = refl; some_bare = λ _. refl }

pub types_part : Part types_of (Next the.Objects) types
unfolding types
types_part = optional_part the.Types (braced_of (each_of types_one)) types_of types_optional (Next the.Objects) (braced (each is_name type_entry)) (named_entries_part type_part (λ a more f. f.0))
    (next_lacks the.Objects (is the.Types) refl)

-- ---- objects

abbrev pub objects_one : Grammar ObjectTree
objects_one = record { marks = spell.object_entry; IsFormed = IsFormedObject; bare = bare_object }

object_part : Part objects_one Any object_entry
unfolding object_entry
object_part = record {
  reads = λ n ts. made_all
      (record { marks = λ a _. append_twice (spell.names a.0.0.0) (fixed the.Colon) (named a.0.1) (fixed the.Semicolon); formed = λ _ f. (f.0.0.0, f.0.1); bare = λ _. refl })
      (λ b f. record { from = (((b.names, 0), b.kind), 0); formed = (((f.0, tt), f.1), tt); is = refl })
      (then (then (pair ((names_part the.Colon refl).reads n ts) (plain_part the.Colon) (λ _ _ _ _. refl)) name_part) (plain_part the.Semicolon));
  value = record { names = some_name ∷ []; kind = some_name };
  formed = ((refl, tt), refl);
}
  where
    append_twice : (xs : List Mark) (a b c : Mark) → xs ++ a ∷ b ∷ c ∷ [] ≡ ((xs ++ a ∷ []) ++ b ∷ []) ++ c ∷ []
    append_twice xs a b c = simp append_assoc

names_start : (ns : List Name) → OneOrMore IsFormedName ns → (rest : List Mark) (more : List Token) → heads is_name (texts (spell.names ns ++ rest) ++ more) ≡ true
names_start [] f rest more = absurd f
names_start (x ∷ xs) f rest more = f.0

pub objects_part : Part (behind_of the.Objects (braced_of (each_of objects_one))) Any objects
unfolding objects
objects_part = keyed_part the.Objects (named_entries_part object_part (λ a more f. names_start a.names f.0 _ more))

-- ---- fluents

abbrev pub fluents_one : Grammar FluentTree
fluents_one = record { marks = spell.fluent_entry; IsFormed = IsFormedFluent; bare = bare_fluent }

fluent_part : Part fluents_one Any fluent_entry
unfolding fluent_entry
fluent_part = record {
  reads = λ n ts. made_all (record { marks = λ _ _. refl; formed = λ _ f. f.0; bare = λ _. refl })
      (λ b f. record { from = ((b.name, b.kinds), 0); formed = (f, tt); is = refl })
      (pair (then (name_part.reads n ts) arguments_part) (plain_part the.Semicolon) (λ _ _ _ _. refl));
  value = record { name = some_name; kinds = [] };
  formed = (refl, tt);
}

pub fluents_part : Part (behind_of the.Fluents (braced_of (each_of fluents_one))) Any fluents
unfolding fluents
fluents_part = keyed_part the.Fluents (named_entries_part fluent_part (λ a more f. f.0))
