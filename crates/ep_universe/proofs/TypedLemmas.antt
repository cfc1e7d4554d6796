-- What a task without a fault declares.
use Rattle.std.proofs.Common.{◌≡◌, ℕ, zero, suc, ◌+◌, ◌<◌, ◌≤◌, Bool, true, false, cond, nat_eq, List, [], ◌∷◌, ◌++◌, Option, Some, None, unwrap_or, length, map, get_or, refl, ap, sym, ◌∙◌, arith, append_assoc, append-nil}
use Rattle.ep_tree.specs.declared.tree.Name.{Name}
use Rattle.ep_tree.specs.declared.tree.TypeTree.{TypeTree}
use Rattle.ep_tree.specs.declared.tree.ObjectTree.{ObjectTree}
use Rattle.ep_tree.specs.declared.tree.FluentTree.{FluentTree}
use Rattle.ep_tree.specs.declared.tree.TaskTree.{TaskTree}
use Rattle.ep_types.specs.Atoms.{texts}
use Rattle.std.specs.Option.{option_or}
use Rattle.ep_types.specs.Faults.{first_fault, first_row, located, table}
use Rattle.ep_types.specs.Names.{Text, Typings, names_of, values_of}
use Rattle.ep_types.specs.Places.{Uses, both, at, NewName, ParamType}
use Rattle.ep_types.specs.Tasks.{HasNoFault, declarations, start, with_type, after_types, with_objects, with_object, after_objects, with_fluent, after_fluents, kind_uses, fluent_uses, type_uses, object_uses, declaration_uses, rest_uses}
use Rattle.ep_types.specs.declared.fault.TypeFault.{TypeFault}
use Rattle.ep_types.specs.declared.scope.Declared.{Declared}

-- ---- no fault in the parts

else-none : (o p : Option (TypeFault × ℕ)) → option_or o p ≡ None → (o ≡ None) × (p ≡ None)
else-none None p h = (refl, h)
else-none (Some x) p h = cc

pub both-none : (us vs : Uses) → first_fault (both us vs) ≡ None → (first_fault us ≡ None) × (first_fault vs ≡ None)
both-none us vs h = else-none (first_fault us) (first_fault vs) h

pub located-none : (t : ℕ) (o : Option TypeFault) → located t o ≡ None → o ≡ None
located-none t None h = refl
located-none t (Some f) h = cc

-- the first row of a table does not hold, and neither does a later one
pub row-none : (b : Bool) (f : TypeFault) (rest : Option TypeFault) → cond b (Some f) rest ≡ None → (b ≡ false) × (rest ≡ None)
row-none true f rest h = cc
row-none false f rest h = (refl, h)

-- ---- the fluents

kept_objects : (d : Declared) (kind : Text) (xs : List Name) → (with_objects d kind xs).fluents ≡ d.fluents
kept_objects d kind [] = refl
kept_objects d kind (x ∷ xs) = kept_objects (with_object d kind x) kind xs

kept_by_objects : (d : Declared) (es : List ObjectTree) → (after_objects d es).fluents ≡ d.fluents
kept_by_objects d [] = refl
kept_by_objects d (e ∷ es) = kept_by_objects (with_objects d e.kind.text e.names) es ∙ kept_objects d e.kind.text e.names

kept_by_types : (d : Declared) (es : List TypeTree) → (after_types d es).fluents ≡ d.fluents
kept_by_types d [] = refl
kept_by_types d (e ∷ es) = kept_by_types (with_type d e) es

abbrev pub kinds_of : List FluentTree → List (List Text)
kinds_of es = map (λ e. texts e.kinds) es

values-append : {V : Type 0} (es fs : List (Text × V)) → values_of (es ++ fs) ≡ values_of es ++ values_of fs
values-append [] fs = refl
values-append (e ∷ es) fs = ap (λ z. e.1 ∷ z) (values-append es fs)

added_fluents : (d : Declared) (es : List FluentTree) → values_of (after_fluents d es).fluents ≡ values_of d.fluents ++ kinds_of es
added_fluents d [] = sym (append-nil (values_of d.fluents))
added_fluents d (e ∷ es) =
    added_fluents (with_fluent d e) es
    ∙ ap (λ z. z ++ kinds_of es) (values-append d.fluents ((e.name.text, texts e.kinds) ∷ []))
    ∙ append_assoc (values_of d.fluents) (texts e.kinds ∷ []) (kinds_of es)

-- the types of a task, and nothing else
abbrev pub typed_by : TaskTree → Declared
typed_by t = after_types start (unwrap_or t.types [])

before_fluents : TaskTree → Declared
before_fluents t = after_objects (after_types start (unwrap_or t.types [])) t.objects

none_before : (t : TaskTree) → (before_fluents t).fluents ≡ []
unfolding before_fluents
none_before t = kept_by_objects (after_types start (unwrap_or t.types [])) t.objects ∙ kept_by_types start (unwrap_or t.types [])

-- the types of the parameters of the fluents, as they are written
pub fluents-declared : (t : TaskTree) → values_of (declarations t).fluents ≡ kinds_of t.fluents
unfolding before_fluents
fluents-declared t = added_fluents (before_fluents t) t.fluents ∙ ap (λ z. values_of z ++ kinds_of t.fluents) (none_before t)

-- ---- at most six parameters

apart : (n : ℕ) → nat_eq n 6 ≡ false → n ≤ 6 → n + 1 ≤ 6
apart n h l = grind arith

short : (types : Typings) (n : ℕ) (xs : List Name) → n ≤ 6 → first_fault (kind_uses types n xs) ≡ None → length xs + n ≤ 6
short types n [] l h = omega arith
short types n (x ∷ xs) l h =
    let parts = both-none (at x.token (ParamType n x.text (names_of types))) (kind_uses types (n + 1) xs) h in
    let row = located-none x.token (first_row (table (ParamType n x.text (names_of types)))) parts.0 in
    let here = row-none (nat_eq n 6) _ _ row in
    let rest = short types (n + 1) xs (apart n here.0 l) parts.1 in
    omega (arith, rest)

fluent_parts : (d : Declared) (f : FluentTree) (fs : List FluentTree) → first_fault (fluent_uses d (f ∷ fs)) ≡ None →
    (first_fault (at f.name.token (NewName f.name.text (names_of d.fluents))) ≡ None) × (first_fault (both (kind_uses d.types 0 f.kinds) (fluent_uses (with_fluent d f) fs)) ≡ None)
fluent_parts d f fs h = both-none (at f.name.token (NewName f.name.text (names_of d.fluents))) (both (kind_uses d.types 0 f.kinds) (fluent_uses (with_fluent d f) fs)) h

short_fluents : (d : Declared) (es : List FluentTree) → first_fault (fluent_uses d es) ≡ None → (i : ℕ) (e : FluentTree) → i < length es → length (get_or es i e).kinds ≤ 6
short_fluents d [] h i e l = absurd (omega arith)
short_fluents d (f ∷ fs) h zero e l =
    let parts = fluent_parts d f fs h in
    let kinds = both-none (kind_uses d.types 0 f.kinds) (fluent_uses (with_fluent d f) fs) parts.1 in
    let few = short d.types 0 f.kinds (omega arith) kinds.0 in
    omega (arith, few)
short_fluents d (f ∷ fs) h (suc i) e l =
    let parts = fluent_parts d f fs h in
    let kinds = both-none (kind_uses d.types 0 f.kinds) (fluent_uses (with_fluent d f) fs) parts.1 in
    short_fluents (with_fluent d f) fs kinds.1 i e (omega arith)

-- ---- the parts of a task

pub types_fine : (t : TaskTree) → HasNoFault t → first_fault (type_uses start (unwrap_or t.types [])) ≡ None
types_fine t h =
    let all = both-none (declaration_uses start t) (rest_uses (declarations t) t) h in
    (both-none (type_uses start (unwrap_or t.types [])) (both (object_uses (typed_by t) t.objects) (fluent_uses (after_objects (typed_by t) t.objects) t.fluents)) all.0).0

pub objects_fine : (t : TaskTree) → HasNoFault t → first_fault (object_uses (typed_by t) t.objects) ≡ None
objects_fine t h =
    let all = both-none (declaration_uses start t) (rest_uses (declarations t) t) h in
    let rest = both-none (type_uses start (unwrap_or t.types [])) (both (object_uses (typed_by t) t.objects) (fluent_uses (after_objects (typed_by t) t.objects) t.fluents)) all.0 in
    (both-none (object_uses (typed_by t) t.objects) (fluent_uses (after_objects (typed_by t) t.objects) t.fluents) rest.1).0

pub fluents_fine : (t : TaskTree) → HasNoFault t → first_fault (fluent_uses (after_objects (typed_by t) t.objects) t.fluents) ≡ None
fluents_fine t h =
    let all = both-none (declaration_uses start t) (rest_uses (declarations t) t) h in
    let rest = both-none (type_uses start (unwrap_or t.types [])) (both (object_uses (typed_by t) t.objects) (fluent_uses (after_objects (typed_by t) t.objects) t.fluents)) all.0 in
    (both-none (object_uses (typed_by t) t.objects) (fluent_uses (after_objects (typed_by t) t.objects) t.fluents) rest.1).1

pub few_kinds : (t : TaskTree) → HasNoFault t → (i : ℕ) (e : FluentTree) → i < length t.fluents → length (get_or t.fluents i e).kinds ≤ 6
few_kinds t h i e l = short_fluents (after_objects (typed_by t) t.objects) t.fluents (fluents_fine t h) i e l
