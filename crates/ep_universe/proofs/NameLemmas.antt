-- The names that a task declares, and the ranges of objects and fluents.
use Rattle.std.proofs.Common.{◌≡◌, ◌≢◌, ℕ, zero, suc, ◌+◌, ◌<◌, ◌≤◌, Bool, true, false, cond, List, [], ◌∷◌, ◌++◌, unwrap_or, length, map, take, get_or, All, refl, ap, sym, ◌∙◌, subst, arith, append_assoc, append-nil}
use Rattle.std.specs.List.{flat_map}
use Rattle.std.proofs.lemmas.List.{length-map, take_more, get_or-map}
use Rattle.std.proofs.lemmas.List.Quantifiers.{all_pairs_push}
use Rattle.std.proofs.lemmas.List.Concat.{flat_map-append}
use Rattle.std.proofs.lemmas.List.Elements.{All-nil, All-cons, All-append, All-map, All-get_or, All-from_get_or, All-contains, All-weaker}
use Rattle.ep_binding.specs.declared.limits.TheConstants.{MOST_OBJECTS}
use Rattle.ep_binding.specs.Bindings.{bindings, IsBinding, IsApart, IsObjects}
use Rattle.ep_binding.proofs.CallerLemmas.{pairs-nil, all-bindings}
use Rattle.ep_logic.specs.Numbers.{numbers_where}
use Rattle.ep_theory.proofs.CallerLemmas.{IsIn-at, from_numbers}
use Rattle.ep_tree.specs.declared.tree.Name.{Name}
use Rattle.ep_tree.specs.declared.tree.TypeTree.{TypeTree}
use Rattle.ep_tree.specs.declared.tree.ObjectTree.{ObjectTree}
use Rattle.ep_tree.specs.declared.tree.FluentTree.{FluentTree}
use Rattle.ep_tree.specs.declared.tree.ParamTree.{ParamTree}
use Rattle.ep_tree.specs.declared.tree.TaskTree.{TaskTree}
use Rattle.ep_types.specs.Atoms.{texts}
use Rattle.ep_types.specs.Names.{Text, names_of, values_of}
use Rattle.ep_types.specs.Tasks.{declarations, start, with_type, after_types, with_objects, with_object, after_objects, with_fluent, after_fluents}
use Rattle.ep_types.specs.declared.scope.Declared.{Declared}
use Rattle.ep_universe.specs.declared.atoms.GroundAtom.{GroundAtom}
use Rattle.ep_universe.specs.Atoms.{atoms_at, atoms_from, atoms_of}
use Rattle.ep_universe.proofs.AtomLemmas.{few_numbers}
use Rattle.ep_universe.specs.Objects.{objects_of, has_type, candidates}

-- ---- names

names-append : {V : Type 0} (es fs : List (Text × V)) → names_of (es ++ fs) ≡ names_of es ++ names_of fs
names-append [] fs = refl
names-append (e ∷ es) fs = ap (λ z. e.0 ∷ z) (names-append es fs)

named_objects : (d : Declared) (kind : Text) (xs : List Name) → names_of (with_objects d kind xs).objects ≡ names_of d.objects ++ texts xs
named_objects d kind [] = sym (append-nil (names_of d.objects))
named_objects d kind (x ∷ xs) =
    named_objects (with_object d kind x) kind xs
    ∙ ap (λ z. z ++ texts xs) (names-append d.objects ((x.text, kind) ∷ []))
    ∙ append_assoc (names_of d.objects) (x.text ∷ []) (texts xs)

all_objects : (d : Declared) (es : List ObjectTree) → names_of (after_objects d es).objects ≡ names_of d.objects ++ flat_map (λ e. texts e.names) es
all_objects d [] = sym (append-nil (names_of d.objects))
all_objects d (e ∷ es) =
    all_objects (with_objects d e.kind.text e.names) es
    ∙ ap (λ z. z ++ flat_map (λ (e : ObjectTree). texts e.names) es) (named_objects d e.kind.text e.names)
    ∙ append_assoc (names_of d.objects) (texts e.names) (flat_map (λ (e : ObjectTree). texts e.names) es)

objects-fluents : (d : Declared) (es : List FluentTree) → (after_fluents d es).objects ≡ d.objects
objects-fluents d [] = refl
objects-fluents d (e ∷ es) = objects-fluents (with_fluent d e) es

objects-types : (d : Declared) (es : List TypeTree) → (after_types d es).objects ≡ d.objects
objects-types d [] = refl
objects-types d (e ∷ es) = objects-types (with_type d e) es

-- the names of the objects, as they are written
pub objects-declared : (t : TaskTree) → names_of (declarations t).objects ≡ flat_map (λ e. texts e.names) t.objects
objects-declared t =
    let types = after_types start (unwrap_or t.types []) in
    ap names_of (objects-fluents (after_objects types t.objects) t.fluents)
    ∙ all_objects types t.objects
    ∙ ap (λ z. names_of z ++ flat_map (λ (e : ObjectTree). texts e.names) t.objects) (objects-types start (unwrap_or t.types []))

all_fluents : (d : Declared) (es : List FluentTree) → names_of (after_fluents d es).fluents ≡ names_of d.fluents ++ map (λ e. e.name.text) es
all_fluents d [] = sym (append-nil (names_of d.fluents))
all_fluents d (e ∷ es) =
    all_fluents (with_fluent d e) es
    ∙ ap (λ z. z ++ map (λ (e : FluentTree). e.name.text) es) (names-append d.fluents ((e.name.text, texts e.kinds) ∷ []))
    ∙ append_assoc (names_of d.fluents) (e.name.text ∷ []) (map (λ (e : FluentTree). e.name.text) es)

fluents-object : (d : Declared) (kind : Text) (xs : List Name) → (with_objects d kind xs).fluents ≡ d.fluents
fluents-object d kind [] = refl
fluents-object d kind (x ∷ xs) = fluents-object (with_object d kind x) kind xs

fluents-objects : (d : Declared) (es : List ObjectTree) → (after_objects d es).fluents ≡ d.fluents
fluents-objects d [] = refl
fluents-objects d (e ∷ es) = fluents-objects (with_objects d e.kind.text e.names) es ∙ fluents-object d e.kind.text e.names

fluents-types : (d : Declared) (es : List TypeTree) → (after_types d es).fluents ≡ d.fluents
fluents-types d [] = refl
fluents-types d (e ∷ es) = fluents-types (with_type d e) es

-- the names of the fluents, as they are written
pub fluents-named : (t : TaskTree) → names_of (declarations t).fluents ≡ map (λ e. e.name.text) t.fluents
fluents-named t =
    let types = after_types start (unwrap_or t.types []) in
    all_fluents (after_objects types t.objects) t.fluents
    ∙ ap (λ z. names_of z ++ map (λ (e : FluentTree). e.name.text) t.fluents) (fluents-objects types t.objects ∙ fluents-types start (unwrap_or t.types []))

pub many_fluents : (t : TaskTree) → length (declarations t).fluents ≡ length t.fluents
many_fluents t =
    sym (length-map (declarations t).fluents (λ e. e.0)) ∙ ap length (fluents-named t) ∙ length-map t.fluents (λ e. e.name.text)

pub fluent_named : (t : TaskTree) (i : ℕ) (e : FluentTree) → i < length t.fluents → e ≡ get_or t.fluents i e → get_or (names_of (declarations t).fluents) i [] ≡ e.name.text
fluent_named t i e l here = ap (λ z. get_or z i []) (fluents-named t) ∙ get_or-map (λ (e : FluentTree). e.name.text) t.fluents i e [] l ∙ ap (λ (e : FluentTree). e.name.text) (sym here)

pub flat_more : {X Y : Type 0} (f : X → List Y) (xs : List X) (i : ℕ) (x : X) → i < length xs → x ≡ get_or xs i x → flat_map f (take (i + 1) xs) ≡ flat_map f (take i xs) ++ f x
flat_more f xs i x l here =
    ap (flat_map f) (take_more xs i x l)
    ∙ flat_map-append f (take i xs) (get_or xs i x ∷ [])
    ∙ ap (λ z. flat_map f (take i xs) ++ z) (append-nil (f (get_or xs i x)) ∙ ap f (sym here))

-- ---- ranges

abbrev pub AreBelow : ℕ → List ℕ → Type 0
AreBelow n os = All (λ o. o < n) os

numbers-below : (p : ℕ → Bool) (n : ℕ) → AreBelow n (numbers_where p n)
numbers-below p n = All-from_get_or (λ o. o < n) (numbers_where p n) 0 (λ i l. (from_numbers p n (get_or (numbers_where p n) i 0) (IsIn-at (numbers_where p n) i 0 l)).0)

pub objects-below : (d : Declared) (kind : Text) → AreBelow (length d.objects) (objects_of d kind)
objects-below d kind = numbers-below (has_type d kind) (length d.objects)

binding-below : (n : ℕ) (cs : List (List ℕ)) (b : List ℕ) → All (AreBelow n) cs → IsBinding cs b → AreBelow n b
binding-below n cs b h is = All-from_get_or (λ o. o < n) b 0 (λ i l.
    let within : i < length cs = omega (arith, l, is.long) in
    All-contains (λ o. o < n) (get_or cs i []) (get_or b i 0) (All-get_or (AreBelow n) cs i [] within h) (is.each i within))

pub bindings-below : (n : ℕ) (cs : List (List ℕ)) → All (AreBelow n) cs → All (AreBelow n) (bindings cs)
bindings-below n cs h = All-weaker (IsBinding cs) (AreBelow n) (λ b is. binding-below n cs b h is) (bindings cs) (all-bindings cs)

candidates-below : (d : Declared) (kinds : List Text) → All (AreBelow (length d.objects)) (map (objects_of d) kinds)
candidates-below d [] = All-nil (AreBelow (length d.objects))
candidates-below d (k ∷ ks) = All-cons (AreBelow (length d.objects)) (objects_of d k) (map (objects_of d) ks) (objects-below d k) (candidates-below d ks)

pub params-below : (d : Declared) (ps : List ParamTree) → All (AreBelow (length d.objects)) (candidates d ps)
params-below d [] = All-nil (AreBelow (length d.objects))
params-below d (p ∷ ps) = All-cons (AreBelow (length d.objects)) (objects_of d p.kind.text) (candidates d ps) (objects-below d p.kind.text) (params-below d ps)

pub apart-numbers : (p : ℕ → Bool) (n : ℕ) → IsApart (numbers_where p n)
apart-numbers p zero = pairs-nil (λ x y. x ≢ y)
apart-numbers p (suc n) = by (p n) (apart-numbers p n)
  where
    later : (k d : ℕ) → k < length (numbers_where p n) → get_or (numbers_where p n) k d ≢ n
    later k d l = λ e. let below = (from_numbers p n (get_or (numbers_where p n) k d) (IsIn-at (numbers_where p n) k d l)).0 in omega arith

    by : (b : Bool) → IsApart (numbers_where p n) → IsApart (numbers_where p n ++ cond b (n ∷ []) [])
    by true h = all_pairs_push (λ x y. x ≢ y) (numbers_where p n) n h later
    by false h = subst IsApart (sym (append-nil (numbers_where p n))) h

pub objects-are : (d : Declared) (kind : Text) → length d.objects ≤ MOST_OBJECTS → IsObjects (objects_of d kind)
objects-are d kind h = record { few = omega (arith, few_numbers (has_type d kind) (length d.objects), h); apart = apart-numbers (has_type d kind) (length d.objects) }

pub params-are : (d : Declared) (ps : List ParamTree) → length d.objects ≤ MOST_OBJECTS → All IsObjects (candidates d ps)
params-are d [] h = All-nil IsObjects
params-are d (p ∷ ps) h = All-cons IsObjects (objects_of d p.kind.text) (candidates d ps) (objects-are d p.kind.text h) (params-are d ps h)

-- a ground atom is of a fluent and of objects that there are
pub record IsAtom (d : Declared) (a : GroundAtom) : Type 0 where
  pub fluent : a.fluent < length d.fluents
  pub objects : AreBelow (length d.objects) a.objects

atoms-from : (d : Declared) (n : ℕ) (kinds : List (List Text)) → n + length kinds ≤ length d.fluents → All (IsAtom d) (atoms_from d n kinds)
atoms-from d n [] h = All-nil (IsAtom d)
atoms-from d n (ks ∷ rest) h =
    All-append (IsAtom d) (atoms_at d n ks) (atoms_from d (n + 1) rest)
    (All-map (IsAtom d) (λ objects. record { fluent = n; objects = objects }) (bindings (map (objects_of d) ks))
    (All-weaker (AreBelow (length d.objects)) (λ objects. IsAtom d (record { fluent = n; objects = objects })) (λ objects below. record { fluent = omega arith; objects = below })
    (bindings (map (objects_of d) ks)) (bindings-below (length d.objects) (map (objects_of d) ks) (candidates-below d ks))))
    (atoms-from d (n + 1) rest (omega arith))

pub all_atoms : (d : Declared) → All (IsAtom d) (atoms_of d)
all_atoms d = let long = length-map d.fluents (λ e. e.1) in atoms-from d 0 (values_of d.fluents) (omega (arith, long))
