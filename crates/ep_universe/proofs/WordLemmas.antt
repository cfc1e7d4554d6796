-- What the names of a task that was read and has no fault are: words, and those of a list differ.
use Rattle.std.proofs.Common.{◌≡◌, ◌≢◌, ℕ, ◌≤◌, Bool, true, false, ◌&&◌, not, IsTrue, None, unwrap_or, List, [], ◌∷◌, ◌++◌, length, map, nat_le, All, refl, ap, sym, ◌∙◌, subst, append_assoc, append-nil}
use Rattle.std.specs.List.{AllByRecursion, flat_map, list_all}
use Rattle.std.proofs.lemmas.Bool.{true≢false}
use Rattle.std.proofs.lemmas.List.Elements.{All-nil, All-cons, All-append}
use Rattle.ep_binding.specs.Bindings.{IsApart}
use Rattle.ep_lex.specs.Pieces.{is_letter, is_word_byte}
use Rattle.ep_name.specs.Names.{IsPlainByte, IsPlain}
use Rattle.ep_tree.specs.Formed.{OneOrMore, IsFormedName, IsFormedObject}
use Rattle.ep_tree.specs.Grammar.{IsRead}
use Rattle.ep_tree.specs.Terminals.{is_name, is_reserved}
use Rattle.ep_tree.specs.declared.tree.Name.{Name}
use Rattle.ep_tree.specs.declared.tree.ObjectTree.{ObjectTree}
use Rattle.ep_tree.specs.declared.tree.TaskTree.{TaskTree}
use Rattle.ep_types.specs.Atoms.{texts}
use Rattle.ep_types.specs.Faults.{first_fault}
use Rattle.ep_types.specs.Names.{Text, names_of}
use Rattle.ep_types.specs.Places.{both, at, NewName, UsedName}
use Rattle.ep_types.specs.Tasks as tasks
use Rattle.ep_types.specs.Tasks.{HasNoFault, declarations, start}
use Rattle.ep_types.specs.declared.scope.Declared.{Declared}
use Rattle.ep_universe.proofs.EndLemmas.{IsFresh, fresh-apart, new-name}
use Rattle.ep_universe.proofs.GroundLemmas.{left, right}
use Rattle.ep_universe.proofs.NameLemmas.{objects-declared}
use Rattle.ep_universe.proofs.TypedLemmas.{both-none, objects_fine, typed_by}

-- ---- words

other : (p : ℕ → Bool) (c k : ℕ) → p k ≡ false → p c ≡ true → c ≢ k
other p c k f t = λ e. true≢false (sym t ∙ ap p e ∙ f)

plain-letter : (c : ℕ) → is_letter c ≡ true → IsPlainByte c
plain-letter c h = (other is_letter c 40 refl h, other is_letter c 41 refl h, other is_letter c 44 refl h)

plain-byte : (c : ℕ) → is_word_byte c ≡ true → IsPlainByte c
plain-byte c h = (other is_word_byte c 40 refl h, other is_word_byte c 41 refl h, other is_word_byte c 44 refl h)

plain-bytes : (cs : List ℕ) → IsTrue (list_all is_word_byte cs) → IsPlain cs
plain-bytes [] h = All-nil IsPlainByte
plain-bytes (c ∷ cs) h =
    All-cons IsPlainByte c cs (plain-byte c (left (is_word_byte c) (list_all is_word_byte cs) h)) (plain-bytes cs (right (is_word_byte c) (list_all is_word_byte cs) h))

pub plain-name : (text : List ℕ) → IsTrue (is_name text) → IsPlain text
plain-name [] h = All-nil IsPlainByte
plain-name (c ∷ cs) h =
    let letters = is_letter c && list_all is_word_byte cs in
    let word = left (letters && nat_le (length cs) 63) (not (is_reserved (c ∷ cs))) h in
    let two = left letters (nat_le (length cs) 63) word in
    All-cons IsPlainByte c cs (plain-letter c (left (is_letter c) (list_all is_word_byte cs) two)) (plain-bytes cs (right (is_letter c) (list_all is_word_byte cs) two))

plain-names : (xs : List Name) → AllByRecursion IsFormedName xs → All IsPlain (texts xs)
plain-names [] h = All-nil IsPlain
plain-names (x ∷ xs) h = All-cons IsPlain x.text (texts xs) (plain-name x.text h.0) (plain-names xs h.1)

one-or-more : (xs : List Name) → OneOrMore IsFormedName xs → AllByRecursion IsFormedName xs
one-or-more [] h = tt
one-or-more (x ∷ xs) h = h

plain-objects : (es : List ObjectTree) → AllByRecursion IsFormedObject es → All IsPlain (flat_map (λ e. texts e.names) es)
plain-objects [] h = All-nil IsPlain
plain-objects (e ∷ es) h =
    All-append IsPlain (texts e.names) (flat_map (λ (e : ObjectTree). texts e.names) es) (plain-names e.names (one-or-more e.names h.0.0)) (plain-objects es h.1)

-- ---- fresh names

names-push : (d : Declared) (kind : Text) (x : Name) → names_of (tasks.with_object d kind x).objects ≡ names_of d.objects ++ x.text ∷ []
names-push d kind x = by d.objects
  where
    by : (es : List (Text × Text)) → names_of (es ++ (x.text, kind) ∷ []) ≡ names_of es ++ x.text ∷ []
    by [] = refl
    by (e ∷ es) = ap (λ z. e.0 ∷ z) (by es)

fresh-append : (taken xs ys : List Text) → IsFresh taken xs → IsFresh (taken ++ xs) ys → IsFresh taken (xs ++ ys)
fresh-append taken [] ys h k = subst (λ z. IsFresh z ys) (append-nil taken) k
fresh-append taken (x ∷ xs) ys h k = (h.0, fresh-append (taken ++ x ∷ []) xs ys h.1 (subst (λ z. IsFresh z ys) (sym (append_assoc taken (x ∷ []) xs)) k))

entry-fresh : (d : Declared) (kind : Text) (xs : List Name) → first_fault (tasks.name_uses d kind xs) ≡ None → IsFresh (names_of d.objects) (texts xs)
entry-fresh d kind [] h = tt
entry-fresh d kind (x ∷ xs) h =
    let r = both-none (at x.token (NewName x.text (names_of d.objects))) (tasks.name_uses (tasks.with_object d kind x) kind xs) h in
    (new-name x.token x.text (names_of d.objects) r.0, subst (λ z. IsFresh z (texts xs)) (names-push d kind x) (entry-fresh (tasks.with_object d kind x) kind xs r.1))

names-entry : (d : Declared) (kind : Text) (xs : List Name) → names_of (tasks.with_objects d kind xs).objects ≡ names_of d.objects ++ texts xs
names-entry d kind [] = sym (append-nil (names_of d.objects))
names-entry d kind (x ∷ xs) =
    names-entry (tasks.with_object d kind x) kind xs
    ∙ ap (λ z. z ++ texts xs) (names-push d kind x)
    ∙ append_assoc (names_of d.objects) (x.text ∷ []) (texts xs)

objects-fresh : (d : Declared) (es : List ObjectTree) → first_fault (tasks.object_uses d es) ≡ None → IsFresh (names_of d.objects) (flat_map (λ e. texts e.names) es)
objects-fresh d [] h = tt
objects-fresh d (e ∷ es) h =
    let all = tasks.with_objects d e.kind.text e.names in
    let r = both-none (tasks.name_uses d e.kind.text e.names) (both (at e.kind.token (UsedName e.kind.text (names_of all.types))) (tasks.object_uses all es)) h in
    let q = both-none (at e.kind.token (UsedName e.kind.text (names_of all.types))) (tasks.object_uses all es) r.1 in
    let rest = flat_map (λ (e : ObjectTree). texts e.names) es in
    fresh-append (names_of d.objects) (texts e.names) rest (entry-fresh d e.kind.text e.names r.0)
    (subst (λ z. IsFresh z rest) (names-entry d e.kind.text e.names) (objects-fresh all es q.1))

objects-types : (d : Declared) (es : List _) → (tasks.after_types d es).objects ≡ d.objects
objects-types d [] = refl
objects-types d (e ∷ es) = objects-types (tasks.with_type d e) es

-- ---- the objects of a task

module _ (t : TaskTree) (fine : HasNoFault t) (read : IsRead t) where
  pub objects_apart : IsApart (names_of (declarations t).objects)
  objects_apart =
      let objects = flat_map (λ (e : ObjectTree). texts e.names) t.objects in
      let none : names_of (typed_by t).objects ≡ [] = ap names_of (objects-types start (unwrap_or t.types [])) in
      subst IsApart (sym (objects-declared t)) (fresh-apart objects (subst (λ z. IsFresh z objects) none (objects-fresh (typed_by t) t.objects (objects_fine t fine))))

  pub objects_plain : All IsPlain (names_of (declarations t).objects)
  objects_plain = subst (All IsPlain) (sym (objects-declared t)) (plain-objects t.objects read.formed.2)
