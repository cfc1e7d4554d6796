-- The printed names of ground actions differ.
use Rattle.std.proofs.Common.{◌≡◌, ◌≢◌, ℕ, ◌<◌, Bool, true, false, cond, List, [], ◌∷◌, length, map, take, get_or, All, sym, ◌∙◌, subst, arith}
use Rattle.std.specs.Prelude.{AllPairs}
use Rattle.std.specs.List.{flat_map}
use Rattle.std.proofs.lemmas.List.{length-map, length-take, get_or-take, get_or-map}
use Rattle.std.proofs.lemmas.List.Elements.{All-nil, All-cons, All-head, All-tail, All-append, All-map, All-get_or, All-from_get_or, All-weaker}
use Rattle.ep_binding.specs.Bindings.{bindings, distinct_bindings, IsApart}
use Rattle.ep_binding.proofs.CallerLemmas.{pairs-nil, pairs-head, pairs-tail, pairs-append, apart-bindings, apart-distinct}
use Rattle.ep_name.specs.Names.{IsPlain}
use Rattle.ep_name.proofs.CallerLemmas.{printed-tells, printed-apart}
use Rattle.ep_tree.specs.declared.tree.ParamTree.{ParamTree}
use Rattle.ep_tree.specs.declared.tree.SchemaTree.{SchemaTree}
use Rattle.ep_types.specs.Names.{Text, names_of}
use Rattle.ep_types.specs.declared.scope.Declared.{Declared}
use Rattle.ep_universe.specs.Objects.{objects_of, has_type, candidates}
use Rattle.ep_schema.specs.Actions.{schema_bindings}
use Rattle.ep_schema.specs.ActionNames.{AreNames, action_name, schema_names, action_names}
use Rattle.ep_universe.specs.PrintedNames.{object_name}
use Rattle.ep_universe.proofs.CallerLemmas.{AreBelow, apart-numbers}
use Rattle.ep_schema.proofs.CandidateLemmas.{schema-below}

-- one text more that is new
pub new_text : (xs : List Text) (i : ℕ) (x : Text) → IsApart xs → i < length xs → x ≡ get_or xs i x → All (λ known. known ≢ x) (take i xs)
new_text xs i x apart l here =
    All-from_get_or (λ known. known ≢ x) (take i xs) x (λ k m. λ same.
    let short : k < i = omega (arith, m, length-take i xs) in
    apart k i x short l (sym (get_or-take i xs k x short) ∙ same ∙ here))

module _ (d : Declared) where
  params-apart : (ps : List ParamTree) → All IsApart (candidates d ps)
  params-apart [] = All-nil IsApart
  params-apart (p ∷ ps) = All-cons IsApart (objects_of d p.kind.text) (candidates d ps) (apart-numbers (has_type d p.kind.text) (length d.objects)) (params-apart ps)

  bindings-apart : (s : SchemaTree) → IsApart (schema_bindings d s)
  bindings-apart s = by s.distinct
    where
      by : (b : Bool) → IsApart (cond b (distinct_bindings (candidates d s.params)) (bindings (candidates d s.params)))
      by true = apart-distinct (candidates d s.params) (params-apart s.params)
      by false = apart-bindings (candidates d s.params) (params-apart s.params)

  abbrev IsNamed : List ℕ → Type 0
  IsNamed b = AreBelow (length (names_of d.objects)) b

  bindings-named : (s : SchemaTree) → All IsNamed (schema_bindings d s)
  bindings-named s =
      let many : length (names_of d.objects) ≡ length d.objects = length-map d.objects (λ e. e.0) in
      subst (λ n. All (AreBelow n) (schema_bindings d s)) (sym many) (schema-below d s)

  plain-objects : (b : List ℕ) → All IsPlain (names_of d.objects) → IsNamed b → All IsPlain (map (object_name d) b)
  plain-objects b plain h =
      All-map IsPlain (object_name d) b
      (All-from_get_or (λ o. IsPlain (object_name d o)) b 0 (λ k l. All-get_or IsPlain (names_of d.objects) (get_or b k 0) [] (All-get_or (λ o. o < length (names_of d.objects)) b k 0 l h) plain))

  module _ (apart : IsApart (names_of d.objects)) (plain : All IsPlain (names_of d.objects)) where
    -- actions of two schemas
    differ : (s r : SchemaTree) (a b : List ℕ) → IsPlain s.name.text → IsPlain r.name.text → s.name.text ≢ r.name.text → IsNamed a → IsNamed b → action_name d s a ≢ action_name d r b
    differ s r a b p q other h k = λ e.
        other (printed-tells s.name.text r.name.text (map (object_name d) a) (map (object_name d) b) p q (plain-objects a plain h) (plain-objects b plain k) e).0

    across : (s : SchemaTree) (a : List ℕ) (ss : List SchemaTree) → IsPlain s.name.text → All (λ r. IsPlain r.name.text) ss → All (λ r. s.name.text ≢ r.name.text) ss → IsNamed a →
        All (λ y. action_name d s a ≢ y) (flat_map (schema_names d) ss)
    across s a [] p q other h = All-nil (λ y. action_name d s a ≢ y)
    across s a (r ∷ ss) p q other h =
        All-append (λ y. action_name d s a ≢ y) (schema_names d r) (flat_map (schema_names d) ss)
        (All-map (λ y. action_name d s a ≢ y) (action_name d r) (schema_bindings d r)
        (All-weaker IsNamed (λ b. action_name d s a ≢ action_name d r b)
        (λ b k. differ s r a b p (All-head (λ (r : SchemaTree). IsPlain r.name.text) r ss q) (All-head (λ (r : SchemaTree). s.name.text ≢ r.name.text) r ss other) h k)
        (schema_bindings d r) (bindings-named r)))
        (across s a ss p (All-tail (λ (r : SchemaTree). IsPlain r.name.text) r ss q) (All-tail (λ (r : SchemaTree). s.name.text ≢ r.name.text) r ss other) h)

    apart-all : (ss : List SchemaTree) → AllPairs (λ (s r : SchemaTree). s.name.text ≢ r.name.text) ss → All (λ r. IsPlain r.name.text) ss → IsApart (flat_map (schema_names d) ss)
    apart-all [] h q = pairs-nil (λ x y. x ≢ y)
    apart-all (s ∷ ss) h q =
        let here = All-head (λ (r : SchemaTree). IsPlain r.name.text) s ss q in
        let rest = All-tail (λ (r : SchemaTree). IsPlain r.name.text) s ss q in
        let others = pairs-head (λ (s r : SchemaTree). s.name.text ≢ r.name.text) s ss h in
        pairs-append (λ x y. x ≢ y) (schema_names d s) (flat_map (schema_names d) ss)
        (printed-apart (names_of d.objects) plain apart s.name.text (schema_bindings d s) here (bindings-named s) (bindings-apart s))
        (apart-all ss (pairs-tail (λ (s r : SchemaTree). s.name.text ≢ r.name.text) s ss h) rest)
        (All-map (λ x. All (λ y. x ≢ y) (flat_map (schema_names d) ss)) (action_name d s) (schema_bindings d s)
        (All-weaker IsNamed (λ a. All (λ y. action_name d s a ≢ y) (flat_map (schema_names d) ss)) (λ a k. across s a ss here rest others k) (schema_bindings d s) (bindings-named s)))

from-names : (ss : List SchemaTree) → IsApart (map (λ s. s.name.text) ss) → AllPairs (λ (s r : SchemaTree). s.name.text ≢ r.name.text) ss
from-names ss h i j e below within = λ same.
    h i j e.name.text below (omega (arith, within, length-map ss (λ s. s.name.text)))
    (get_or-map (λ (s : SchemaTree). s.name.text) ss i e e.name.text (omega (arith, below, within)) ∙ same ∙ sym (get_or-map (λ (s : SchemaTree). s.name.text) ss j e e.name.text within))

plain-names : (ss : List SchemaTree) → All IsPlain (map (λ s. s.name.text) ss) → All (λ r. IsPlain r.name.text) ss
plain-names [] h = All-nil (λ (r : SchemaTree). IsPlain r.name.text)
plain-names (s ∷ ss) h =
    All-cons (λ (r : SchemaTree). IsPlain r.name.text) s ss
    (All-head IsPlain s.name.text (map (λ (s : SchemaTree). s.name.text) ss) h)
    (plain-names ss (All-tail IsPlain s.name.text (map (λ (s : SchemaTree). s.name.text) ss) h))

pub names_differ : (d : Declared) (ss : List SchemaTree) → AreNames d ss → IsApart (action_names d ss)
names_differ d ss h = apart-all d h.objects_apart h.objects_plain ss (from-names ss h.schemas_apart) (plain-names ss h.schemas_plain)
