-- The objects of each parameter, and how many parameters there are.
use Rattle.std.proofs.Common.{◌≡◌, ℕ, ◌+◌, ◌≤◌, Bool, true, false, cond, nat_eq, List, [], ◌∷◌, ◌++◌, None, length, All, arith}
use Rattle.std.proofs.lemmas.List.Elements.{All-nil, All-cons, All-filter, All-weaker}
use Rattle.ep_binding.specs.declared.limits.TheConstants.{MOST_OBJECTS, MOST_PARAMETERS}
use Rattle.ep_binding.specs.Bindings.{IsObjects, all_different, bindings, distinct_bindings}
use Rattle.ep_lex.specs.declared.limits.TheConstants.{MOST_TOKENS}
use Rattle.ep_tree.specs.Grammar.{IsRead}
use Rattle.ep_tree.specs.Spelling as spell
use Rattle.ep_tree.specs.declared.tree.ParamTree.{ParamTree}
use Rattle.ep_tree.specs.declared.tree.SchemaTree.{SchemaTree}
use Rattle.ep_tree.specs.declared.tree.TaskTree.{TaskTree}
use Rattle.ep_types.specs.Faults.{first_fault, first_row, table}
use Rattle.ep_types.specs.Names.{Text, names_of}
use Rattle.ep_types.specs.Places.{Scope, closed, with_param, with_params, NewName, NewParam, UsedName, both, at}
use Rattle.ep_types.specs.Tasks.{HasNoFault, declarations, schema_uses, inner_uses, body_uses}
use Rattle.ep_types.specs.Uses.{param_uses}
use Rattle.ep_types.specs.declared.scope.Declared.{Declared}
use Rattle.ep_universe.specs.Objects.{candidates}
use Rattle.ep_universe.proofs.CallerLemmas.{AreBelow, bindings-below, both-none, located-none, many, params-are, params-below, row-none, schemas_fine, schemas_long}
use Rattle.ep_schema.specs.Actions.{schema_bindings}

-- ---- objects

pub are_few : (d : Declared) → length d.objects ≤ MOST_OBJECTS → (ps : List ParamTree) → All (λ c. length c ≤ MOST_OBJECTS) (candidates d ps)
are_few d h ps = All-weaker IsObjects (λ c. length c ≤ MOST_OBJECTS) (λ c o. o.few) (candidates d ps) (params-are d ps h)

-- the bindings of a schema are of objects that there are
pub schema-below : (d : Declared) (s : SchemaTree) → All (AreBelow (length d.objects)) (schema_bindings d s)
schema-below d s = by s.distinct
  where
    all : All (AreBelow (length d.objects)) (bindings (candidates d s.params))
    all = bindings-below (length d.objects) (candidates d s.params) (params-below d s.params)

    by : (b : Bool) → All (AreBelow (length d.objects)) (cond b (distinct_bindings (candidates d s.params)) (bindings (candidates d s.params)))
    by true = All-filter all_different (AreBelow (length d.objects)) (bindings (candidates d s.params)) all
    by false = all

-- ---- few enough parameters

before_seventh : (n : ℕ) → nat_eq n 6 ≡ false → n ≤ 6 → n + 1 ≤ 6
before_seventh n h l = grind arith

pub short : (n : ℕ) (ps : List ParamTree) (s : Scope) → n ≤ 6 → first_fault (param_uses n ps s) ≡ None → length ps + n ≤ 6
short n [] s l h = omega arith
short n (p ∷ ps) s l h =
    let kind = at p.kind.token (UsedName p.kind.text (names_of s.names.types)) in
    let rest = param_uses (n + 1) ps (with_param s p) in
    let parts = both-none (at p.name.token (NewParam n p.name.text s)) (both kind rest) h in
    let row = located-none p.name.token (first_row (table (NewParam n p.name.text s))) parts.0 in
    let here = row-none (nat_eq n 6) _ _ row in
    let later = both-none kind rest parts.1 in
    let few = short (n + 1) ps (with_param s p) (before_seventh n here.0 l) later.1 in
    omega (arith, few)

abbrev pub HasFewParams : SchemaTree → Type 0
HasFewParams s = length s.params ≤ MOST_PARAMETERS

pub few_schemas : (t : TaskTree) → IsRead t → length t.schemas ≤ MOST_TOKENS
few_schemas t h = omega (arith, schemas_long t h, many spell.schema (λ s. omega arith) t.schemas)

short_schemas : (taken : List Text) (ss : List SchemaTree) (d : Declared) → first_fault (schema_uses taken ss d) ≡ None → All HasFewParams ss
short_schemas taken [] d h = All-nil HasFewParams
short_schemas taken (e ∷ es) d h =
    let rest = schema_uses (taken ++ e.name.text ∷ []) es d in
    let parts = both-none (at e.name.token (NewName e.name.text taken)) (both (inner_uses e (closed d)) rest) h in
    let inner = both-none (inner_uses e (closed d)) rest parts.1 in
    let params = both-none (param_uses 0 e.params (closed d)) (body_uses e.body (with_params (closed d) e.params)) inner.0 in
    let few = short 0 e.params (closed d) (omega arith) params.0 in
    All-cons HasFewParams e es (omega (arith, few)) (short_schemas (taken ++ e.name.text ∷ []) es d inner.1)

pub few_params : (t : TaskTree) → HasNoFault t → All HasFewParams t.schemas
few_params t h = short_schemas [] t.schemas (declarations t) (schemas_fine t h)
