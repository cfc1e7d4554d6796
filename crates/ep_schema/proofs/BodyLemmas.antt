-- What a schema that was read and has no fault is made of.
use Rattle.std.proofs.Common.{◌≡◌, ℕ, ◌+◌, ◌<◌, ◌≤◌, None, List, [], ◌∷◌, ◌++◌, length, map, All, sym, subst, arith}
use Rattle.std.specs.List.{AllByRecursion, flat_map}
use Rattle.std.proofs.lemmas.List.{length-map}
use Rattle.std.proofs.lemmas.List.Elements.{All-nil, All-cons, All-head, All-tail}
use Rattle.ep_binding.specs.declared.limits.TheConstants.{MOST_PARAMETERS}
use Rattle.ep_logic.specs.declared.limits.TheConstants.{MOST_EVENTS}
use Rattle.ep_lex.specs.declared.limits.TheConstants.{MOST_TOKENS}
use Rattle.ep_tree.specs.declared.terminal.Terminal.TheVariants as the
use Rattle.ep_tree.specs.declared.tree.SetTree.{SetTree}
use Rattle.ep_tree.specs.declared.tree.EventTree.{EventTree}
use Rattle.ep_tree.specs.declared.tree.BodyTree.{BodyTree}
use Rattle.ep_tree.specs.declared.tree.BodyTree.TheVariants.{Announce, Private, Sense, Assign, Events}
use Rattle.ep_tree.specs.declared.tree.SchemaTree.{SchemaTree}
use Rattle.ep_tree.specs.declared.tree.FormulaTree.{FormulaTree}
use Rattle.ep_tree.specs.Marks.{Mark, IsShallow, fixed}
use Rattle.ep_tree.specs.Spelling as spell
use Rattle.ep_tree.specs.Formed.{OneOrMore, IsFormedFormula, IsFormedSet, IsFormedEvent, IsFormedBody, IsFormedSchema}
use Rattle.ep_tree.proofs.CallerLemmas.{shallow-left, shallow-right}
use Rattle.ep_types.specs.Faults.{first_fault}
use Rattle.ep_types.specs.Names.{Text}
use Rattle.ep_types.specs.Places.{Scope, both, at, closed, with_params, NewName}
use Rattle.ep_types.specs.Uses as uses
use Rattle.ep_types.specs.Tasks as tasks
use Rattle.ep_types.specs.declared.scope.Declared.{Declared}
use Rattle.ep_universe.specs.Counts.{ground_count}
use Rattle.ep_universe.specs.Sizes.{IsBuildable}
use Rattle.ep_universe.specs.declared.limits.TheConstants.{MOST_GROUND_NODES}
use Rattle.ep_universe.proofs.CallerLemmas.{IsFresh, both-none, build, ends_built, group_some, long-left, long-right, new-name, some-item}
use Rattle.ep_schema.specs.Actions.{schema_bindings}
use Rattle.ep_schema.specs.Bodies.{AreBuildableSets, IsBuildableEvent, IsBuildableBody, IsBuildableSchema, event_count}
use Rattle.ep_schema.specs.Written.{values_of, event_formulas, body_formulas}
use Rattle.ep_schema.proofs.CandidateLemmas.{short}

-- ---- formulas

abbrev pub IsSmall : Declared → FormulaTree → Type 0
IsSmall d f = ground_count d f ≤ MOST_GROUND_NODES

buildable : (d : Declared) (s : Scope) (f : FormulaTree) → IsFormedFormula f → IsShallow (spell.formula f) → first_fault (uses.formula_uses f s) ≡ None → IsSmall d f → IsBuildable d f
buildable = build

all-left : {X : Type 0} (P : X → Type 0) (xs ys : List X) → All P (xs ++ ys) → All P xs
all-left P [] ys h = All-nil P
all-left P (x ∷ xs) ys h = All-cons P x xs (All-head P x (xs ++ ys) h) (all-left P xs ys (All-tail P x (xs ++ ys) h))

all-right : {X : Type 0} (P : X → Type 0) (xs ys : List X) → All P (xs ++ ys) → All P ys
all-right P [] ys h = h
all-right P (x ∷ xs) ys h = all-right P xs ys (All-tail P x (xs ++ ys) h)

sets-buildable : (d : Declared) (s : Scope) (sets : List SetTree) → AllByRecursion IsFormedSet sets → IsShallow (flat_map spell.set sets) → first_fault (tasks.sets_uses sets s) ≡ None → All (IsSmall d) (values_of sets) → AreBuildableSets d sets
sets-buildable d s [] formed shallow fine small = All-nil (λ (x : SetTree). IsBuildable d x.value)
sets-buildable d s (x ∷ xs) formed shallow fine small =
    let r = both-none (both (uses.atom_uses x.atom s) (uses.formula_uses x.value s)) (tasks.sets_uses xs s) fine in
    let here = both-none (uses.atom_uses x.atom s) (uses.formula_uses x.value s) r.0 in
    let marks = shallow-left (spell.set x) (flat_map spell.set xs) shallow in
    let value = shallow-left (spell.formula x.value) (fixed the.Semicolon ∷ []) (shallow-right (spell.atom None x.atom) (fixed the.Becomes ∷ (spell.formula x.value ++ fixed the.Semicolon ∷ [])) marks).1 in
    All-cons (λ (x : SetTree). IsBuildable d x.value) x xs
    (buildable d s x.value formed.0.1 value here.1 (All-head (IsSmall d) x.value (values_of xs) small))
    (sets-buildable d s xs formed.1 (shallow-right (spell.set x) (flat_map spell.set xs) shallow) r.1 (All-tail (IsSmall d) x.value (values_of xs) small))

braced-shallow : (marks : List Mark) → IsShallow (spell.braced marks) → IsShallow marks
braced-shallow marks h = shallow-left marks (fixed the.CloseBrace ∷ []) h.1

-- ---- fresh names

events-fresh : (taken : List Text) (es : List EventTree) (s : Scope) → first_fault (tasks.event_uses taken es s) ≡ None → IsFresh taken (tasks.event_names es)
events-fresh taken [] s h = tt
events-fresh taken (e ∷ es) s h =
    let r = both-none (at e.name.token (NewName e.name.text taken)) (both (tasks.effect_uses e.pre e.sets s) (tasks.event_uses (taken ++ e.name.text ∷ []) es s)) h in
    let q = both-none (tasks.effect_uses e.pre e.sets s) (tasks.event_uses (taken ++ e.name.text ∷ []) es s) r.1 in
    (new-name e.name.token e.name.text taken r.0, events-fresh (taken ++ e.name.text ∷ []) es s q.1)

-- ---- events

events-buildable : (d : Declared) (s : Scope) (taken : List Text) (es : List EventTree) → AllByRecursion IsFormedEvent es → IsShallow (flat_map spell.event es) → first_fault (tasks.event_uses taken es s) ≡ None →
    All (IsSmall d) (flat_map event_formulas es) → All (IsBuildableEvent d) es
events-buildable d s taken [] formed shallow fine small = All-nil (IsBuildableEvent d)
events-buildable d s taken (e ∷ es) formed shallow fine small =
    let r = both-none (at e.name.token (NewName e.name.text taken)) (both (tasks.effect_uses e.pre e.sets s) (tasks.event_uses (taken ++ e.name.text ∷ []) es s)) fine in
    let q = both-none (tasks.effect_uses e.pre e.sets s) (tasks.event_uses (taken ++ e.name.text ∷ []) es s) r.1 in
    let here = both-none (uses.formula_uses e.pre s) (tasks.sets_uses e.sets s) q.0 in
    let marks = (shallow-left (spell.event e) (flat_map spell.event es) shallow).1.1.1 in
    let own = all-left (IsSmall d) (event_formulas e) (flat_map event_formulas es) small in
    All-cons (IsBuildableEvent d) e es
    (record {
      pre = buildable d s e.pre formed.0.1 (shallow-left (spell.formula e.pre) (spell.sets e.sets) marks) here.0 (All-head (IsSmall d) e.pre (values_of e.sets) own);
      sets = sets-buildable d s e.sets formed.0.2 (braced-shallow (flat_map spell.set e.sets) (shallow-right (spell.formula e.pre) (spell.sets e.sets) marks)) here.1 (All-tail (IsSmall d) e.pre (values_of e.sets) own);
    })
    (events-buildable d s (taken ++ e.name.text ∷ []) es formed.1 (shallow-right (spell.event e) (flat_map spell.event es) shallow) q.1 (all-right (IsSmall d) (event_formulas e) (flat_map event_formulas es) small))

one-or-more : {A : Type 0} (P : A → Type 0) (xs : List A) → OneOrMore P xs → AllByRecursion P xs
one-or-more P [] h = tt
one-or-more P (x ∷ xs) h = h

-- ---- bodies

pub body_buildable : (d : Declared) (s : Scope) (body : BodyTree) → IsFormedBody body → IsShallow (spell.body body) → length (spell.body body) ≤ MOST_TOKENS → first_fault (tasks.body_uses body s) ≡ None →
    event_count body ≤ MOST_EVENTS → All (IsSmall d) (body_formulas body) → IsBuildableBody d body
body_buildable d s (Announce f) formed shallow few fine events small =
    buildable d s f formed (shallow-left (spell.formula f) (fixed the.Semicolon ∷ []) shallow.1) fine (All-head (IsSmall d) f [] small)
body_buildable d s (Private f g) formed shallow few fine events small =
    let r = both-none (uses.formula_uses f s) (uses.group_uses g s) fine in
    (buildable d s f formed.0 (shallow-left (spell.formula f) (fixed the.To ∷ (spell.group g ++ fixed the.Semicolon ∷ [])) shallow.1) r.0 (All-head (IsSmall d) f [] small), group_some g s r.1)
body_buildable d s (Sense f g) formed shallow few fine events small =
    let r = both-none (uses.formula_uses f s) (uses.group_uses g s) fine in
    (buildable d s f formed.0 (shallow-left (spell.formula f) (fixed the.By ∷ (spell.group g ++ fixed the.Semicolon ∷ [])) shallow.1) r.0 (All-head (IsSmall d) f [] small), group_some g s r.1)
body_buildable d s (Assign f sets) formed shallow few fine events small =
    let r = both-none (uses.formula_uses f s) (tasks.sets_uses sets s) fine in (
      buildable d s f formed.0 (shallow-left (spell.formula f) (spell.sets sets) shallow.1.1) r.0 (All-head (IsSmall d) f (values_of sets) small),
      sets-buildable d s sets formed.1 (braced-shallow (flat_map spell.set sets) (shallow-right (spell.formula f) (spell.sets sets) shallow.1.1)) r.1 (All-tail (IsSmall d) f (values_of sets) small),
    )
body_buildable d s (Events es designated links) formed shallow few fine events small =
    let r = both-none (tasks.event_uses [] es s) (tasks.ends_uses (tasks.event_names es) designated links s) fine in
    let behind = spell.designated designated ++ flat_map spell.link links in
    let ends = long-right (flat_map spell.event es) behind MOST_TOKENS few in
    let many = length-map es (λ (e : EventTree). e.name.text) in
    record {
      few_events = events;
      formulas = events-buildable d s [] es (one-or-more IsFormedEvent es formed.0) (shallow-left (flat_map spell.event es) behind shallow) r.0 small;
      ends = ends_built (tasks.event_names es) designated links (omega (arith, many, some-item IsFormedEvent es formed.0)) (omega (arith, many, events)) (events-fresh [] es s r.0) formed.1 ends;
    }

-- ---- schemas

-- a schema that was read and has no fault
pub record IsSound (d : Declared) (s : SchemaTree) : Type 0 where
  pub formed : IsFormedSchema s
  pub shallow : IsShallow (spell.schema s)
  pub few : length (spell.schema s) ≤ MOST_TOKENS
  pub fine : first_fault (tasks.inner_uses s (closed d)) ≡ None

pub sound_schemas : (d : Declared) (taken : List Text) (ss : List SchemaTree) → AllByRecursion IsFormedSchema ss → IsShallow (flat_map spell.schema ss) → length (flat_map spell.schema ss) ≤ MOST_TOKENS → first_fault (tasks.schema_uses taken ss d) ≡ None → All (IsSound d) ss
sound_schemas d taken [] formed shallow few fine = All-nil (IsSound d)
sound_schemas d taken (s ∷ ss) formed shallow few fine =
    let r = both-none (at s.name.token (NewName s.name.text taken)) (both (tasks.inner_uses s (closed d)) (tasks.schema_uses (taken ++ s.name.text ∷ []) ss d)) fine in
    let q = both-none (tasks.inner_uses s (closed d)) (tasks.schema_uses (taken ++ s.name.text ∷ []) ss d) r.1 in
    All-cons (IsSound d) s ss
    (record {
      formed = formed.0;
      shallow = shallow-left (spell.schema s) (flat_map spell.schema ss) shallow;
      few = long-left (spell.schema s) (flat_map spell.schema ss) MOST_TOKENS few;
      fine = q.0;
    })
    (sound_schemas d (taken ++ s.name.text ∷ []) ss formed.1 (shallow-right (spell.schema s) (flat_map spell.schema ss) shallow) (long-right (spell.schema s) (flat_map spell.schema ss) MOST_TOKENS few) q.1)

pub few_params : (d : Declared) (s : SchemaTree) → IsSound d s → length s.params ≤ MOST_PARAMETERS
few_params d s h =
    let r = both-none (uses.param_uses 0 s.params (closed d)) (tasks.body_uses s.body (with_params (closed d) s.params)) h.fine in
    let n = short 0 s.params (closed d) (omega arith) r.0 in
    omega (arith, n)

pub schema_buildable : (d : Declared) (s : SchemaTree) → IsSound d s → event_count s.body ≤ MOST_EVENTS → (0 < length (schema_bindings d s) → All (IsSmall d) (body_formulas s.body)) → IsBuildableSchema d s
schema_buildable d s h events small =
    let r = both-none (uses.param_uses 0 s.params (closed d)) (tasks.body_uses s.body (with_params (closed d) s.params)) h.fine in
    let signature = spell.signature s.params s.distinct in
    let costed = spell.cost s.cost ++ spell.braced (spell.body s.body) in
    let marks = shallow-right (spell.cost s.cost) (spell.braced (spell.body s.body)) (shallow-right signature costed h.shallow.1.1) in
    let all = long-right (spell.cost s.cost) (spell.braced (spell.body s.body)) MOST_TOKENS (long-right signature costed MOST_TOKENS (let few = h.few in omega arith)) in
    let inner = long-left (spell.body s.body) (fixed the.CloseBrace ∷ []) MOST_TOKENS (omega arith) in
    record {
      few_params = few_params d s h;
      buildable = λ some. body_buildable d (with_params (closed d) s.params) s.body h.formed.3 (braced-shallow (spell.body s.body) marks) inner r.1 events (small some);
    }
