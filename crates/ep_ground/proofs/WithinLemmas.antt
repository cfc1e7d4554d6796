-- A task that was read, has no type fault and is within the limits can be built.
use Rattle.std.proofs.Common.{◌≡◌, ℕ, ◌+◌, ◌<◌, ◌≤◌, Bool, true, false, cond, ◌&&◌, nat_lt, List, [], ◌∷◌, ◌++◌, Option, Some, None, Result, Ok, Err, IfOk, length, map, All, refl, sym, ◌∙◌, subst, arith}
use Rattle.std.specs.List.{flat_map}
use Rattle.std.proofs.lemmas.Bool.Decides.{nat_tests}
use Rattle.std.proofs.lemmas.List.Elements.{All-nil, All-cons, All-head, All-tail}
use Rattle.ep_base.specs.Refusals.{IsJudged, above}
use Rattle.ep_base.proofs.CallerLemmas.{none_first, not_above}
use Rattle.ep_logic.specs.declared.limits.TheConstants.{MOST_EVENTS, MOST_GROUND_ACTIONS}
use Rattle.ep_tree.specs.Formed.{IsFormedInit}
use Rattle.ep_tree.specs.Marks.{IsShallow, fixed}
use Rattle.ep_tree.specs.Spelling as spell
use Rattle.ep_tree.specs.declared.terminal.Terminal.TheVariants as the
use Rattle.ep_tree.specs.declared.tree.FormulaTree.{FormulaTree}
use Rattle.ep_tree.specs.declared.tree.InitTree.{InitTree}
use Rattle.ep_tree.specs.declared.tree.InitTree.TheVariants.{Explicit, Lawful}
use Rattle.ep_tree.specs.declared.tree.SchemaTree.{SchemaTree}
use Rattle.ep_tree.proofs.CallerLemmas.{shallow-left, shallow-right}
use Rattle.ep_types.specs.Faults.{first_fault}
use Rattle.ep_types.specs.Places.{closed, objective, both}
use Rattle.ep_types.specs.Tasks.{init_uses, given_uses, law_uses, sees_uses}
use Rattle.ep_types.specs.Uses.{formula_uses}
use Rattle.ep_types.specs.declared.scope.Declared.{Declared}
use Rattle.ep_universe.specs.Counts.{ground_count}
use Rattle.ep_universe.specs.Sizes.{IsBuildable, AreBuildable}
use Rattle.ep_universe.specs.Universe.{IsUniverse, NamedTask}
use Rattle.ep_universe.specs.declared.limits.TheConstants.{MOST_GROUND_NODES}
use Rattle.ep_universe.proofs.CallerLemmas.{build, both-none, goal_fine, goal_shallow, init_fine, init_shallow}
use Rattle.ep_initial.specs.Initial.{init_formulas}
use Rattle.ep_schema.specs.Actions.{schema_bindings, actions_of}
use Rattle.ep_schema.specs.Bodies.{IsBuildableSchema, event_count}
use Rattle.ep_schema.specs.Written.{Written, written, body_formulas, schema_formulas}
use Rattle.ep_schema.proofs.CallerLemmas.{IsSmall, IsSound, schema_buildable, schemas_sound}
use Rattle.ep_ground.specs.Faults.{too_many_events, is_too_large, too_large_formula, too_large, node_total, limit_fault}
use Rattle.ep_ground.proofs.FirstLemmas.{many_from, many_from_start, too_large-cons}
use Rattle.ep_ground.specs.Within.{IsWithinLimits}
use Rattle.ep_ground.specs.Written.{task_formulas}
use Rattle.ep_ground.specs.declared.fault.GroundError.{GroundError}
use Rattle.ep_ground.specs.declared.fault.GroundError.TheVariants as fault
use Rattle.ep_ground.specs.declared.limits.TheConstants.{MOST_TASK_NODES}

-- ---- rows that do not hold

row-none : (b : Bool) (f : GroundError) (rest : Option GroundError) → cond b (Some f) rest ≡ None → (b ≡ false) × (rest ≡ None)
row-none true f rest h = cc
row-none false f rest h = (refl, h)

not-below : (m n : ℕ) → nat_lt m n ≡ false → n ≤ m
not-below m n h = grind (arith, nat_tests)

-- ---- small formulas

-- each ground form is small, where there is one
abbrev IsSmallForm : Declared → Written → Type 0
IsSmallForm d x = 0 < x.times → ground_count d x.formula ≤ MOST_GROUND_NODES

small : (m n : ℕ) → (nat_lt 0 m && nat_lt MOST_GROUND_NODES n) ≡ false → 0 < m → n ≤ MOST_GROUND_NODES
small m n h k = grind (arith, nat_tests)

all_small : (d : Declared) (xs : List Written) → too_large d xs ≡ None → All (IsSmallForm d) xs
all_small d [] h = All-nil (IsSmallForm d)
all_small d (x ∷ xs) h =
    let here = row-none (is_too_large d x) (too_large_formula x) (too_large d xs) (sym (too_large-cons d x xs) ∙ h) in
    All-cons (IsSmallForm d) x xs (small x.times (ground_count d x.formula) here.0) (all_small d xs here.1)

front : {X : Type 0} (P : X → Type 0) (xs ys : List X) → All P (xs ++ ys) → All P xs
front P [] ys h = All-nil P
front P (x ∷ xs) ys h = All-cons P x xs (All-head P x (xs ++ ys) h) (front P xs ys (All-tail P x (xs ++ ys) h))

back : {X : Type 0} (P : X → Type 0) (xs ys : List X) → All P (xs ++ ys) → All P ys
back P [] ys h = h
back P (x ∷ xs) ys h = back P xs ys (All-tail P x (xs ++ ys) h)

small_forms : (d : Declared) (n : ℕ) → 0 < n → (fs : List FormulaTree) → All (IsSmallForm d) (map (written n) fs) → All (IsSmall d) fs
small_forms d n l [] k = All-nil (IsSmall d)
small_forms d n l (f ∷ fs) k =
    All-cons (IsSmall d) f fs (All-head (IsSmallForm d) (written n f) (map (written n) fs) k l) (small_forms d n l fs (All-tail (IsSmallForm d) (written n f) (map (written n) fs) k))

-- ---- schemas

schemas_built : (d : Declared) (n : ℕ) (ss : List SchemaTree) → All (IsSound d) ss → many_from n ss ≡ None → All (IsSmallForm d) (flat_map (schema_formulas d) ss) → All (IsBuildableSchema d) ss
schemas_built d n [] sound e a = All-nil (IsBuildableSchema d)
schemas_built d n (s ∷ ss) sound e a =
    let events = row-none (nat_lt MOST_EVENTS (event_count s.body)) _ (many_from (n + 1) ss) e in
    let mine = front (IsSmallForm d) (schema_formulas d s) (flat_map (schema_formulas d) ss) a in
    let others = back (IsSmallForm d) (schema_formulas d s) (flat_map (schema_formulas d) ss) a in
    All-cons (IsBuildableSchema d) s ss
    (schema_buildable d s (All-head (IsSound d) s ss sound) (not-below MOST_EVENTS (event_count s.body) events.0) (λ some. small_forms d (length (schema_bindings d s)) some (body_formulas s.body) mine))
    (schemas_built d (n + 1) ss (All-tail (IsSound d) s ss sound) events.1 others)

-- ---- the initial state

init_built : (d : Declared) (i : InitTree) → IsFormedInit i → IsShallow (spell.init_items i) → first_fault (init_uses i (objective d)) ≡ None → All (IsSmall d) (init_formulas i) → AreBuildable d (init_formulas i)
init_built d (Explicit worlds designated links) w h k small = All-nil (IsBuildable d)
init_built d (Lawful vary facts law sees f) w h k small =
    let s = objective d in
    let last = spell.formula f ++ fixed the.Semicolon ∷ [] in
    let seen = flat_map spell.sees sees ++ (fixed the.Designated ∷ last) in
    let laws = spell.formula law ++ (fixed the.Semicolon ∷ seen) in
    let one = shallow-right (spell.braced (spell.atoms vary)) (spell.facts facts ++ (fixed the.Law ∷ laws)) h.1 in
    let two = shallow-right (spell.facts facts) (fixed the.Law ∷ laws) one in
    let three = shallow-right (spell.formula law) (fixed the.Semicolon ∷ seen) two.1 in
    let four = shallow-right (flat_map spell.sees sees) (fixed the.Designated ∷ last) three.1 in
    let uses = both-none (given_uses vary facts s) (law_uses law sees f s) k in
    let first = both-none (formula_uses law s) (both (sees_uses sees s) (formula_uses f s)) uses.1 in
    let second = both-none (sees_uses sees s) (formula_uses f s) first.1 in
    let behind = All-tail (IsSmall d) law (f ∷ []) small in
    All-cons (IsBuildable d) law (f ∷ []) (build d s law w.2 (shallow-left (spell.formula law) (fixed the.Semicolon ∷ seen) two.1) first.0 (All-head (IsSmall d) law (f ∷ []) small))
    (All-cons (IsBuildable d) f [] (build d s f w.4 (shallow-left (spell.formula f) (fixed the.Semicolon ∷ []) four.1) second.1 (All-head (IsSmall d) f [] behind)) (All-nil (IsBuildable d)))

-- ---- the task

-- what follows where there is no fault
pub follows : {A : Type 0} (row : Option GroundError) (answer : Result A GroundError) (P : Type 0) → IsJudged fault.OutOfMemory row answer → (row ≡ None → P) → IfOk answer (λ _. P)
follows row (Ok x) P h k = k h
follows row (Err e) P h k = tt

pub is_within : (u : NamedTask) → IsUniverse u → limit_fault u.names u.tree ≡ None → IsWithinLimits u.names u.tree
is_within u known h =
    let d = u.names in
    let t = u.tree in
    let total = above MOST_TASK_NODES fault.TooLargeTask (node_total d (task_formulas d t)) in
    let three = too_large d (task_formulas d t) ∷ total ∷ [] in
    let two = too_many_events t.schemas ∷ three in
    let actions = none_first (above MOST_GROUND_ACTIONS fault.TooManyActions (length (actions_of d t.schemas))) two h in
    let events = none_first (too_many_events t.schemas) three actions.1 in
    let large = none_first (too_large d (task_formulas d t)) (total ∷ []) events.1 in
    let all = all_small d (task_formulas d t) large.0 in
    let first = map (written 1) (init_formulas t.init) in
    let schemas = flat_map (schema_formulas d) t.schemas in
    let behind = back (IsSmallForm d) first (schemas ++ written 1 t.goal ∷ []) all in
    let sound : All (IsSound d) t.schemas = subst (λ (c : Declared). All (IsSound c) t.schemas) (sym known.declared) (schemas_sound t known.typed known.read) in
    let init : first_fault (init_uses t.init (objective d)) ≡ None = subst (λ (c : Declared). first_fault (init_uses t.init (objective c)) ≡ None) (sym known.declared) (init_fine t known.typed) in
    let goal : first_fault (formula_uses t.goal (closed d)) ≡ None = subst (λ (c : Declared). first_fault (formula_uses t.goal (closed c)) ≡ None) (sym known.declared) (goal_fine t known.typed) in
    record {
      actions = not_above MOST_GROUND_ACTIONS fault.TooManyActions (length (actions_of d t.schemas)) actions.0;
      init = init_built d t.init known.read.formed.4 (init_shallow t known.read) init (small_forms d 1 (omega arith) (init_formulas t.init) (front (IsSmallForm d) first (schemas ++ written 1 t.goal ∷ []) all));
      schemas = schemas_built d 0 t.schemas sound (sym (many_from_start t.schemas) ∙ events.0) (front (IsSmallForm d) schemas (written 1 t.goal ∷ []) behind);
      goal = build d (closed d) t.goal known.read.formed.6 (goal_shallow t known.read) goal (All-head (IsSmallForm d) (written 1 t.goal) [] (back (IsSmallForm d) schemas (written 1 t.goal ∷ []) behind) (omega arith));
    }
