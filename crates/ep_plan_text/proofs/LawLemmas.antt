-- The text of a plan is read as the plan.
use Rattle.std.proofs.Common.{◌≡◌, ℕ, suc, ◌*◌, ◌^◌, ◌≤◌, ◌<◌, Bool, true, false, cond, List, [], ◌∷◌, ◌++◌, length, map, get_or, Option, Some, None, IfSome, All, refl, sym, ap, ◌∙◌, subst, arith, length-append}
use Rattle.std.specs.List.{AllByRecursion, flat_map}
use Rattle.std.proofs.lemmas.List.{length-map}
use Rattle.std.proofs.lemmas.List.Elements.{All-nil, All-cons, All-head, All-tail, All-append, All-map, All-get_or, All-from_get_or, All-weaker, All-filter}
use Rattle.std.proofs.lemmas.Option.{slice_get-get_or}
use Rattle.ep_binding.specs.Bindings.{bindings, distinct_bindings, all_different, IsBinding}
use Rattle.ep_binding.proofs.CallerLemmas.{all-bindings}
use Rattle.ep_bounds.specs.declared.bounds.Measure.{Measure}
use Rattle.ep_bounds.specs.declared.bounds.Measure.TheVariants.{Length, Cost}
use Rattle.ep_lex.specs.declared.limits.TheConstants.{MOST_BYTES, MOST_TOKENS}
use Rattle.ep_lex.specs.declared.token.Token.{Token}
use Rattle.ep_lex.specs.Pieces.{Split}
use Rattle.ep_lex.specs.Tokens.{AreTokens, line_behind, tokens_behind, spelling, spellings}
use Rattle.ep_lex.proofs.CallerLemmas.{spellings-are}
use Rattle.ep_logic.specs.declared.ids.ActionId.{ActionId}
use Rattle.ep_name.specs.Names.{printed}
use Rattle.ep_tree.specs.declared.terminal.Terminal.TheVariants as the
use Rattle.ep_tree.specs.declared.tree.Name.{Name}
use Rattle.ep_tree.specs.declared.tree.CallTree.{CallTree}
use Rattle.ep_tree.specs.declared.tree.ObjectTree.{ObjectTree}
use Rattle.ep_tree.specs.declared.tree.PlanTree.{PlanTree}
use Rattle.ep_tree.specs.declared.tree.SchemaTree.{SchemaTree}
use Rattle.ep_tree.specs.declared.tree.TaskTree.{TaskTree}
use Rattle.ep_tree.specs.Bare.{bare_names, bare_call, bare_plan}
use Rattle.ep_tree.specs.Formed.{OneOrMore, IsFormedName, IsFormedCall, IsFormedCount, IsFormedPlan, IsFormedObject, IsFormedSchema}
use Rattle.ep_tree.specs.Grammar.{plans, spelling_of, Reads}
use Rattle.ep_tree.specs.Marks.{fixed, named}
use Rattle.ep_syntax.specs.PlanReading.{plan as plan_reader}
use Rattle.ep_tree.specs.Spelling as spell
use Rattle.ep_tree.specs.Spelling.{behind}
use Rattle.ep_tree.specs.Terminals.{is_name}
use Rattle.ep_tree.proofs.CallerLemmas.{length-texts}
use Rattle.ep_reader.proofs.CallerLemmas.{found, found_reads, found_same}
use Rattle.ep_syntax.proofs.CallerLemmas.{plan_outcome, plan_shallow}
use Rattle.ep_types.specs.Atoms.{texts as name_texts}
use Rattle.ep_types.specs.Names.{Text, names_of}
use Rattle.ep_types.specs.Tasks.{HasNoFault, declarations}
use Rattle.ep_types.specs.declared.scope.Declared.{Declared}
use Rattle.ep_universe.specs.Objects.{candidates, objects_of}
use Rattle.ep_schema.specs.Actions.{schema_bindings}
use Rattle.ep_universe.specs.PrintedNames.{object_name}
use Rattle.ep_schema.specs.ActionNames.{action_name, schema_names, action_names}
use Rattle.ep_theory.specs.Plans.{weight}
use Rattle.ep_ground.specs.Task.{GroundTask}
use Rattle.ep_tree.specs.Grammar.{IsRead}
use Rattle.ep_ground.specs.Grounding.{IsWhole, task_of}
use Rattle.ep_schema.proofs.CallerLemmas.{few_params, HasFewParams, schema-below}
use Rattle.ep_universe.proofs.CallerLemmas.{AreBelow, objects-declared}
use Rattle.ep_plan_text.specs.declared.print.Mark.{Mark as PlanMark}
use Rattle.ep_plan_text.specs.Calls.{name_of as call_name, NameActions}
use Rattle.ep_plan_text.specs.PlanFiles.{IsPlan, IsPlanOf}
use Rattle.ep_base.specs.Texts.{lines}
use Rattle.ep_plan_text.specs.PlanText.{action_name as name_at, plan_text}
use Rattle.ep_plan_text.proofs.LayoutLemmas.{Heading, IsFormedHeading, stated, whole_pieces, whole_lines, whole_is_split, whole_long, whole_texts, tree_of}
use Rattle.ep_plan_text.proofs.WeightLemmas.{cost_most}

-- ---- names are those of calls

abbrev IsShort : CallTree → Type 0
IsShort c = length c.args ≤ 6

-- a printed name of at most six objects
pub record IsCall (name : Text) : Type 0 where
  pub call : CallTree
  pub formed : IsFormedCall call
  pub short : IsShort call
  pub is : name ≡ call_name call

name_tree : Text → Name
name_tree text = record { token = 0; text = text }

texts-trees : (ts : List Text) → name_texts (map name_tree ts) ≡ ts
unfolding name_tree
texts-trees [] = refl
texts-trees (t ∷ ts) = ap (λ z. t ∷ z) (texts-trees ts)

formed_trees : (ts : List Text) → All (λ t. is_name t ≡ true) ts → AllByRecursion IsFormedName (map name_tree ts)
unfolding name_tree
formed_trees [] h = tt
formed_trees (t ∷ ts) h = (All-head (λ t. is_name t ≡ true) t ts h, formed_trees ts (All-tail (λ t. is_name t ≡ true) t ts h))

is_call : (name : Text) (ts : List Text) → is_name name ≡ true → All (λ t. is_name t ≡ true) ts → length ts ≤ 6 → IsCall (printed name ts)
unfolding name_tree
is_call name ts f g l = record {
  call = record { name = name_tree name; args = map name_tree ts };
  formed = (f, formed_trees ts g);
  short = omega (arith, length-map ts name_tree);
  is = ap (printed name) (sym (texts-trees ts));
}

-- ---- of a task

names-formed : (xs : List Name) → AllByRecursion IsFormedName xs → All (λ t. is_name t ≡ true) (name_texts xs)
names-formed [] h = All-nil (λ t. is_name t ≡ true)
names-formed (x ∷ xs) h = All-cons (λ t. is_name t ≡ true) x.text (name_texts xs) h.0 (names-formed xs h.1)

one-or-more : (xs : List Name) → OneOrMore IsFormedName xs → AllByRecursion IsFormedName xs
one-or-more [] h = tt
one-or-more (x ∷ xs) h = h

objects-formed : (es : List ObjectTree) → AllByRecursion IsFormedObject es → All (λ t. is_name t ≡ true) (flat_map (λ e. name_texts e.names) es)
objects-formed [] h = All-nil (λ t. is_name t ≡ true)
objects-formed (e ∷ es) h =
    All-append (λ t. is_name t ≡ true) (name_texts e.names) (flat_map (λ (e : ObjectTree). name_texts e.names) es) (names-formed e.names (one-or-more e.names h.0.0)) (objects-formed es h.1)

-- a binding has an object for each parameter
schema-long : (d : Declared) (s : SchemaTree) → All (λ b. length b ≡ length s.params) (schema_bindings d s)
schema-long d s = by s.distinct
  where
    long : (b : List ℕ) → IsBinding (candidates d s.params) b → length b ≡ length s.params
    long b h = h.long ∙ length-map s.params (λ p. objects_of d p.kind.text)

    all : All (λ b. length b ≡ length s.params) (bindings (candidates d s.params))
    all = All-weaker (IsBinding (candidates d s.params)) (λ b. length b ≡ length s.params) long (bindings (candidates d s.params)) (all-bindings (candidates d s.params))

    by : (b : Bool) → All (λ b. length b ≡ length s.params) (cond b (distinct_bindings (candidates d s.params)) (bindings (candidates d s.params)))
    by true = All-filter all_different (λ b. length b ≡ length s.params) (bindings (candidates d s.params)) all
    by false = all

module _ (d : Declared) (objects : All (λ t. is_name t ≡ true) (names_of d.objects)) where
  object_names_formed : (b : List ℕ) → AreBelow (length d.objects) b → All (λ t. is_name t ≡ true) (map (object_name d) b)
  object_names_formed b h =
      let many : length (names_of d.objects) ≡ length d.objects = length-map d.objects (λ e. e.0) in
      All-map (λ t. is_name t ≡ true) (object_name d) b
      (All-from_get_or (λ o. is_name (object_name d o) ≡ true) b 0 (λ k l.
      let below = All-get_or (λ o. o < length d.objects) b k 0 l h in
      All-get_or (λ t. is_name t ≡ true) (names_of d.objects) (get_or b k 0) [] (omega (arith, many, below)) objects))

  schema_calls : (s : SchemaTree) → is_name s.name.text ≡ true → HasFewParams s → All IsCall (schema_names d s)
  schema_calls s f l =
      All-map IsCall (action_name d s) (schema_bindings d s)
      (All-from_get_or (λ b. IsCall (action_name d s b)) (schema_bindings d s) [] (λ k m.
      let b = get_or (schema_bindings d s) k [] in
      let below = All-get_or (AreBelow (length d.objects)) (schema_bindings d s) k [] m (schema-below d s) in
      let long = All-get_or (λ b. length b ≡ length s.params) (schema_bindings d s) k [] m (schema-long d s) in
      is_call s.name.text (map (object_name d) b) f (object_names_formed b below) (omega (arith, l, long, length-map b (object_name d)))))

  all_calls : (ss : List SchemaTree) → AllByRecursion IsFormedSchema ss → All HasFewParams ss → All IsCall (action_names d ss)
  all_calls [] h l = All-nil IsCall
  all_calls (s ∷ ss) h l =
      All-append IsCall (schema_names d s) (action_names d ss) (schema_calls s h.0.0 (All-head HasFewParams s ss l)) (all_calls ss h.1 (All-tail HasFewParams s ss l))

task_calls : (t : TaskTree) → HasNoFault t → IsRead t → All IsCall (task_of t).actions
task_calls t fine read =
    all_calls (declarations t) (subst (All (λ z. is_name z ≡ true)) (sym (objects-declared t)) (objects-formed t.objects read.formed.2)) t.schemas read.formed.5 (few_params t fine)

-- ---- the calls of a plan

pub record Chosen (g : GroundTask) (plan : List ActionId) : Type 0 where
  pub calls : List CallTree
  pub formed : AllByRecursion IsFormedCall calls
  pub short : AllByRecursion IsShort calls
  pub named : NameActions g calls plan
  pub names : map call_name calls ≡ map (name_at g) plan

choose : (g : GroundTask) (plan : List ActionId) → All IsCall g.actions → All (λ a. a.n < length g.actions) plan → Chosen g plan
choose g [] h l = record { calls = []; formed = tt; short = tt; named = tt; names = refl }
choose g (a ∷ plan) h l =
    let below = All-head (λ (a : ActionId). a.n < length g.actions) a plan l in
    let rest = choose g plan h (All-tail (λ (a : ActionId). a.n < length g.actions) a plan l) in
    let here : IsCall (get_or g.actions a.n []) = All-get_or IsCall g.actions a.n [] below h in
    record {
      calls = here.call ∷ rest.calls;
      formed = (here.formed, rest.formed);
      short = (here.short, rest.short);
      named = (slice_get-get_or g.actions a.n [] below ∙ ap Some here.is, rest.named);
      names = (λ i. sym here.is i ∷ rest.names i);
    }

-- ---- how long the spelling is

behind_long : (ns : List Name) → length (behind the.Comma (map (λ n. named n ∷ []) ns)) ≡ 2 * length ns
behind_long [] = refl
behind_long (n ∷ ns) = omega (arith, behind_long ns)

arguments_long : (ns : List Name) → length ns ≤ 6 → length (spell.arguments ns) ≤ 13
arguments_long [] l = omega arith
arguments_long (n ∷ ns) l = omega (arith, behind_long ns, length-append (behind the.Comma (map (λ n. named n ∷ []) ns)) (fixed the.CloseParen ∷ []))

calls_long : (cs : List CallTree) → AllByRecursion IsShort cs → length (flat_map spell.call cs) ≤ 14 * length cs
calls_long [] h = omega arith
calls_long (c ∷ cs) h = omega (arith, arguments_long c.args h.0, calls_long cs h.1, length-append (spell.call c) (flat_map spell.call cs))

-- ---- equal but for token numbers

texts-bare : (ns : List Name) → name_texts (bare_names ns) ≡ name_texts ns
texts-bare [] = refl
texts-bare (n ∷ ns) = ap (λ z. n.text ∷ z) (texts-bare ns)

name_of-bare : (c : CallTree) → call_name (bare_call c) ≡ call_name c
name_of-bare c = ap (printed c.name.text) (texts-bare c.args)

named_same : (g : GroundTask) (cs ds : List CallTree) (p : List ActionId) → map bare_call cs ≡ map bare_call ds → NameActions g ds p → NameActions g cs p
named_same g [] [] p e h = h
named_same g [] (d ∷ ds) p e h = absurd (cc)
named_same g (c ∷ cs) [] p e h = absurd (cc)
named_same g (c ∷ cs) (d ∷ ds) [] e h = absurd h
named_same g (c ∷ cs) (d ∷ ds) (a ∷ p) e h =
    let first : bare_call c ≡ bare_call d = cc in
    let rest : map bare_call cs ≡ map bare_call ds = cc in
    let name : call_name d ≡ call_name c = sym (name_of-bare d) ∙ ap call_name (sym first) ∙ name_of-bare c in
    (h.0 ∙ ap Some name, named_same g cs ds p rest h.1)

plan_long : (cs : List CallTree) (p : List ActionId) (g : GroundTask) → NameActions g cs p → length cs ≡ length p
plan_long [] [] g h = refl
plan_long [] (a ∷ p) g h = absurd h
plan_long (c ∷ cs) [] g h = absurd h
plan_long (c ∷ cs) (a ∷ p) g h = ap suc (plan_long cs p g h.1)

-- ---- the law

-- a stated cost is the plan's
cost_is : (measure : Measure) (cost : ℕ) → IfSome (stated measure cost) (λ c. c ≡ cost)
cost_is Length cost = tt
cost_is Cost cost = refl

cost_formed : (measure : Measure) (cost : ℕ) → cost < 10 ^ 9 → IfSome (stated measure cost) IsFormedCount
cost_formed Length cost l = tt
cost_formed Cost cost l = l

-- a spelling states one cost at most
cost_marks : (cost : Option ℕ) → length (spell.cost cost) ≤ 2
cost_marks None = omega arith
cost_marks (Some n) = omega arith

module _ (g : GroundTask) (measure : Measure) (mk : PlanMark) (plan : List ActionId) (named_task : is_name g.tree.name.text ≡ true) (few : length plan ≤ 1000) (cheap : weight g.problem Cost plan ≤ 100 * length plan) (chosen : Chosen g plan) where
  abbrev heading : Heading
  heading = record { measure = measure; mark = mk; name = g.tree.name; cost = weight g.problem Cost plan }

  abbrev text : List ℕ
  text = plan_text g measure mk plan

  tree : PlanTree
  tree = tree_of heading (length plan) chosen.calls

  small : length plan < 10 ^ 9
  small = omega arith

  cost_small : weight g.problem Cost plan < 10 ^ 9
  cost_small = omega (arith, few, cheap)

  heading_formed : IsFormedHeading heading
  heading_formed = record { name = named_task; cost = cost_small }

  formed : IsFormedPlan tree
  unfolding tree
  formed = (named_task, cost_formed measure (weight g.problem Cost plan) cost_small, small, chosen.formed)

  abbrev tokens : List Token
  tokens = tokens_behind [] (whole_pieces heading (length plan) chosen.calls)

  split : Split text (whole_pieces heading (length plan) chosen.calls)
  split = subst (λ z. Split (lines (whole_lines heading (length plan) z)) (whole_pieces heading (length plan) chosen.calls)) chosen.names
      (whole_is_split heading (length plan) chosen.calls heading_formed small chosen.formed)

  are_tokens : AreTokens text tokens
  are_tokens = record { pieces = whole_pieces heading (length plan) chosen.calls; split = split; tokens_are = refl }

  spelled : spellings text tokens ≡ spelling_of plans tree
  unfolding tree
  spelled = spellings-are text tokens (whole_pieces heading (length plan) chosen.calls) are_tokens split ∙ whole_texts heading (length plan) chosen.calls

  calls_few : length chosen.calls ≤ 1000
  calls_few = omega (arith, plan_long chosen.calls plan g chosen.named)

  few_marks : length (spell.plan tree) ≤ MOST_TOKENS
  unfolding tree
  few_marks =
      let calls = flat_map spell.call chosen.calls ++ fixed the.End ∷ [] in
      let cost = stated measure (weight g.problem Cost plan) in
      omega (arith, calls_long chosen.calls chosen.short, calls_few, cost_marks cost, length-append (flat_map spell.call chosen.calls) (fixed the.End ∷ []), length-append (spell.cost cost) (fixed the.Actions ∷ spell.count (length plan) ∷ calls))

  few_tokens : length tokens ≤ MOST_TOKENS
  few_tokens =
      let same : length tokens ≡ length (spell.plan tree) = sym (length-map tokens (spelling text)) ∙ ap length spelled ∙ length-texts (spell.plan tree) in
      omega (arith, same, few_marks)

  read : PlanTree
  read = found plans (spelling_of plans tree) plan_reader (plan_outcome (spelling_of plans tree)) tree formed (plan_shallow tree) refl

  is_read : Reads plans (spelling_of plans tree) read
  unfolding read
  is_read = found_reads plans (spelling_of plans tree) plan_reader (plan_outcome (spelling_of plans tree)) tree formed (plan_shallow tree) refl

  same : bare_plan read ≡ bare_plan tree
  unfolding read
  same = found_same plans (spelling_of plans tree) plan_reader (plan_outcome (spelling_of plans tree)) tree formed (plan_shallow tree) refl

  is_plan_of : IsPlanOf g read plan
  unfolding tree
  is_plan_of =
      let calls : map bare_call read.calls ≡ map bare_call chosen.calls = ap (λ z. z.calls) same in
      let named = named_same g read.calls chosen.calls plan calls chosen.named in
      let cost : read.cost ≡ stated measure (weight g.problem Cost plan) = ap (λ z. z.cost) same in
      record {
        task = ap (λ z. z.task.text) same;
        named = named;
        count = ap (λ z. z.count) same ∙ sym (plan_long read.calls plan g named);
        cost = subst (λ z. IfSome z (λ c. c ≡ weight g.problem Cost plan)) (sym cost) (cost_is measure (weight g.problem Cost plan));
      }

  pub is_read_again : IsPlan g text plan
  is_read_again = record {
    found = record { tokens = tokens; end_line = line_behind text };
    tree = read;
    file = record { lexed = record { tokens = are_tokens; few = few_tokens; end_line = refl }; reads = subst (λ z. Reads plans z read) (sym spelled) is_read };
    plan_of = is_plan_of;
  }

  pub is_short : length text ≤ MOST_BYTES
  is_short =
      let long = whole_long heading (length plan) chosen.calls heading_formed small chosen.formed chosen.short in
      let same : length (lines (whole_lines heading (length plan) (map call_name chosen.calls))) ≡ length text = ap (λ z. length (lines (whole_lines heading (length plan) z))) chosen.names in
      omega (arith, long, same, calls_few)

read_tree : (t : TaskTree) (measure : Measure) (mk : PlanMark) (plan : List ActionId) → HasNoFault t → IsRead t → length plan ≤ 1000 → All (λ a. a.n < length (task_of t).actions) plan
    → IsPlan (task_of t) (plan_text (task_of t) measure mk plan) plan
read_tree t measure mk plan fine read few all = is_read_again (task_of t) measure mk plan read.formed.0 few (cost_most t plan read) (choose (task_of t) plan (task_calls t fine read) all)

short_tree : (t : TaskTree) (measure : Measure) (mk : PlanMark) (plan : List ActionId) → HasNoFault t → IsRead t → length plan ≤ 1000 → All (λ a. a.n < length (task_of t).actions) plan
    → length (plan_text (task_of t) measure mk plan) ≤ MOST_BYTES
short_tree t measure mk plan fine read few all = is_short (task_of t) measure mk plan read.formed.0 few (cost_most t plan read) (choose (task_of t) plan (task_calls t fine read) all)

pub read_again : (g : GroundTask) (measure : Measure) (mk : PlanMark) (plan : List ActionId) → IsWhole g → length plan ≤ 1000 → All (λ a. a.n < length g.actions) plan → IsPlan g (plan_text g measure mk plan) plan
read_again g measure mk plan whole few all =
    subst (λ (h : GroundTask). IsPlan h (plan_text h measure mk plan) plan) (sym whole.task)
    (read_tree g.tree measure mk plan whole.typed whole.read few (subst (λ (h : GroundTask). All (λ (a : ActionId). a.n < length h.actions) plan) whole.task all))

pub text_short : (g : GroundTask) (measure : Measure) (mk : PlanMark) (plan : List ActionId) → IsWhole g → length plan ≤ 1000 → All (λ a. a.n < length g.actions) plan → length (plan_text g measure mk plan) ≤ MOST_BYTES
text_short g measure mk plan whole few all =
    subst (λ (h : GroundTask). length (plan_text h measure mk plan) ≤ MOST_BYTES) (sym whole.task)
    (short_tree g.tree measure mk plan whole.typed whole.read few (subst (λ (h : GroundTask). All (λ (a : ActionId). a.n < length h.actions) plan) whole.task all))
