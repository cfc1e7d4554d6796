-- The tokens of tasks.
use Rattle.std.proofs.Common.{ℕ, ◌+◌, Bool, List, [], ◌∷◌, ◌++◌, Option, Some, None, unwrap_or, map, ap, ◌∙◌, subst, append_assoc}
use Rattle.std.specs.List.{flat_map}
use Rattle.ep_types.specs.Atoms.{atom_texts}
use Rattle.ep_types.specs.Names.{Text, Typings, names_of}
use Rattle.ep_types.specs.Places.{Scope, closed, objective, with_params, NewName, ParamType, UsedName, Uses, both, at, each}
use Rattle.ep_types.specs.Tasks as tasks
use Rattle.ep_types.specs.Uses as uses
use Rattle.ep_types.specs.declared.scope.Declared.{Declared}
use Rattle.ep_types.proofs.TokenLemmas.{Follows, none, joined, before, behind, skip, regrouped, held_one, first_name, in_braces, each_of, each_between, each_name}
use Rattle.ep_types.proofs.FormulaTokens.{atom, fact, group, params, formula}
use Rattle.ep_tree.specs.Marks.{Mark, fixed, named}
use Rattle.ep_tree.specs.Spelling as spell
use Rattle.ep_tree.specs.declared.terminal.Terminal.TheVariants as the
use Rattle.ep_tree.specs.declared.tree.Name.{Name}
use Rattle.ep_tree.specs.declared.tree.TypeTree.{TypeTree}
use Rattle.ep_tree.specs.declared.tree.ObjectTree.{ObjectTree}
use Rattle.ep_tree.specs.declared.tree.FluentTree.{FluentTree}
use Rattle.ep_tree.specs.declared.tree.AtomTree.{AtomTree}
use Rattle.ep_tree.specs.declared.tree.GroupTree.{GroupTree}
use Rattle.ep_tree.specs.declared.tree.PairTree.{PairTree}
use Rattle.ep_tree.specs.declared.tree.PairsTree.{PairsTree}
use Rattle.ep_tree.specs.declared.tree.PairsTree.TheVariants as pairs_tree
use Rattle.ep_tree.specs.declared.tree.LinkTree.{LinkTree}
use Rattle.ep_tree.specs.declared.tree.WorldTree.{WorldTree}
use Rattle.ep_tree.specs.declared.tree.SeesTree.{SeesTree}
use Rattle.ep_tree.specs.declared.tree.InitTree.{InitTree}
use Rattle.ep_tree.specs.declared.tree.InitTree.TheVariants.{Explicit, Lawful}
use Rattle.ep_tree.specs.declared.tree.ParamTree.{ParamTree}
use Rattle.ep_tree.specs.declared.tree.SetTree.{SetTree}
use Rattle.ep_tree.specs.declared.tree.EventTree.{EventTree}
use Rattle.ep_tree.specs.declared.tree.BodyTree.{BodyTree}
use Rattle.ep_tree.specs.declared.tree.BodyTree.TheVariants.{Announce, Private, Sense, Assign, Events}
use Rattle.ep_tree.specs.declared.tree.SchemaTree.{SchemaTree}
use Rattle.ep_tree.specs.declared.tree.FormulaTree.{FormulaTree}
use Rattle.ep_tree.specs.declared.tree.TaskTree.{TaskTree}

-- what stands before a mark, and before what stands behind it
ended : (us vs : Uses) (xs : List Mark) (m : Mark) (ys : List Mark) → Follows us xs → Follows vs ys → Follows (both us vs) ((xs ++ m ∷ []) ++ ys)
ended us vs xs m ys f g = regrouped (both us vs) xs (m ∷ []) ys (joined us vs xs (m ∷ ys) f (skip vs m ys g))

-- ---- the declarations

type_entries : (d : Declared) (es : List TypeTree) → Follows (tasks.type_uses d es) (flat_map spell.type_entry es)
type_entries d [] = none []
type_entries d (e ∷ es) =
    let name = NewName e.name.text (names_of d.types) in
    let parent = UsedName e.parent.text (names_of d.types) in
    let rest = tasks.type_uses (tasks.with_type d e) es in
    let more = flat_map spell.type_entry es in
    let last = both (at e.parent.token parent) rest in
    first_name e.name name last (fixed the.Less ∷ named e.parent ∷ fixed the.Semicolon ∷ more)
    (skip last (fixed the.Less) (named e.parent ∷ fixed the.Semicolon ∷ more)
    (first_name e.parent parent rest (fixed the.Semicolon ∷ more) (skip rest (fixed the.Semicolon) more (type_entries (tasks.with_type d e) es))))

types : (d : Declared) (o : Option (List TypeTree)) → Follows (tasks.type_uses d (unwrap_or o [])) (spell.types o)
types d None = none []
types d (Some es) = skip (tasks.type_uses d es) (fixed the.Types) (spell.braced (flat_map spell.type_entry es)) (in_braces (tasks.type_uses d es) (flat_map spell.type_entry es) (type_entries d es))

names_behind : (d : Declared) (kind : Text) (xs : List Name) → Follows (tasks.name_uses d kind xs) (spell.behind the.Comma (map (λ n. named n ∷ []) xs))
names_behind d kind [] = none []
names_behind d kind (x ∷ xs) =
    let rest = spell.behind the.Comma (map (λ n. named n ∷ []) xs) in
    skip (tasks.name_uses d kind (x ∷ xs)) (fixed the.Comma) (named x ∷ rest)
    (first_name x (NewName x.text (names_of d.objects)) (tasks.name_uses (tasks.with_object d kind x) kind xs) rest (names_behind (tasks.with_object d kind x) kind xs))

object_names : (d : Declared) (kind : Text) (xs : List Name) → Follows (tasks.name_uses d kind xs) (spell.names xs)
object_names d kind [] = none []
object_names d kind (x ∷ xs) =
    first_name x (NewName x.text (names_of d.objects)) (tasks.name_uses (tasks.with_object d kind x) kind xs)
    (spell.behind the.Comma (map (λ n. named n ∷ []) xs)) (names_behind (tasks.with_object d kind x) kind xs)

object_entries : (d : Declared) (es : List ObjectTree) → Follows (tasks.object_uses d es) (flat_map spell.object_entry es)
object_entries d [] = none []
object_entries d (e ∷ es) =
    let all = tasks.with_objects d e.kind.text e.names in
    let kind = UsedName e.kind.text (names_of all.types) in
    let rest = tasks.object_uses all es in
    let last = both (at e.kind.token kind) rest in
    let more = flat_map spell.object_entry es in
    let marks = named e.kind ∷ fixed the.Semicolon ∷ more in
    regrouped (both (tasks.name_uses d e.kind.text e.names) last) (spell.names e.names) (fixed the.Colon ∷ named e.kind ∷ fixed the.Semicolon ∷ []) more
    (joined (tasks.name_uses d e.kind.text e.names) last (spell.names e.names) (fixed the.Colon ∷ marks) (object_names d e.kind.text e.names)
    (skip last (fixed the.Colon) marks
    (first_name e.kind kind rest (fixed the.Semicolon ∷ more) (skip rest (fixed the.Semicolon) more (object_entries all es)))))

objects : (d : Declared) (es : List ObjectTree) → Follows (tasks.object_uses d es) (spell.objects es)
objects d es = skip (tasks.object_uses d es) (fixed the.Objects) (spell.braced (flat_map spell.object_entry es)) (in_braces (tasks.object_uses d es) (flat_map spell.object_entry es) (object_entries d es))

kinds_behind : (ts : Typings) (n : ℕ) (xs : List Name) → Follows (tasks.kind_uses ts n xs) (spell.behind the.Comma (map (λ n. named n ∷ []) xs))
kinds_behind ts n [] = none []
kinds_behind ts n (x ∷ xs) =
    let rest = spell.behind the.Comma (map (λ n. named n ∷ []) xs) in
    skip (tasks.kind_uses ts n (x ∷ xs)) (fixed the.Comma) (named x ∷ rest)
    (first_name x (ParamType n x.text (names_of ts)) (tasks.kind_uses ts (n + 1) xs) rest (kinds_behind ts (n + 1) xs))

kinds : (ts : Typings) (xs : List Name) → Follows (tasks.kind_uses ts 0 xs) (spell.arguments xs)
kinds ts [] = none []
kinds ts (x ∷ xs) =
    let us = tasks.kind_uses ts 0 (x ∷ xs) in
    skip us (fixed the.OpenParen) (spell.names (x ∷ xs) ++ fixed the.CloseParen ∷ []) (before us (spell.names (x ∷ xs)) (fixed the.CloseParen ∷ [])
    (first_name x (ParamType 0 x.text (names_of ts)) (tasks.kind_uses ts 1 xs) (spell.behind the.Comma (map (λ n. named n ∷ []) xs)) (kinds_behind ts 1 xs)))

fluent_entries : (d : Declared) (es : List FluentTree) → Follows (tasks.fluent_uses d es) (flat_map spell.fluent_entry es)
fluent_entries d [] = none []
fluent_entries d (e ∷ es) =
    let rest = tasks.fluent_uses (tasks.with_fluent d e) es in
    let more = flat_map spell.fluent_entry es in
    first_name e.name (NewName e.name.text (names_of d.fluents)) (both (tasks.kind_uses d.types 0 e.kinds) rest) ((spell.arguments e.kinds ++ fixed the.Semicolon ∷ []) ++ more)
    (ended (tasks.kind_uses d.types 0 e.kinds) rest (spell.arguments e.kinds) (fixed the.Semicolon) more (kinds d.types e.kinds) (fluent_entries (tasks.with_fluent d e) es))

fluents : (d : Declared) (es : List FluentTree) → Follows (tasks.fluent_uses d es) (spell.fluents es)
fluents d es = skip (tasks.fluent_uses d es) (fixed the.Fluents) (spell.braced (flat_map spell.fluent_entry es)) (in_braces (tasks.fluent_uses d es) (flat_map spell.fluent_entry es) (fluent_entries d es))

-- ---- worlds and links

atoms : (xs : List AtomTree) (s : Scope) → Follows (tasks.atoms_uses xs s) (spell.atoms xs)
atoms xs s = each_between (λ a. uses.atom_uses a s) (spell.atom None) (λ a. atom None a s) the.Comma xs

pair : (ns : List Text) (p : PairTree) → Follows (tasks.pair_uses ns p) (spell.pair p)
pair ns p =
    let to = UsedName p.to.text ns in
    first_name p.from (UsedName p.from.text ns) (at p.to.token to) (fixed the.Arrow ∷ named p.to ∷ [])
    (skip (at p.to.token to) (fixed the.Arrow) (named p.to ∷ []) (held_one p.to.token to p.to.text None))

pairs : (ns : List Text) (ps : PairsTree) → Follows (tasks.pairs_uses ns ps) (spell.pairs ps)
pairs ns pairs_tree.All = none (fixed the.All ∷ [])
pairs ns pairs_tree.Same = none (fixed the.Same ∷ [])
pairs ns (pairs_tree.Listed ps) =
    in_braces (each (tasks.pair_uses ns) ps) (spell.between the.Comma (map spell.pair ps)) (each_between (tasks.pair_uses ns) spell.pair (pair ns) the.Comma ps)

link : (ns : List Text) (s : Scope) (l : LinkTree) → Follows (both (uses.group_uses l.group s) (tasks.pairs_uses ns l.pairs)) (spell.link l)
link ns s l =
    let us = uses.group_uses l.group s in
    let vs = tasks.pairs_uses ns l.pairs in
    skip (both us vs) (fixed the.Links) (spell.group l.group ++ (spell.pairs l.pairs ++ fixed the.Semicolon ∷ []))
    (joined us vs (spell.group l.group) (spell.pairs l.pairs ++ fixed the.Semicolon ∷ []) (group l.group s) (before vs (spell.pairs l.pairs) (fixed the.Semicolon ∷ []) (pairs ns l.pairs)))

ends : (ns : List Text) (xs : List Name) (ls : List LinkTree) (s : Scope) → Follows (tasks.ends_uses ns xs ls s) (spell.designated xs ++ flat_map spell.link ls)
ends ns xs ls s =
    let us = tasks.known_uses ns xs in
    joined us (tasks.links_uses ns ls s) (spell.designated xs) (flat_map spell.link ls)
    (skip us (fixed the.Designated) (spell.braced (spell.names xs)) (in_braces us (spell.names xs) (each_name (λ x. UsedName x.text ns) xs)))
    (each_of (λ (l : LinkTree). both (uses.group_uses l.group s) (tasks.pairs_uses ns l.pairs)) spell.link (link ns s) ls)

-- ---- the initial state

worlds : (taken : List Text) (ws : List WorldTree) (s : Scope) → Follows (tasks.world_uses taken ws s) (flat_map spell.world ws)
worlds taken [] s = none []
worlds taken (w ∷ ws) s =
    let us = tasks.atoms_uses w.atoms s in
    let rest = tasks.world_uses (taken ++ w.name.text ∷ []) ws s in
    let more = flat_map spell.world ws in
    let inner = spell.braced (spell.atoms w.atoms) ++ more in
    skip (tasks.world_uses taken (w ∷ ws) s) (fixed the.World) (named w.name ∷ inner)
    (first_name w.name (NewName w.name.text taken) (both us rest) inner
    (joined us rest (spell.braced (spell.atoms w.atoms)) more (in_braces us (spell.atoms w.atoms) (atoms w.atoms s)) (worlds (taken ++ w.name.text ∷ []) ws s)))

facts : (vary : List AtomTree) (o : Option (List AtomTree)) (s : Scope) → Follows (tasks.facts_uses vary (unwrap_or o []) s) (spell.facts o)
facts vary None s = none []
facts vary (Some xs) s =
    let us = tasks.facts_uses vary xs s in
    skip us (fixed the.Facts) (spell.braced (spell.atoms xs)) (in_braces us (spell.atoms xs)
    (each_between (λ a. uses.fact_uses (map atom_texts vary) a s) (spell.atom None) (λ a. fact (map atom_texts vary) a s) the.Comma xs))

sees : (s : Scope) (x : SeesTree) → Follows (both (uses.group_uses x.group s) (tasks.atoms_uses x.atoms s)) (spell.sees x)
sees s x =
    let us = uses.group_uses x.group s in
    let vs = tasks.atoms_uses x.atoms s in
    skip (both us vs) (fixed the.Sees) (spell.group x.group ++ spell.braced (spell.atoms x.atoms))
    (joined us vs (spell.group x.group) (spell.braced (spell.atoms x.atoms)) (group x.group s) (in_braces vs (spell.atoms x.atoms) (atoms x.atoms s)))

law : (f : FormulaTree) (xs : List SeesTree) (g : FormulaTree) (s : Scope) →
    Follows (tasks.law_uses f xs g s) (fixed the.Law ∷ (spell.formula f ++ (fixed the.Semicolon ∷ (flat_map spell.sees xs ++ (fixed the.Designated ∷ (spell.formula g ++ fixed the.Semicolon ∷ []))))))
law f xs g s =
    let us = uses.formula_uses f s in
    let vs = tasks.sees_uses xs s in
    let ws = uses.formula_uses g s in
    let last = fixed the.Designated ∷ (spell.formula g ++ fixed the.Semicolon ∷ []) in
    let rest = fixed the.Semicolon ∷ (flat_map spell.sees xs ++ last) in
    skip (tasks.law_uses f xs g s) (fixed the.Law) (spell.formula f ++ rest)
    (joined us (both vs ws) (spell.formula f) rest (formula f s)
    (skip (both vs ws) (fixed the.Semicolon) (flat_map spell.sees xs ++ last)
    (joined vs ws (flat_map spell.sees xs) last (each_of (λ (x : SeesTree). both (uses.group_uses x.group s) (tasks.atoms_uses x.atoms s)) spell.sees (sees s) xs)
    (skip ws (fixed the.Designated) (spell.formula g ++ fixed the.Semicolon ∷ []) (before ws (spell.formula g) (fixed the.Semicolon ∷ []) (formula g s))))))

init_items : (i : InitTree) (s : Scope) → Follows (tasks.init_uses i s) (spell.init_items i)
init_items (Explicit ws xs ls) s =
    joined (tasks.world_uses [] ws s) (tasks.ends_uses (tasks.world_names ws) xs ls s) (flat_map spell.world ws) (spell.designated xs ++ flat_map spell.link ls)
    (worlds [] ws s) (ends (tasks.world_names ws) xs ls s)
init_items (Lawful vary fs f xs g) s =
    let us = tasks.atoms_uses vary s in
    let vs = tasks.facts_uses vary (unwrap_or fs []) s in
    let ws = tasks.law_uses f xs g s in
    let first_marks = spell.braced (spell.atoms vary) in
    let last = fixed the.Law ∷ (spell.formula f ++ (fixed the.Semicolon ∷ (flat_map spell.sees xs ++ (fixed the.Designated ∷ (spell.formula g ++ fixed the.Semicolon ∷ []))))) in
    skip (both (both us vs) ws) (fixed the.Vary) (first_marks ++ (spell.facts fs ++ last))
    (subst (Follows (both (both us vs) ws)) (append_assoc first_marks (spell.facts fs) last)
    (joined (both us vs) ws (first_marks ++ spell.facts fs) last
    (joined us vs first_marks (spell.facts fs) (in_braces us (spell.atoms vary) (atoms vary s)) (facts vary fs s))
    (law f xs g s)))

init : (i : InitTree) (s : Scope) → Follows (tasks.init_uses i s) (spell.init i)
init i s = skip (tasks.init_uses i s) (fixed the.Init) (spell.braced (spell.init_items i)) (in_braces (tasks.init_uses i s) (spell.init_items i) (init_items i s))

-- ---- schemas

set : (s : Scope) (x : SetTree) → Follows (both (uses.atom_uses x.atom s) (uses.formula_uses x.value s)) (spell.set x)
set s x =
    let us = uses.atom_uses x.atom s in
    let vs = uses.formula_uses x.value s in
    joined us vs (spell.atom None x.atom) (fixed the.Becomes ∷ (spell.formula x.value ++ fixed the.Semicolon ∷ [])) (atom None x.atom s)
    (skip vs (fixed the.Becomes) (spell.formula x.value ++ fixed the.Semicolon ∷ []) (before vs (spell.formula x.value) (fixed the.Semicolon ∷ []) (formula x.value s)))

sets : (xs : List SetTree) (s : Scope) → Follows (tasks.sets_uses xs s) (spell.sets xs)
sets xs s =
    in_braces (tasks.sets_uses xs s) (flat_map spell.set xs) (each_of (λ (x : SetTree). both (uses.atom_uses x.atom s) (uses.formula_uses x.value s)) spell.set (set s) xs)

effect : (f : FormulaTree) (xs : List SetTree) (s : Scope) → Follows (tasks.effect_uses f xs s) (spell.formula f ++ spell.sets xs)
effect f xs s = joined (uses.formula_uses f s) (tasks.sets_uses xs s) (spell.formula f) (spell.sets xs) (formula f s) (sets xs s)

events : (taken : List Text) (es : List EventTree) (s : Scope) → Follows (tasks.event_uses taken es s) (flat_map spell.event es)
events taken [] s = none []
events taken (e ∷ es) s =
    let us = tasks.effect_uses e.pre e.sets s in
    let rest = tasks.event_uses (taken ++ e.name.text ∷ []) es s in
    let more = flat_map spell.event es in
    let inner = spell.formula e.pre ++ spell.sets e.sets in
    skip (tasks.event_uses taken (e ∷ es) s) (fixed the.Event) (named e.name ∷ fixed the.Pre ∷ (inner ++ more))
    (first_name e.name (NewName e.name.text taken) (both us rest) (fixed the.Pre ∷ (inner ++ more))
    (skip (both us rest) (fixed the.Pre) (inner ++ more)
    (joined us rest inner more (effect e.pre e.sets s) (events (taken ++ e.name.text ∷ []) es s))))

-- what is told or found out, the word before the group, and the group
told : (m n : Mark) (f : FormulaTree) (g : GroupTree) (s : Scope) → Follows (tasks.told_uses f g s) (m ∷ (spell.formula f ++ (n ∷ (spell.group g ++ fixed the.Semicolon ∷ []))))
told m n f g s =
    let us = uses.formula_uses f s in
    let vs = uses.group_uses g s in
    let last = spell.group g ++ fixed the.Semicolon ∷ [] in
    skip (both us vs) m (spell.formula f ++ (n ∷ last))
    (joined us vs (spell.formula f) (n ∷ last) (formula f s) (skip vs n last (before vs (spell.group g) (fixed the.Semicolon ∷ []) (group g s))))

body : (b : BodyTree) (s : Scope) → Follows (tasks.body_uses b s) (spell.body b)
body (Announce f) s =
    skip (uses.formula_uses f s) (fixed the.Announce) (spell.formula f ++ fixed the.Semicolon ∷ []) (before (uses.formula_uses f s) (spell.formula f) (fixed the.Semicolon ∷ []) (formula f s))
body (Private f g) s = told (fixed the.Private) (fixed the.To) f g s
body (Sense f g) s = told (fixed the.Sense) (fixed the.By) f g s
body (Assign f xs) s =
    skip (tasks.effect_uses f xs s) (fixed the.Assign) (fixed the.When ∷ (spell.formula f ++ spell.sets xs)) (skip (tasks.effect_uses f xs s) (fixed the.When) (spell.formula f ++ spell.sets xs) (effect f xs s))
body (Events es xs ls) s =
    joined (tasks.event_uses [] es s) (tasks.ends_uses (tasks.event_names es) xs ls s) (flat_map spell.event es) (spell.designated xs ++ flat_map spell.link ls)
    (events [] es s) (ends (tasks.event_names es) xs ls s)

signature : (ps : List ParamTree) (d : Bool) (s : Scope) → Follows (uses.param_uses 0 ps s) (spell.signature ps d)
signature [] d s = none []
signature (p ∷ ps) d s =
    let us = uses.param_uses 0 (p ∷ ps) s in
    skip us (fixed the.OpenParen) (spell.params (p ∷ ps) ++ (fixed the.CloseParen ∷ spell.distinct d)) (before us (spell.params (p ∷ ps)) (fixed the.CloseParen ∷ spell.distinct d) (params 0 (p ∷ ps) s))

schemas : (taken : List Text) (es : List SchemaTree) (d : Declared) → Follows (tasks.schema_uses taken es d) (flat_map spell.schema es)
schemas taken [] d = none []
schemas taken (e ∷ es) d =
    let us = uses.param_uses 0 e.params (closed d) in
    let vs = tasks.body_uses e.body (with_params (closed d) e.params) in
    let rest = tasks.schema_uses (taken ++ e.name.text ∷ []) es d in
    let more = flat_map spell.schema es in
    let body_marks = spell.cost e.cost ++ spell.braced (spell.body e.body) in
    let inner = spell.signature e.params e.distinct ++ body_marks in
    skip (tasks.schema_uses taken (e ∷ es) d) (fixed the.Action) (named e.name ∷ (inner ++ more))
    (first_name e.name (NewName e.name.text taken) (both (both us vs) rest) (inner ++ more)
    (joined (both us vs) rest inner more
    (joined us vs (spell.signature e.params e.distinct) body_marks (signature e.params e.distinct (closed d))
    (behind vs (spell.cost e.cost) (spell.braced (spell.body e.body)) (in_braces vs (spell.body e.body) (body e.body (with_params (closed d) e.params)))))
    (schemas (taken ++ e.name.text ∷ []) es d)))

-- ---- the task

goal : (f : FormulaTree) (s : Scope) → Follows (uses.formula_uses f s) (fixed the.Goal ∷ (spell.formula f ++ fixed the.Semicolon ∷ []))
goal f s =
    skip (uses.formula_uses f s) (fixed the.Goal) (spell.formula f ++ fixed the.Semicolon ∷ []) (before (uses.formula_uses f s) (spell.formula f) (fixed the.Semicolon ∷ []) (formula f s))

rest_of : (d : Declared) (t : TaskTree) → Follows (tasks.rest_uses d t) (spell.init t.init ++ (flat_map spell.schema t.schemas ++ (fixed the.Goal ∷ (spell.formula t.goal ++ fixed the.Semicolon ∷ []))))
rest_of d t =
    let us = tasks.schema_uses [] t.schemas d in
    let vs = uses.formula_uses t.goal (closed d) in
    let last = fixed the.Goal ∷ (spell.formula t.goal ++ fixed the.Semicolon ∷ []) in
    joined (tasks.init_uses t.init (objective d)) (both us vs) (spell.init t.init) (flat_map spell.schema t.schemas ++ last) (init t.init (objective d))
    (joined us vs (flat_map spell.schema t.schemas) last (schemas [] t.schemas d) (goal t.goal (closed d)))

declared_by : (d : Declared) (t : TaskTree) → Follows (tasks.declaration_uses d t) (spell.types t.types ++ (spell.objects t.objects ++ spell.fluents t.fluents))
declared_by d t =
    let with_types = tasks.after_types d (unwrap_or t.types []) in
    let with_objects = tasks.after_objects with_types t.objects in
    joined (tasks.type_uses d (unwrap_or t.types [])) (both (tasks.object_uses with_types t.objects) (tasks.fluent_uses with_objects t.fluents))
    (spell.types t.types) (spell.objects t.objects ++ spell.fluents t.fluents) (types d t.types)
    (joined (tasks.object_uses with_types t.objects) (tasks.fluent_uses with_objects t.fluents) (spell.objects t.objects) (spell.fluents t.fluents) (objects with_types t.objects) (fluents with_objects t.fluents))

pub task : (t : TaskTree) → Follows (tasks.task_uses t) (spell.task t)
task t =
    let us = tasks.task_uses t in
    let d = tasks.declarations t in
    let xs = spell.types t.types in
    let ys = spell.objects t.objects in
    let zs = spell.fluents t.fluents in
    let last = spell.init t.init ++ (flat_map spell.schema t.schemas ++ (fixed the.Goal ∷ (spell.formula t.goal ++ fixed the.Semicolon ∷ []))) in
    behind us (fixed the.Task ∷ named t.name ∷ fixed the.Semicolon ∷ []) (spell.frames t.s5 ++ (xs ++ (ys ++ (zs ++ last))))
    (behind us (spell.frames t.s5) (xs ++ (ys ++ (zs ++ last)))
    (subst (Follows us) (append_assoc xs (ys ++ zs) last ∙ ap (λ z. xs ++ z) (append_assoc ys zs last))
    (joined (tasks.declaration_uses tasks.start t) (tasks.rest_uses d t) (xs ++ (ys ++ zs)) last (declared_by tasks.start t) (rest_of d t))))
