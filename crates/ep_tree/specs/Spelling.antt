-- The grammar: how each tree is spelled, one case for each production.
use Rattle.std.specs.Prelude.{ℕ, suc, Bool, true, false, List, [], ◌∷◌, ◌++◌, map, Option, Some, None}
use Rattle.std.specs.Fmt.{decimal}
use Rattle.std.specs.List.{flat_map}
use Rattle.ep_tree.specs.declared.terminal.Terminal.{Terminal}
use Rattle.ep_tree.specs.declared.terminal.Terminal.TheVariants as the
use Rattle.ep_tree.specs.declared.tree.Name.{Name}
use Rattle.ep_tree.specs.declared.tree.TaskTree.{TaskTree}
use Rattle.ep_tree.specs.declared.tree.TypeTree.{TypeTree}
use Rattle.ep_tree.specs.declared.tree.ObjectTree.{ObjectTree}
use Rattle.ep_tree.specs.declared.tree.FluentTree.{FluentTree}
use Rattle.ep_tree.specs.declared.tree.AtomTree.{AtomTree}
use Rattle.ep_tree.specs.declared.tree.GroupTree.{GroupTree}
use Rattle.ep_tree.specs.declared.tree.GroupTree.TheVariants as group_tree
use Rattle.ep_tree.specs.declared.tree.PairTree.{PairTree}
use Rattle.ep_tree.specs.declared.tree.PairsTree.{PairsTree}
use Rattle.ep_tree.specs.declared.tree.PairsTree.TheVariants as pairs_tree
use Rattle.ep_tree.specs.declared.tree.LinkTree.{LinkTree}
use Rattle.ep_tree.specs.declared.tree.WorldTree.{WorldTree}
use Rattle.ep_tree.specs.declared.tree.SeesTree.{SeesTree}
use Rattle.ep_tree.specs.declared.tree.InitTree.{InitTree}
use Rattle.ep_tree.specs.declared.tree.InitTree.TheVariants.{Explicit, Lawful}
use Rattle.ep_tree.specs.declared.tree.ParamTree.{ParamTree}
use Rattle.ep_tree.specs.declared.tree.SetTree.{SetTree}
use Rattle.ep_tree.specs.declared.tree.EventTree.{EventTree}
use Rattle.ep_tree.specs.declared.tree.BodyTree.{BodyTree}
use Rattle.ep_tree.specs.declared.tree.BodyTree.TheVariants.{Announce, Private, Sense, Assign, Events}
use Rattle.ep_tree.specs.declared.tree.SchemaTree.{SchemaTree}
use Rattle.ep_tree.specs.declared.tree.FormulaTree.{FormulaTree}
use Rattle.ep_tree.specs.declared.tree.FormulaTree.TheOpen.{FormulaTree-F, True, False, Atom, Not, Knows, Common, Forall, Exists, Equal, Paren, And, Or}
use Rattle.ep_tree.specs.declared.tree.FormulaTree.TheFolds.{fold-FormulaTree}
use Rattle.ep_tree.specs.declared.tree.CallTree.{CallTree}
use Rattle.ep_tree.specs.declared.tree.PlanTree.{PlanTree}
use Rattle.ep_tree.specs.Marks.{Mark, fixed, held, opening, named}

-- ---- lists

-- the pieces, each behind the mark
abbrev pub behind : Terminal → List (List Mark) → List Mark
behind t [] = []
behind t (x ∷ xs) = fixed t ∷ (x ++ behind t xs)

-- the pieces, with the mark between neighbours
abbrev pub between : Terminal → List (List Mark) → List Mark
between t [] = []
between t (x ∷ xs) = x ++ behind t xs

abbrev pub braced : List Mark → List Mark
braced marks = fixed the.OpenBrace ∷ (marks ++ fixed the.CloseBrace ∷ [])

abbrev pub names : List Name → List Mark
names ns = between the.Comma (map (λ n. named n ∷ []) ns)

-- ---- atoms, groups, parameters

-- nothing, or names in parentheses
abbrev pub arguments : List Name → List Mark
arguments [] = []
arguments (n ∷ ns) = fixed the.OpenParen ∷ (names (n ∷ ns) ++ fixed the.CloseParen ∷ [])

-- an atom, whose name begins a formula of this nesting, if it is one
abbrev pub atom : Option ℕ → AtomTree → List Mark
atom nesting a = record { number = Some a.name.token; text = a.name.text; nesting = nesting } ∷ arguments a.args

abbrev pub atoms : List AtomTree → List Mark
atoms xs = between the.Comma (map (atom None) xs)

abbrev pub group : GroupTree → List Mark
group (group_tree.All token) = held token the.All ∷ []
group (group_tree.Members token ns) = held token the.OpenBrace ∷ (names ns ++ fixed the.CloseBrace ∷ [])

abbrev pub param : ParamTree → List Mark
param p = named p.name ∷ fixed the.Colon ∷ named p.kind ∷ []

abbrev pub params : List ParamTree → List Mark
params ps = between the.Comma (map param ps)

-- ---- formulas

-- each part at this nesting
abbrev pub parts_at : ℕ → List (ℕ → List Mark) → List (List Mark)
parts_at k [] = []
parts_at k (part ∷ parts) = part k ∷ parts_at k parts

-- a formula of nesting k
abbrev pub production : FormulaTree-F (ℕ → List Mark) → ℕ → List Mark
production (True token) k = opening k token the.True ∷ []
production (False token) k = opening k token the.False ∷ []
production (Atom a) k = atom (Some k) a
production (Not token inner) k = opening k token the.Not ∷ inner (suc k)
production (Knows token agent inner) k = opening k token the.Knows ∷ named agent ∷ inner (suc k)
production (Common token g inner) k = opening k token the.Common ∷ (group g ++ inner (suc k))
production (Forall token ps inner) k = opening k token the.Forall ∷ fixed the.OpenParen ∷ (params ps ++ fixed the.CloseParen ∷ inner (suc k))
production (Exists token ps inner) k = opening k token the.Exists ∷ fixed the.OpenParen ∷ (params ps ++ fixed the.CloseParen ∷ inner (suc k))
production (Equal token left right) k = opening k token the.OpenParen ∷ named left ∷ fixed the.Equals ∷ named right ∷ fixed the.CloseParen ∷ []
production (Paren token inner) k = opening k token the.OpenParen ∷ (inner (suc k) ++ fixed the.CloseParen ∷ [])
production (And token parts) k = opening k token the.OpenParen ∷ (between the.And (parts_at (suc k) parts) ++ fixed the.CloseParen ∷ [])
production (Or token parts) k = opening k token the.OpenParen ∷ (between the.Or (parts_at (suc k) parts) ++ fixed the.CloseParen ∷ [])

abbrev pub formula_at : FormulaTree → ℕ → List Mark
formula_at = fold-FormulaTree (ℕ → List Mark) production

-- a formula that stands in no other
abbrev pub formula : FormulaTree → List Mark
formula f = formula_at f 1

-- ---- the declarations

abbrev pub type_entry : TypeTree → List Mark
type_entry t = named t.name ∷ fixed the.Less ∷ named t.parent ∷ fixed the.Semicolon ∷ []

abbrev pub types : Option (List TypeTree) → List Mark
types None = []
types (Some ts) = fixed the.Types ∷ braced (flat_map type_entry ts)

abbrev pub object_entry : ObjectTree → List Mark
object_entry o = names o.names ++ fixed the.Colon ∷ named o.kind ∷ fixed the.Semicolon ∷ []

abbrev pub objects : List ObjectTree → List Mark
objects os = fixed the.Objects ∷ braced (flat_map object_entry os)

abbrev pub fluent_entry : FluentTree → List Mark
fluent_entry f = named f.name ∷ (arguments f.kinds ++ fixed the.Semicolon ∷ [])

abbrev pub fluents : List FluentTree → List Mark
fluents fs = fixed the.Fluents ∷ braced (flat_map fluent_entry fs)

-- ---- the initial state

abbrev pub pair : PairTree → List Mark
pair p = named p.from ∷ fixed the.Arrow ∷ named p.to ∷ []

abbrev pub pairs : PairsTree → List Mark
pairs pairs_tree.All = fixed the.All ∷ []
pairs pairs_tree.Same = fixed the.Same ∷ []
pairs (pairs_tree.Listed ps) = braced (between the.Comma (map pair ps))

abbrev pub link : LinkTree → List Mark
link l = fixed the.Links ∷ (group l.group ++ (pairs l.pairs ++ fixed the.Semicolon ∷ []))

abbrev pub designated : List Name → List Mark
designated ns = fixed the.Designated ∷ braced (names ns)

abbrev pub world : WorldTree → List Mark
world w = fixed the.World ∷ named w.name ∷ braced (atoms w.atoms)

abbrev pub facts : Option (List AtomTree) → List Mark
facts None = []
facts (Some xs) = fixed the.Facts ∷ braced (atoms xs)

abbrev pub sees : SeesTree → List Mark
sees s = fixed the.Sees ∷ (group s.group ++ braced (atoms s.atoms))

abbrev pub init_items : InitTree → List Mark
init_items (Explicit worlds ns links) = flat_map world worlds ++ (designated ns ++ flat_map link links)
init_items (Lawful vary fs law ss f) =
    fixed the.Vary ∷ (braced (atoms vary) ++ (facts fs ++ (fixed the.Law ∷ (formula law ++ (fixed the.Semicolon ∷ (flat_map sees ss ++ (fixed the.Designated ∷ (formula f ++ fixed the.Semicolon ∷ []))))))))

abbrev pub init : InitTree → List Mark
init i = fixed the.Init ∷ braced (init_items i)

-- ---- actions

abbrev pub set : SetTree → List Mark
set s = atom None s.atom ++ (fixed the.Becomes ∷ (formula s.value ++ fixed the.Semicolon ∷ []))

abbrev pub sets : List SetTree → List Mark
sets ss = braced (flat_map set ss)

abbrev pub event : EventTree → List Mark
event e = fixed the.Event ∷ named e.name ∷ fixed the.Pre ∷ (formula e.pre ++ sets e.sets)

abbrev pub body : BodyTree → List Mark
body (Announce what) = fixed the.Announce ∷ (formula what ++ fixed the.Semicolon ∷ [])
body (Private what g) = fixed the.Private ∷ (formula what ++ (fixed the.To ∷ (group g ++ fixed the.Semicolon ∷ [])))
body (Sense what g) = fixed the.Sense ∷ (formula what ++ (fixed the.By ∷ (group g ++ fixed the.Semicolon ∷ [])))
body (Assign guard ss) = fixed the.Assign ∷ fixed the.When ∷ (formula guard ++ sets ss)
body (Events events ns links) = flat_map event events ++ (designated ns ++ flat_map link links)

abbrev pub distinct : Bool → List Mark
distinct true = fixed the.Distinct ∷ []
distinct false = []

-- nothing, or parameters in parentheses, and whether their values are to be distinct
abbrev pub signature : List ParamTree → Bool → List Mark
signature [] d = []
signature (p ∷ ps) d = fixed the.OpenParen ∷ (params (p ∷ ps) ++ (fixed the.CloseParen ∷ distinct d))

-- a number in decimal
abbrev pub count : ℕ → Mark
count n = record { number = None; text = decimal n; nesting = None }

-- nothing, or a cost
abbrev pub cost : Option ℕ → List Mark
cost None = []
cost (Some n) = fixed the.Cost ∷ count n ∷ []

abbrev pub schema : SchemaTree → List Mark
schema s = fixed the.Action ∷ named s.name ∷ (signature s.params s.distinct ++ (cost s.cost ++ braced (body s.body)))

-- ---- whole texts

-- nothing, or that the relations are equivalences
abbrev pub frames : Bool → List Mark
frames true = fixed the.Frames ∷ fixed the.S5 ∷ fixed the.Semicolon ∷ []
frames false = []

abbrev pub task : TaskTree → List Mark
task t =
    fixed the.Task ∷ named t.name ∷ fixed the.Semicolon ∷ (frames t.s5 ++ (types t.types ++ (objects t.objects ++ (fluents t.fluents ++ (init t.init ++ (flat_map schema t.schemas ++ (fixed the.Goal ∷ (formula t.goal ++ fixed the.Semicolon ∷ []))))))))

abbrev pub call : CallTree → List Mark
call c = named c.name ∷ arguments c.args

-- version 2 of plan files states a cost, and version 1 does not
abbrev pub version : Option ℕ → Mark
version None = fixed the.One
version (Some n) = fixed the.Two

abbrev pub plan : PlanTree → List Mark
plan p =
    fixed the.Plan ∷ version p.cost ∷ fixed the.Task ∷ named p.task ∷ (cost p.cost ++ (fixed the.Actions ∷ count p.count ∷ (flat_map call p.calls ++ fixed the.End ∷ [])))
