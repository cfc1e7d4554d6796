-- Well-formed trees: each name is one, and the lists that the grammar makes non-empty are so.
use Rattle.std.specs.Prelude.{ℕ, ◌<◌, ◌≤◌, ◌^◌, Bool, true, ◌&&◌, nat_le, length, List, [], ◌∷◌, IsTrue, IsFalse, IfSome}
use Rattle.std.specs.List.{AllByRecursion, list_all}
use Rattle.ep_bounds.specs.declared.bounds.TheConstants.{MOST_COST}
use Rattle.ep_tree.specs.declared.tree.Name.{Name}
use Rattle.ep_tree.specs.declared.tree.TaskTree.{TaskTree}
use Rattle.ep_tree.specs.declared.tree.TypeTree.{TypeTree}
use Rattle.ep_tree.specs.declared.tree.ObjectTree.{ObjectTree}
use Rattle.ep_tree.specs.declared.tree.FluentTree.{FluentTree}
use Rattle.ep_tree.specs.declared.tree.AtomTree.{AtomTree}
use Rattle.ep_tree.specs.declared.tree.GroupTree.{GroupTree}
use Rattle.ep_tree.specs.declared.tree.GroupTree.TheVariants as group_tree
use Rattle.ep_tree.specs.declared.tree.PairTree.{PairTree}
use Rattle.ep_tree.specs.declared.tree.PairsTree.{PairsTree}
use Rattle.ep_tree.specs.declared.tree.PairsTree.TheVariants as pairs_tree
use Rattle.ep_tree.specs.declared.tree.LinkTree.{LinkTree}
use Rattle.ep_tree.specs.declared.tree.WorldTree.{WorldTree}
use Rattle.ep_tree.specs.declared.tree.SeesTree.{SeesTree}
use Rattle.ep_tree.specs.declared.tree.InitTree.{InitTree}
use Rattle.ep_tree.specs.declared.tree.InitTree.TheVariants.{Explicit, Lawful}
use Rattle.ep_tree.specs.declared.tree.ParamTree.{ParamTree}
use Rattle.ep_tree.specs.declared.tree.SetTree.{SetTree}
use Rattle.ep_tree.specs.declared.tree.EventTree.{EventTree}
use Rattle.ep_tree.specs.declared.tree.BodyTree.{BodyTree}
use Rattle.ep_tree.specs.declared.tree.BodyTree.TheVariants.{Announce, Private, Sense, Assign, Events}
use Rattle.ep_tree.specs.declared.tree.SchemaTree.{SchemaTree}
use Rattle.ep_tree.specs.declared.tree.FormulaTree.{FormulaTree}
use Rattle.ep_tree.specs.declared.tree.FormulaTree.TheOpen.{FormulaTree-F, True, False, Atom, Not, Knows, Common, Forall, Exists, Equal, Paren, And, Or}
use Rattle.ep_tree.specs.declared.tree.FormulaTree.TheFolds.{fold-FormulaTree}
use Rattle.ep_tree.specs.declared.tree.CallTree.{CallTree}
use Rattle.ep_tree.specs.declared.tree.PlanTree.{PlanTree}
use Rattle.ep_tree.specs.Terminals.{is_name}

-- there is an item, and each is such
abbrev pub OneOrMore : {A : Type 0} → (A → Type 0) → List A → Type 0
OneOrMore P [] = ⊥
OneOrMore P (x ∷ xs) = P x × AllByRecursion P xs

-- ---- names, atoms, groups, parameters

abbrev pub formed_name : Name → Bool
formed_name n = is_name n.text

abbrev pub formed_atom : AtomTree → Bool
formed_atom a = formed_name a.name && list_all formed_name a.args

abbrev pub formed_group : GroupTree → Bool
formed_group (group_tree.All token) = true
formed_group (group_tree.Members token names) = list_all formed_name names

abbrev pub formed_param : ParamTree → Bool
formed_param p = formed_name p.name && formed_name p.kind

-- ---- formulas

abbrev pub is_true : Bool → Bool
is_true b = b

-- there are so many parts at least, and each is well-formed
abbrev pub formed_parts : ℕ → List Bool → Bool
formed_parts least parts = nat_le least (length parts) && list_all is_true parts

abbrev pub formed_params : List ParamTree → Bool
formed_params ps = nat_le 1 (length ps) && list_all formed_param ps

abbrev pub formed_layer : FormulaTree-F Bool → Bool
formed_layer (True token) = true
formed_layer (False token) = true
formed_layer (Atom a) = formed_atom a
formed_layer (Not token inner) = inner
formed_layer (Knows token agent inner) = formed_name agent && inner
formed_layer (Common token group inner) = formed_group group && inner
formed_layer (Forall token params inner) = formed_params params && inner
formed_layer (Exists token params inner) = formed_params params && inner
formed_layer (Equal token left right) = formed_name left && formed_name right
formed_layer (Paren token inner) = inner
formed_layer (And token parts) = formed_parts 2 parts
formed_layer (Or token parts) = formed_parts 2 parts

abbrev pub formed_formula : FormulaTree → Bool
formed_formula = fold-FormulaTree Bool formed_layer

-- ---- the same as facts

abbrev pub IsFormedName : Name → Type 0
IsFormedName n = IsTrue (formed_name n)

abbrev pub IsFormedAtom : AtomTree → Type 0
IsFormedAtom a = IsTrue (formed_atom a)

abbrev pub IsFormedGroup : GroupTree → Type 0
IsFormedGroup g = IsTrue (formed_group g)

abbrev pub IsFormedParam : ParamTree → Type 0
IsFormedParam p = IsTrue (formed_param p)

abbrev pub IsFormedFormula : FormulaTree → Type 0
IsFormedFormula f = IsTrue (formed_formula f)

-- ---- the declarations

abbrev pub IsFormedType : TypeTree → Type 0
IsFormedType t = IsFormedName t.name × IsFormedName t.parent

abbrev pub IsFormedObject : ObjectTree → Type 0
IsFormedObject o = OneOrMore IsFormedName o.names × IsFormedName o.kind

abbrev pub IsFormedFluent : FluentTree → Type 0
IsFormedFluent f = IsFormedName f.name × AllByRecursion IsFormedName f.kinds

-- ---- the initial state

abbrev pub IsFormedPair : PairTree → Type 0
IsFormedPair p = IsFormedName p.from × IsFormedName p.to

abbrev pub IsFormedPairs : PairsTree → Type 0
IsFormedPairs pairs_tree.All = Unit {0}
IsFormedPairs pairs_tree.Same = Unit {0}
IsFormedPairs (pairs_tree.Listed ps) = AllByRecursion IsFormedPair ps

abbrev pub IsFormedLink : LinkTree → Type 0
IsFormedLink l = IsFormedGroup l.group × IsFormedPairs l.pairs

abbrev pub IsFormedWorld : WorldTree → Type 0
IsFormedWorld w = IsFormedName w.name × AllByRecursion IsFormedAtom w.atoms

abbrev pub IsFormedSees : SeesTree → Type 0
IsFormedSees s = IsFormedGroup s.group × AllByRecursion IsFormedAtom s.atoms

abbrev pub IsFormedInit : InitTree → Type 0
IsFormedInit (Explicit worlds names links) = OneOrMore IsFormedWorld worlds × OneOrMore IsFormedName names × AllByRecursion IsFormedLink links
IsFormedInit (Lawful vary facts law sees f) =
    AllByRecursion IsFormedAtom vary × IfSome facts (AllByRecursion IsFormedAtom) × IsFormedFormula law × AllByRecursion IsFormedSees sees × IsFormedFormula f

-- ---- actions

abbrev pub IsFormedSet : SetTree → Type 0
IsFormedSet s = IsFormedAtom s.atom × IsFormedFormula s.value

abbrev pub IsFormedEvent : EventTree → Type 0
IsFormedEvent e = IsFormedName e.name × IsFormedFormula e.pre × AllByRecursion IsFormedSet e.sets

abbrev pub IsFormedBody : BodyTree → Type 0
IsFormedBody (Announce what) = IsFormedFormula what
IsFormedBody (Private what group) = IsFormedFormula what × IsFormedGroup group
IsFormedBody (Sense what group) = IsFormedFormula what × IsFormedGroup group
IsFormedBody (Assign guard sets) = IsFormedFormula guard × AllByRecursion IsFormedSet sets
IsFormedBody (Events events names links) = OneOrMore IsFormedEvent events × OneOrMore IsFormedName names × AllByRecursion IsFormedLink links

-- without parameters there is no `distinct`
abbrev pub IsFormedSignature : List ParamTree → Bool → Type 0
IsFormedSignature [] distinct = IsFalse distinct
IsFormedSignature (p ∷ ps) distinct = IsFormedParam p × AllByRecursion IsFormedParam ps

-- a cost that an action may have
abbrev pub IsFormedCost : ℕ → Type 0
IsFormedCost cost = (1 ≤ cost) × (cost ≤ MOST_COST)

abbrev pub IsFormedSchema : SchemaTree → Type 0
IsFormedSchema s = IsFormedName s.name × IsFormedSignature s.params s.distinct × IfSome s.cost IsFormedCost × IsFormedBody s.body

-- ---- whole texts

abbrev pub IsFormedTask : TaskTree → Type 0
IsFormedTask t =
    IsFormedName t.name × IfSome t.types (AllByRecursion IsFormedType) × AllByRecursion IsFormedObject t.objects × AllByRecursion IsFormedFluent t.fluents × IsFormedInit t.init
    × AllByRecursion IsFormedSchema t.schemas × IsFormedFormula t.goal

abbrev pub IsFormedCall : CallTree → Type 0
IsFormedCall c = IsFormedName c.name × AllByRecursion IsFormedName c.args

-- a number of at most 9 digits
abbrev pub IsFormedCount : ℕ → Type 0
IsFormedCount count = count < 10 ^ 9

abbrev pub IsFormedPlan : PlanTree → Type 0
IsFormedPlan p = IsFormedName p.task × IfSome p.cost IsFormedCount × IsFormedCount p.count × AllByRecursion IsFormedCall p.calls
