-- Trees that are equal but for token numbers have the same bare tree, in which each number is 0.
use Rattle.std.specs.Prelude.{List, map, Option, Some, None}
use Rattle.ep_tree.specs.declared.tree.Name.{Name}
use Rattle.ep_tree.specs.declared.tree.TaskTree.{TaskTree}
use Rattle.ep_tree.specs.declared.tree.TypeTree.{TypeTree}
use Rattle.ep_tree.specs.declared.tree.ObjectTree.{ObjectTree}
use Rattle.ep_tree.specs.declared.tree.FluentTree.{FluentTree}
use Rattle.ep_tree.specs.declared.tree.AtomTree.{AtomTree}
use Rattle.ep_tree.specs.declared.tree.GroupTree.{GroupTree}
use Rattle.ep_tree.specs.declared.tree.GroupTree.TheVariants as group_tree
use Rattle.ep_tree.specs.declared.tree.PairTree.{PairTree}
use Rattle.ep_tree.specs.declared.tree.PairsTree.{PairsTree}
use Rattle.ep_tree.specs.declared.tree.PairsTree.TheVariants as pairs_tree
use Rattle.ep_tree.specs.declared.tree.LinkTree.{LinkTree}
use Rattle.ep_tree.specs.declared.tree.WorldTree.{WorldTree}
use Rattle.ep_tree.specs.declared.tree.SeesTree.{SeesTree}
use Rattle.ep_tree.specs.declared.tree.InitTree.{InitTree}
use Rattle.ep_tree.specs.declared.tree.InitTree.TheVariants.{Explicit, Lawful}
use Rattle.ep_tree.specs.declared.tree.ParamTree.{ParamTree}
use Rattle.ep_tree.specs.declared.tree.SetTree.{SetTree}
use Rattle.ep_tree.specs.declared.tree.EventTree.{EventTree}
use Rattle.ep_tree.specs.declared.tree.BodyTree.{BodyTree}
use Rattle.ep_tree.specs.declared.tree.BodyTree.TheVariants.{Announce, Private, Sense, Assign, Events}
use Rattle.ep_tree.specs.declared.tree.SchemaTree.{SchemaTree}
use Rattle.ep_tree.specs.declared.tree.FormulaTree.{FormulaTree}
use Rattle.ep_tree.specs.declared.tree.FormulaTree.TheOpen.{FormulaTree-F, True, False, Atom, Not, Knows, Common, Forall, Exists, Equal, Paren, And, Or}
use Rattle.ep_tree.specs.declared.tree.FormulaTree.TheFolds.{fold-FormulaTree}
use Rattle.ep_tree.specs.declared.tree.CallTree.{CallTree}
use Rattle.ep_tree.specs.declared.tree.PlanTree.{PlanTree}
use Rattle.ep_tree.specs.declared.tree.FormulaTree.TheVariants as tree

abbrev pub bare_name : Name → Name
bare_name n = record { token = 0; text = n.text }

abbrev pub bare_names : List Name → List Name
bare_names ns = map bare_name ns

abbrev pub bare_atom : AtomTree → AtomTree
bare_atom a = record { name = bare_name a.name; args = bare_names a.args }

abbrev pub bare_group : GroupTree → GroupTree
bare_group (group_tree.All token) = group_tree.All 0
bare_group (group_tree.Members token names) = group_tree.Members 0 (bare_names names)

abbrev pub bare_param : ParamTree → ParamTree
bare_param p = record { name = bare_name p.name; kind = bare_name p.kind }

abbrev pub bare_layer : FormulaTree-F FormulaTree → FormulaTree
bare_layer (True token) = tree.True 0
bare_layer (False token) = tree.False 0
bare_layer (Atom a) = tree.Atom (bare_atom a)
bare_layer (Not token inner) = tree.Not 0 inner
bare_layer (Knows token agent inner) = tree.Knows 0 (bare_name agent) inner
bare_layer (Common token group inner) = tree.Common 0 (bare_group group) inner
bare_layer (Forall token params inner) = tree.Forall 0 (map bare_param params) inner
bare_layer (Exists token params inner) = tree.Exists 0 (map bare_param params) inner
bare_layer (Equal token left right) = tree.Equal 0 (bare_name left) (bare_name right)
bare_layer (Paren token inner) = tree.Paren 0 inner
bare_layer (And token parts) = tree.And 0 parts
bare_layer (Or token parts) = tree.Or 0 parts

abbrev pub bare_formula : FormulaTree → FormulaTree
bare_formula = fold-FormulaTree FormulaTree bare_layer

abbrev pub bare_type : TypeTree → TypeTree
bare_type t = record { name = bare_name t.name; parent = bare_name t.parent }

abbrev pub bare_types : Option (List TypeTree) → Option (List TypeTree)
bare_types None = None
bare_types (Some ts) = Some (map bare_type ts)

abbrev pub bare_object : ObjectTree → ObjectTree
bare_object o = record { names = bare_names o.names; kind = bare_name o.kind }

abbrev pub bare_fluent : FluentTree → FluentTree
bare_fluent f = record { name = bare_name f.name; kinds = bare_names f.kinds }

abbrev pub bare_pair : PairTree → PairTree
bare_pair p = record { from = bare_name p.from; to = bare_name p.to }

abbrev pub bare_pairs : PairsTree → PairsTree
bare_pairs pairs_tree.All = pairs_tree.All
bare_pairs pairs_tree.Same = pairs_tree.Same
bare_pairs (pairs_tree.Listed ps) = pairs_tree.Listed (map bare_pair ps)

abbrev pub bare_link : LinkTree → LinkTree
bare_link l = record { group = bare_group l.group; pairs = bare_pairs l.pairs }

abbrev pub bare_world : WorldTree → WorldTree
bare_world w = record { name = bare_name w.name; atoms = map bare_atom w.atoms }

abbrev pub bare_facts : Option (List AtomTree) → Option (List AtomTree)
bare_facts None = None
bare_facts (Some xs) = Some (map bare_atom xs)

abbrev pub bare_sees : SeesTree → SeesTree
bare_sees s = record { group = bare_group s.group; atoms = map bare_atom s.atoms }

abbrev pub bare_init : InitTree → InitTree
bare_init (Explicit worlds names links) = Explicit (map bare_world worlds) (bare_names names) (map bare_link links)
bare_init (Lawful vary facts law sees f) = Lawful (map bare_atom vary) (bare_facts facts) (bare_formula law) (map bare_sees sees) (bare_formula f)

abbrev pub bare_set : SetTree → SetTree
bare_set s = record { atom = bare_atom s.atom; value = bare_formula s.value }

abbrev pub bare_event : EventTree → EventTree
bare_event e = record { name = bare_name e.name; pre = bare_formula e.pre; sets = map bare_set e.sets }

abbrev pub bare_body : BodyTree → BodyTree
bare_body (Announce what) = Announce (bare_formula what)
bare_body (Private what group) = Private (bare_formula what) (bare_group group)
bare_body (Sense what group) = Sense (bare_formula what) (bare_group group)
bare_body (Assign guard sets) = Assign (bare_formula guard) (map bare_set sets)
bare_body (Events events names links) = Events (map bare_event events) (bare_names names) (map bare_link links)

abbrev pub bare_schema : SchemaTree → SchemaTree
bare_schema s = record { name = bare_name s.name; params = map bare_param s.params; distinct = s.distinct; cost = s.cost; body = bare_body s.body }

abbrev pub bare_task : TaskTree → TaskTree
bare_task t = record {
  name = bare_name t.name;
  s5 = t.s5;
  types = bare_types t.types;
  objects = map bare_object t.objects;
  fluents = map bare_fluent t.fluents;
  init = bare_init t.init;
  schemas = map bare_schema t.schemas;
  goal = bare_formula t.goal;
}

abbrev pub bare_call : CallTree → CallTree
bare_call c = record { name = bare_name c.name; args = bare_names c.args }

abbrev pub bare_plan : PlanTree → PlanTree
bare_plan p = record { task = bare_name p.task; cost = p.cost; count = p.count; calls = map bare_call p.calls }
