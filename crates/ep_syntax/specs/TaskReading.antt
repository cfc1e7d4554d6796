-- How tasks are read.
use Rattle.std.specs.Prelude.{ℕ, Bool, false, if◌then◌else◌, List, [], Option, Ok}
use Rattle.ep_bounds.specs.declared.bounds.TheConstants.{MOST_COST}
use Rattle.ep_tree.specs.declared.terminal.Terminal.{Terminal}
use Rattle.ep_tree.specs.declared.terminal.Terminal.TheVariants as the
use Rattle.ep_tree.specs.declared.tree.Name.{Name}
use Rattle.ep_tree.specs.declared.tree.TaskTree.{TaskTree}
use Rattle.ep_tree.specs.declared.tree.TypeTree.{TypeTree}
use Rattle.ep_tree.specs.declared.tree.ObjectTree.{ObjectTree}
use Rattle.ep_tree.specs.declared.tree.FluentTree.{FluentTree}
use Rattle.ep_tree.specs.declared.tree.AtomTree.{AtomTree}
use Rattle.ep_tree.specs.declared.tree.GroupTree.{GroupTree}
use Rattle.ep_tree.specs.declared.tree.PairTree.{PairTree}
use Rattle.ep_tree.specs.declared.tree.PairsTree.{PairsTree}
use Rattle.ep_tree.specs.declared.tree.PairsTree.TheVariants as pairs_tree
use Rattle.ep_tree.specs.declared.tree.LinkTree.{LinkTree}
use Rattle.ep_tree.specs.declared.tree.WorldTree.{WorldTree}
use Rattle.ep_tree.specs.declared.tree.SeesTree.{SeesTree}
use Rattle.ep_tree.specs.declared.tree.InitTree.{InitTree}
use Rattle.ep_tree.specs.declared.tree.InitTree.TheVariants.{Explicit, Lawful}
use Rattle.ep_tree.specs.declared.tree.ParamTree.{ParamTree}
use Rattle.ep_tree.specs.declared.tree.SetTree.{SetTree}
use Rattle.ep_tree.specs.declared.tree.EventTree.{EventTree}
use Rattle.ep_tree.specs.declared.tree.BodyTree.{BodyTree}
use Rattle.ep_tree.specs.declared.tree.BodyTree.TheVariants.{Announce, Private, Sense, Assign, Events}
use Rattle.ep_tree.specs.declared.tree.SchemaTree.{SchemaTree}
use Rattle.ep_tree.specs.declared.tree.FormulaTree.{FormulaTree}
use Rattle.ep_syntax.specs.FormulaReading.{arguments, atom, group, params, outer_formula}
use Rattle.ep_reader.specs.Reading.{Reader, seq, made, begins, key, name, each, some_each, behind_key, listed, any_listed, within, optional, flag, count_within, braced}
use Rattle.ep_tree.specs.Terminals.{is, is_name}

-- '{' [ atoms ] '}'
abbrev pub atoms : Reader (List AtomTree)
atoms n ts = braced (any_listed is_name the.Comma atom) n ts

-- ---- the declarations

abbrev pub type_of : ((Name × ℕ) × Name) × ℕ → TypeTree
type_of p = record { name = p.0.0.0; parent = p.0.1 }

unfoldable pub type_entry : Reader TypeTree
type_entry n ts = made type_of (seq (seq (seq (name n ts) (key the.Less)) name) (key the.Semicolon))

unfoldable pub types : Reader (Option (List TypeTree))
types n ts = optional the.Types (braced (each is_name type_entry)) n ts

abbrev pub object_of : ((List Name × ℕ) × Name) × ℕ → ObjectTree
object_of p = record { names = p.0.0.0; kind = p.0.1 }

unfoldable pub object_entry : Reader ObjectTree
object_entry n ts = made object_of (seq (seq (seq (listed the.Comma name n ts) (key the.Colon)) name) (key the.Semicolon))

unfoldable pub objects : Reader (List ObjectTree)
objects n ts = behind_key the.Objects (braced (each is_name object_entry)) n ts

abbrev pub fluent_of : (Name × List Name) × ℕ → FluentTree
fluent_of p = record { name = p.0.0; kinds = p.0.1 }

unfoldable pub fluent_entry : Reader FluentTree
fluent_entry n ts = made fluent_of (seq (seq (name n ts) arguments) (key the.Semicolon))

unfoldable pub fluents : Reader (List FluentTree)
fluents n ts = behind_key the.Fluents (braced (each is_name fluent_entry)) n ts

-- ---- the initial state

abbrev pub pair_of : (Name × ℕ) × Name → PairTree
pair_of p = record { from = p.0.0; to = p.1 }

unfoldable pub pair : Reader PairTree
pair n ts = made pair_of (seq (seq (name n ts) (key the.Arrow)) name)

unfoldable pub pairs : Reader PairsTree
pairs n ts =
    if begins the.All ts then made (λ _. pairs_tree.All) (key the.All n ts)
    else (if begins the.Same ts then made (λ _. pairs_tree.Same) (key the.Same n ts)
    else made pairs_tree.Listed (braced (any_listed is_name the.Comma pair) n ts))

abbrev pub link_of : ((ℕ × GroupTree) × PairsTree) × ℕ → LinkTree
link_of p = record { group = p.0.0.1; pairs = p.0.1 }

unfoldable pub link : Reader LinkTree
link n ts = made link_of (seq (seq (seq (key the.Links n ts) group) pairs) (key the.Semicolon))

unfoldable pub designated : Reader (List Name)
designated n ts = behind_key the.Designated (braced (listed the.Comma name)) n ts

abbrev pub world_of : (ℕ × Name) × List AtomTree → WorldTree
world_of p = record { name = p.0.1; atoms = p.1 }

unfoldable pub world : Reader WorldTree
world n ts = made world_of (seq (seq (key the.World n ts) name) atoms)

abbrev pub explicit_of : (List WorldTree × List Name) × List LinkTree → InitTree
explicit_of p = Explicit p.0.0 p.0.1 p.1

unfoldable pub explicit : Reader InitTree
explicit n ts = made explicit_of (seq (seq (some_each (is the.World) world n ts) designated) (each (is the.Links) link))

unfoldable pub facts : Reader (Option (List AtomTree))
facts n ts = optional the.Facts atoms n ts

abbrev pub sees_of : (ℕ × GroupTree) × List AtomTree → SeesTree
sees_of p = record { group = p.0.1; atoms = p.1 }

unfoldable pub sees : Reader SeesTree
sees n ts = made sees_of (seq (seq (key the.Sees n ts) group) atoms)

-- left formula ';'
abbrev pub statement : Terminal → Reader FormulaTree
statement left n ts = within left outer_formula the.Semicolon n ts

abbrev pub lawful_of : (((List AtomTree × Option (List AtomTree)) × FormulaTree) × List SeesTree) × FormulaTree → InitTree
lawful_of p = Lawful p.0.0.0.0 p.0.0.0.1 p.0.0.1 p.0.1 p.1

unfoldable pub lawful : Reader InitTree
lawful n ts =
    made lawful_of (seq (seq (seq (seq (behind_key the.Vary atoms n ts) facts) (statement the.Law)) (each (is the.Sees) sees)) (statement the.Designated))

unfoldable pub init_items : Reader InitTree
init_items n ts = if begins the.Vary ts then lawful n ts else explicit n ts

unfoldable pub init : Reader InitTree
init n ts = behind_key the.Init (braced init_items) n ts

-- ---- actions

abbrev pub set_of : ((AtomTree × ℕ) × FormulaTree) × ℕ → SetTree
set_of p = record { atom = p.0.0.0; value = p.0.1 }

unfoldable pub set : Reader SetTree
set n ts = made set_of (seq (seq (seq (atom n ts) (key the.Becomes)) outer_formula) (key the.Semicolon))

abbrev pub sets : Reader (List SetTree)
sets n ts = braced (each is_name set) n ts

abbrev pub event_of : (((ℕ × Name) × ℕ) × FormulaTree) × List SetTree → EventTree
event_of p = record { name = p.0.0.0.1; pre = p.0.1; sets = p.1 }

unfoldable pub event : Reader EventTree
event n ts = made event_of (seq (seq (seq (seq (key the.Event n ts) name) (key the.Pre)) outer_formula) sets)

abbrev pub private_of : (FormulaTree × GroupTree) × ℕ → BodyTree
private_of p = Private p.0.0 p.0.1

unfoldable pub private_message : Reader BodyTree
private_message n ts = made private_of (seq (seq (within the.Private outer_formula the.To n ts) group) (key the.Semicolon))

abbrev pub sense_of : (FormulaTree × GroupTree) × ℕ → BodyTree
sense_of p = Sense p.0.0 p.0.1

unfoldable pub sensing : Reader BodyTree
sensing n ts = made sense_of (seq (seq (within the.Sense outer_formula the.By n ts) group) (key the.Semicolon))

abbrev pub assign_of : ((ℕ × ℕ) × FormulaTree) × List SetTree → BodyTree
assign_of p = Assign p.0.1 p.1

unfoldable pub assignment : Reader BodyTree
assignment n ts = made assign_of (seq (seq (seq (key the.Assign n ts) (key the.When)) outer_formula) sets)

abbrev pub events_of : (List EventTree × List Name) × List LinkTree → BodyTree
events_of p = Events p.0.0 p.0.1 p.1

unfoldable pub events : Reader BodyTree
events n ts = made events_of (seq (seq (some_each (is the.Event) event n ts) designated) (each (is the.Links) link))

unfoldable pub body : Reader BodyTree
body n ts =
    if begins the.Announce ts then made Announce (statement the.Announce n ts)
    else (if begins the.Private ts then private_message n ts
    else (if begins the.Sense ts then sensing n ts
    else (if begins the.Assign ts then assignment n ts else events n ts)))

unfoldable pub distinct : Reader Bool
distinct n ts = flag the.Distinct (key the.Distinct) n ts

abbrev pub Signature : Type 0
Signature = List ParamTree × Bool

unfoldable pub signature : Reader Signature
signature n ts = if begins the.OpenParen ts then seq (params n ts) distinct else Ok (([], false), n, ts)

unfoldable pub cost : Reader (Option ℕ)
cost n ts = optional the.Cost (count_within 1 MOST_COST) n ts

abbrev pub schema_of : (((ℕ × Name) × Signature) × Option ℕ) × BodyTree → SchemaTree
schema_of p = record { name = p.0.0.0.1; params = p.0.0.1.0; distinct = p.0.0.1.1; cost = p.0.1; body = p.1 }

unfoldable pub schema : Reader SchemaTree
schema n ts = made schema_of (seq (seq (seq (seq (key the.Action n ts) name) signature) cost) (braced body))

-- ---- tasks

-- 'frames' 's5' ';'
abbrev pub frames_line : Reader ((ℕ × ℕ) × ℕ)
frames_line n ts = seq (seq (key the.Frames n ts) (key the.S5)) (key the.Semicolon)

unfoldable pub frames : Reader Bool
frames n ts = flag the.Frames frames_line n ts

abbrev pub Declarations : Type 0
Declarations = ((((ℕ × Name) × ℕ) × Bool) × Option (List TypeTree)) × List ObjectTree

abbrev pub task_of : (((Declarations × List FluentTree) × InitTree) × List SchemaTree) × FormulaTree → TaskTree
task_of p = record {
  name = p.0.0.0.0.0.0.0.0.1;
  s5 = p.0.0.0.0.0.0.1;
  types = p.0.0.0.0.0.1;
  objects = p.0.0.0.0.1;
  fluents = p.0.0.0.1;
  init = p.0.0.1;
  schemas = p.0.1;
  goal = p.1;
}

unfoldable pub declarations : Reader Declarations
declarations n ts = seq (seq (seq (seq (seq (key the.Task n ts) name) (key the.Semicolon)) frames) types) objects

unfoldable pub task : Reader TaskTree
task n ts = made task_of (seq (seq (seq (seq (declarations n ts) fluents) init) (each (is the.Action) schema)) (statement the.Goal))
