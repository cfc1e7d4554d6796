-- Each token of a well-formed task is the spelling of one.
use Rattle.std.proofs.Common.{ℕ, Bool, true, false, List, [], ◌∷◌, ◌++◌, map, Option, Some, None, refl, IfSome, arith}
use Rattle.std.specs.List.{AllByRecursion, flat_map}
use Rattle.ep_tree.specs.declared.terminal.Terminal.{Terminal}
use Rattle.ep_tree.specs.declared.terminal.Terminal.TheVariants as the
use Rattle.ep_tree.specs.declared.tree.Name.{Name}
use Rattle.ep_tree.specs.declared.tree.TaskTree.{TaskTree}
use Rattle.ep_tree.specs.declared.tree.TypeTree.{TypeTree}
use Rattle.ep_tree.specs.declared.tree.ObjectTree.{ObjectTree}
use Rattle.ep_tree.specs.declared.tree.FluentTree.{FluentTree}
use Rattle.ep_tree.specs.declared.tree.AtomTree.{AtomTree}
use Rattle.ep_tree.specs.declared.tree.GroupTree.{GroupTree}
use Rattle.ep_tree.specs.declared.tree.PairTree.{PairTree}
use Rattle.ep_tree.specs.declared.tree.PairsTree.{PairsTree}
use Rattle.ep_tree.specs.declared.tree.PairsTree.TheVariants as pairs_tree
use Rattle.ep_tree.specs.declared.tree.LinkTree.{LinkTree}
use Rattle.ep_tree.specs.declared.tree.WorldTree.{WorldTree}
use Rattle.ep_tree.specs.declared.tree.SeesTree.{SeesTree}
use Rattle.ep_tree.specs.declared.tree.InitTree.{InitTree}
use Rattle.ep_tree.specs.declared.tree.InitTree.TheVariants.{Explicit, Lawful}
use Rattle.ep_tree.specs.declared.tree.ParamTree.{ParamTree}
use Rattle.ep_tree.specs.declared.tree.SetTree.{SetTree}
use Rattle.ep_tree.specs.declared.tree.EventTree.{EventTree}
use Rattle.ep_tree.specs.declared.tree.BodyTree.{BodyTree}
use Rattle.ep_tree.specs.declared.tree.BodyTree.TheVariants.{Announce, Private, Sense, Assign, Events}
use Rattle.ep_tree.specs.declared.tree.SchemaTree.{SchemaTree}
use Rattle.ep_tree.specs.declared.tree.FormulaTree.{FormulaTree}
use Rattle.ep_tree.specs.Formed.{OneOrMore, IsFormedName, IsFormedAtom, IsFormedGroup, IsFormedFormula, IsFormedType, IsFormedObject, IsFormedFluent, IsFormedPair, IsFormedPairs, IsFormedLink, IsFormedWorld, IsFormedSees, IsFormedInit, IsFormedSet, IsFormedEvent, IsFormedBody, IsFormedSignature, IsFormedCost, IsFormedSchema, IsFormedTask}
use Rattle.ep_tree.specs.Marks.{Mark, fixed, named, texts}
use Rattle.ep_tree.specs.Spelling as spell
use Rattle.ep_layout.proofs.LayoutTokens.{AreSpellings}
use Rattle.ep_layout.proofs.SpelledFormulas.{AreSpelled, spelled-texts, spelled-append, spelled_name, spelled_count, spelled-flat_map, spelled-between, each-some, spelled-braced, spelled-names, spelled-arguments, spelled-atom, spelled-group, spelled-params, spelled-formula}

ended : (ms : List Mark) → AreSpelled ms → AreSpelled (ms ++ fixed the.Semicolon ∷ [])
ended ms s = spelled-append ms (fixed the.Semicolon ∷ []) s (refl, tt)

formula : (f : FormulaTree) → IsFormedFormula f → AreSpelled (spell.formula f)
formula f e = spelled-formula f e 1

sentence : (f : FormulaTree) → IsFormedFormula f → AreSpelled (spell.formula f ++ fixed the.Semicolon ∷ [])
sentence f e = ended (spell.formula f) (formula f e)

-- ---- declarations

type_entry : (t : TypeTree) → IsFormedType t → AreSpelled (spell.type_entry t)
type_entry t f = (spelled_name t.name f.0, (refl, (spelled_name t.parent f.1, (refl, tt))))

types : (ts : Option (List TypeTree)) → IfSome ts (AllByRecursion IsFormedType) → AreSpelled (spell.types ts)
types None f = tt
types (Some ts) f = (refl, spelled-braced (flat_map spell.type_entry ts) (spelled-flat_map IsFormedType spell.type_entry type_entry ts f))

object_entry : (o : ObjectTree) → IsFormedObject o → AreSpelled (spell.object_entry o)
object_entry o f =
    spelled-append (spell.names o.names) (fixed the.Colon ∷ named o.kind ∷ fixed the.Semicolon ∷ []) (spelled-names o.names (each-some IsFormedName o.names f.0))
    (refl, (spelled_name o.kind f.1, (refl, tt)))

objects : (os : List ObjectTree) → AllByRecursion IsFormedObject os → AreSpelled (spell.objects os)
objects os f = (refl, spelled-braced (flat_map spell.object_entry os) (spelled-flat_map IsFormedObject spell.object_entry object_entry os f))

fluent_entry : (f : FluentTree) → IsFormedFluent f → AreSpelled (spell.fluent_entry f)
fluent_entry f e = (spelled_name f.name e.0, ended (spell.arguments f.kinds) (spelled-arguments f.kinds e.1))

fluents : (fs : List FluentTree) → AllByRecursion IsFormedFluent fs → AreSpelled (spell.fluents fs)
fluents fs f = (refl, spelled-braced (flat_map spell.fluent_entry fs) (spelled-flat_map IsFormedFluent spell.fluent_entry fluent_entry fs f))

-- ---- the initial state

pair : (p : PairTree) → IsFormedPair p → AreSpelled (spell.pair p)
pair p f = (spelled_name p.from f.0, (refl, (spelled_name p.to f.1, tt)))

pairs : (ps : PairsTree) → IsFormedPairs ps → AreSpelled (spell.pairs ps)
pairs pairs_tree.All f = (refl, tt)
pairs pairs_tree.Same f = (refl, tt)
pairs (pairs_tree.Listed ps) f = spelled-braced (spell.between the.Comma (map spell.pair ps)) (spelled-between IsFormedPair spell.pair pair the.Comma ps f)

link : (l : LinkTree) → IsFormedLink l → AreSpelled (spell.link l)
link l f =
    (refl, spelled-append (spell.group l.group) (spell.pairs l.pairs ++ fixed the.Semicolon ∷ []) (spelled-group l.group f.0) (ended (spell.pairs l.pairs) (pairs l.pairs f.1)))

links : (ls : List LinkTree) → AllByRecursion IsFormedLink ls → AreSpelled (flat_map spell.link ls)
links ls f = spelled-flat_map IsFormedLink spell.link link ls f

designated : (ns : List Name) → OneOrMore IsFormedName ns → AreSpelled (spell.designated ns)
designated ns f = (refl, spelled-braced (spell.names ns) (spelled-names ns (each-some IsFormedName ns f)))

atoms : (xs : List AtomTree) → AllByRecursion IsFormedAtom xs → AreSpelled (spell.braced (spell.atoms xs))
atoms xs f = spelled-braced (spell.atoms xs) (spelled-between IsFormedAtom (spell.atom None) (spelled-atom None) the.Comma xs f)

world : (w : WorldTree) → IsFormedWorld w → AreSpelled (spell.world w)
world w f = (refl, (spelled_name w.name f.0, atoms w.atoms f.1))

facts : (fs : Option (List AtomTree)) → IfSome fs (AllByRecursion IsFormedAtom) → AreSpelled (spell.facts fs)
facts None f = tt
facts (Some xs) f = (refl, atoms xs f)

sees : (s : SeesTree) → IsFormedSees s → AreSpelled (spell.sees s)
sees s f = (refl, spelled-append (spell.group s.group) (spell.braced (spell.atoms s.atoms)) (spelled-group s.group f.0) (atoms s.atoms f.1))

init_items : (i : InitTree) → IsFormedInit i → AreSpelled (spell.init_items i)
init_items (Explicit worlds ns ls) f =
    spelled-append (flat_map spell.world worlds) (spell.designated ns ++ flat_map spell.link ls) (spelled-flat_map IsFormedWorld spell.world world worlds (each-some IsFormedWorld worlds f.0))
    (spelled-append (spell.designated ns) (flat_map spell.link ls) (designated ns f.1) (links ls f.2))
init_items (Lawful vary fs law ss g) f = (
  refl,
  spelled-append (spell.braced (spell.atoms vary)) _ (atoms vary f.0)
      (spelled-append (spell.facts fs) _ (facts fs f.1) (
        refl,
        spelled-append (spell.formula law) _ (formula law f.2) (
          refl,
          spelled-append (flat_map spell.sees ss) _ (spelled-flat_map IsFormedSees spell.sees sees ss f.3)
              (refl, sentence g f.4),
        ),
      )),
)

init : (i : InitTree) → IsFormedInit i → AreSpelled (spell.init i)
init i f = (refl, spelled-braced (spell.init_items i) (init_items i f))

-- ---- actions

set : (s : SetTree) → IsFormedSet s → AreSpelled (spell.set s)
set s f = spelled-append (spell.atom None s.atom) (fixed the.Becomes ∷ (spell.formula s.value ++ fixed the.Semicolon ∷ [])) (spelled-atom None s.atom f.0) (refl, sentence s.value f.1)

sets : (ss : List SetTree) → AllByRecursion IsFormedSet ss → AreSpelled (spell.sets ss)
sets ss f = spelled-braced (flat_map spell.set ss) (spelled-flat_map IsFormedSet spell.set set ss f)

event : (e : EventTree) → IsFormedEvent e → AreSpelled (spell.event e)
event e f = (refl, (spelled_name e.name f.0, (refl, spelled-append (spell.formula e.pre) (spell.sets e.sets) (formula e.pre f.1) (sets e.sets f.2))))

news : (t : Terminal) (what : FormulaTree) (g : GroupTree) → AreSpelled (fixed t ∷ []) → IsFormedFormula what → IsFormedGroup g
    → AreSpelled (spell.formula what ++ (fixed t ∷ (spell.group g ++ fixed the.Semicolon ∷ [])))
news t what g s f h =
    spelled-append (spell.formula what) (fixed t ∷ (spell.group g ++ fixed the.Semicolon ∷ [])) (formula what f) (s.0, ended (spell.group g) (spelled-group g h))

body : (b : BodyTree) → IsFormedBody b → AreSpelled (spell.body b)
body (Announce what) f = (refl, sentence what f)
body (Private what g) f = (refl, news the.To what g (refl, tt) f.0 f.1)
body (Sense what g) f = (refl, news the.By what g (refl, tt) f.0 f.1)
body (Assign guard ss) f = (refl, (refl, spelled-append (spell.formula guard) (spell.sets ss) (formula guard f.0) (sets ss f.1)))
body (Events events ns ls) f =
    spelled-append (flat_map spell.event events) (spell.designated ns ++ flat_map spell.link ls) (spelled-flat_map IsFormedEvent spell.event event events (each-some IsFormedEvent events f.0))
    (spelled-append (spell.designated ns) (flat_map spell.link ls) (designated ns f.1) (links ls f.2))

distinct : (d : Bool) → AreSpelled (spell.distinct d)
distinct true = (refl, tt)
distinct false = tt

signature : (ps : List ParamTree) (d : Bool) → IsFormedSignature ps d → AreSpelled (spell.signature ps d)
signature [] d f = tt
signature (p ∷ ps) d f = (refl, spelled-append (spell.params (p ∷ ps)) (fixed the.CloseParen ∷ spell.distinct d) (spelled-params (p ∷ ps) f) (refl, distinct d))

cost : (c : Option ℕ) → IfSome c IsFormedCost → AreSpelled (spell.cost c)
cost None f = tt
cost (Some n) f = (refl, (spelled_count n (omega (arith, f.1)), tt))

schema : (s : SchemaTree) → IsFormedSchema s → AreSpelled (spell.schema s)
schema s f = (
  refl,
  (
    spelled_name s.name f.0,
    spelled-append (spell.signature s.params s.distinct) _ (signature s.params s.distinct f.1)
        (spelled-append (spell.cost s.cost) (spell.braced (spell.body s.body)) (cost s.cost f.2)
        (spelled-braced (spell.body s.body) (body s.body f.3))),
  ),
)

-- ---- whole tasks

frames : (s5 : Bool) → AreSpelled (spell.frames s5)
frames true = (refl, (refl, (refl, tt)))
frames false = tt

task : (t : TaskTree) → IsFormedTask t → AreSpelled (spell.task t)
task t f = (
  refl,
  (
    spelled_name t.name f.0,
    (
      refl,
      spelled-append (spell.frames t.s5) _ (frames t.s5)
          (spelled-append (spell.types t.types) _ (types t.types f.1)
          (spelled-append (spell.objects t.objects) _ (objects t.objects f.2)
          (spelled-append (spell.fluents t.fluents) _ (fluents t.fluents f.3)
          (spelled-append (spell.init t.init) _ (init t.init f.4)
          (spelled-append (flat_map spell.schema t.schemas) _ (spelled-flat_map IsFormedSchema spell.schema schema t.schemas f.5)
          (refl, sentence t.goal f.6)))))),
    ),
  ),
)

-- the tokens of a task
pub spellings-task : (t : TaskTree) → IsFormedTask t → AreSpellings (texts (spell.task t))
spellings-task t f = spelled-texts (spell.task t) (task t f)
