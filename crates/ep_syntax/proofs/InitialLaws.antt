-- The laws of the readers of the initial state.
use Rattle.std.proofs.Common.{◌≡◌, ℕ, true, false, IfSome, List, [], ◌∷◌, ◌++◌, Option, None, refl, sym, ◌∙◌, append_assoc}
use Rattle.std.specs.List.{AllByRecursion, flat_map}
use Rattle.std.proofs.lemmas.Bool.{false≢true}
use Rattle.ep_tree.specs.declared.terminal.Terminal.{Terminal}
use Rattle.ep_tree.specs.declared.terminal.Terminal.TheVariants as the
use Rattle.ep_tree.specs.declared.tree.Name.{Name}
use Rattle.ep_tree.specs.declared.tree.AtomTree.{AtomTree}
use Rattle.ep_tree.specs.declared.tree.PairTree.{PairTree}
use Rattle.ep_tree.specs.declared.tree.PairsTree.{PairsTree}
use Rattle.ep_tree.specs.declared.tree.PairsTree.TheVariants as pairs_tree
use Rattle.ep_tree.specs.declared.tree.GroupTree.TheVariants as group_tree
use Rattle.ep_tree.specs.declared.tree.LinkTree.{LinkTree}
use Rattle.ep_tree.specs.declared.tree.WorldTree.{WorldTree}
use Rattle.ep_tree.specs.declared.tree.SeesTree.{SeesTree}
use Rattle.ep_tree.specs.declared.tree.InitTree.{InitTree}
use Rattle.ep_tree.specs.declared.tree.InitTree.TheVariants.{Explicit, Lawful}
use Rattle.ep_tree.specs.declared.tree.FormulaTree.{FormulaTree}
use Rattle.ep_tree.specs.declared.tree.FormulaTree.TheVariants as tree
use Rattle.ep_tree.specs.Bare.{bare_pair, bare_pairs, bare_link, bare_world, bare_facts, bare_sees, bare_init}
use Rattle.ep_tree.specs.Formed.{IsFormedAtom, IsFormedPair, IsFormedPairs, IsFormedLink, IsFormedWorld, IsFormedSees, IsFormedInit}
use Rattle.ep_tree.specs.Grammar.{Grammar}
use Rattle.ep_tree.specs.Marks.{texts}
use Rattle.ep_reader.specs.Reading.{Token, begins, each, any_listed, braced}
use Rattle.ep_tree.specs.Terminals.{is}
use Rattle.ep_tree.specs.Spelling as spell
use Rattle.ep_tree.specs.Terminals.{text_of, is_name}
use Rattle.ep_syntax.specs.FormulaReading.{outer_formula}
use Rattle.ep_syntax.specs.TaskReading.{statement, atoms, pairs, link, designated, world, explicit_of, explicit, facts, sees, lawful_of, lawful, init_items, init}
use Rattle.ep_syntax.specs.TaskReading as reading
use Rattle.ep_syntax.proofs.AtomLaws.{NotOpen, atoms_one, any_atoms_part, group_part}
use Rattle.ep_syntax.proofs.FormulaLaws.{formula_part}
use Rattle.ep_syntax.proofs.Layers.{formulas_at, some_formula}
use Rattle.ep_reader.proofs.CallerLemmas.{Agree, Follow, both, Made, Agree-heads, each_of, each_part, some_each_of, some_each_part, behind_of, keyed_part, listed_of, any_listed_of, any_listed_part, Reads, Part, Any, Next, pair, then, made_by, made_all, either, fewer, next_lacks, plain, plain_reads, plain_part, names_one, name_part, some_name, within_of, within_part, names_part, braced_of, braced_part, IsOptional, optional_part}

-- ---- a formula before a terminal

abbrev pub outer_one : Grammar FormulaTree
outer_one = formulas_at 1

pub outer_part : Part outer_one NotOpen outer_formula
outer_part = formula_part 64 1 refl

pub before : (right : Terminal) → is the.OpenParen (text_of right) ≡ false → Part outer_one (Next right) outer_formula
before right e = record { reads = λ n ts. fewer (next_lacks right (is the.OpenParen) e) (outer_part.reads n ts); value = tree.True 0; formed = some_formula }

pub statement_part : {F : Follow} (left : Terminal) → Part (within_of left outer_one the.Semicolon) F (statement left)
statement_part left = within_part left the.Semicolon (before the.Semicolon refl)

-- '{' [ atoms ] '}'
abbrev pub atoms_of : Grammar (List AtomTree)
atoms_of = braced_of (any_listed_of the.Comma atoms_one)

pub atoms_part : {F : Follow} → Part atoms_of F atoms
atoms_part = braced_part any_atoms_part

-- ---- pairs and links

abbrev pairs_one : Grammar PairTree
pairs_one = record { marks = spell.pair; IsFormed = IsFormedPair; bare = bare_pair }

pair_part : Part pairs_one Any reading.pair
unfolding reading.pair
pair_part = record {
  reads = λ n ts. made_all (record { marks = λ _ _. refl; formed = λ _ f. (f.0.0, f.1); bare = λ _. refl })
      (λ b f. record { from = ((b.from, 0), b.to); formed = ((f.0, tt), f.1); is = refl })
      (then (then (name_part.reads n ts) (plain_part the.Arrow)) name_part);
  value = record { from = some_name; to = some_name };
  formed = (refl, refl);
}

abbrev listed_pairs : Grammar (List PairTree)
listed_pairs = braced_of (any_listed_of the.Comma pairs_one)

listed_pairs_part : Part listed_pairs Any (braced (any_listed is_name the.Comma reading.pair))
listed_pairs_part = braced_part (any_listed_part the.Comma pairs_one Any (Next the.CloseBrace) reading.pair pair_part (λ _. tt) (λ _ _. tt) (next_lacks the.CloseBrace (is the.Comma) refl)
    is_name (λ a more f. f.0) (next_lacks the.CloseBrace is_name refl))

abbrev pairs_of : Grammar PairsTree
pairs_of = record { marks = spell.pairs; IsFormed = IsFormedPairs; bare = bare_pairs }

all_back : (ts : List Token) → begins the.All ts ≡ true → (b : PairsTree) (more : List Token) → IsFormedPairs b → Any more → Agree 1 ts (texts (spell.pairs b) ++ more) → Made (plain the.All) (λ _. pairs_tree.All) b
all_back ts e pairs_tree.All more f s a = record { from = 0; formed = tt; is = refl }
all_back ts e pairs_tree.Same more f s a = absurd (false≢true (sym (Agree-heads (is the.All) ts _ a) ∙ e))
all_back ts e (pairs_tree.Listed ps) more f s a = absurd (false≢true (sym (Agree-heads (is the.All) ts _ a) ∙ e))

same_back : (ts : List Token) → begins the.Same ts ≡ true → (b : PairsTree) (more : List Token) → IsFormedPairs b → Any more → Agree 1 ts (texts (spell.pairs b) ++ more) → Made (plain the.Same) (λ _. pairs_tree.Same) b
same_back ts e pairs_tree.Same more f s a = record { from = 0; formed = tt; is = refl }
same_back ts e pairs_tree.All more f s a = absurd (false≢true (sym (Agree-heads (is the.Same) ts _ a) ∙ e))
same_back ts e (pairs_tree.Listed ps) more f s a = absurd (false≢true (sym (Agree-heads (is the.Same) ts _ a) ∙ e))

listed_back : (ts : List Token) → begins the.All ts ≡ false → begins the.Same ts ≡ false → (b : PairsTree) (more : List Token) → IsFormedPairs b → Any more → Agree 1 ts (texts (spell.pairs b) ++ more)
    → Made listed_pairs pairs_tree.Listed b
listed_back ts d e (pairs_tree.Listed ps) more f s a = record { from = ps; formed = f; is = refl }
listed_back ts d e pairs_tree.All more f s a = absurd (false≢true (sym d ∙ Agree-heads (is the.All) ts _ a))
listed_back ts d e pairs_tree.Same more f s a = absurd (false≢true (sym e ∙ Agree-heads (is the.Same) ts _ a))

pairs_part : Part pairs_of Any pairs
unfolding pairs
pairs_part = record {
  reads = λ n ts. either (begins the.All ts)
      (λ e. made_by (record { marks = λ _ _. refl; formed = λ _ _. tt; bare = λ _. refl }) (plain_reads the.All n ts) (all_back ts e))
      (λ d. either (begins the.Same ts)
      (λ e. made_by (record { marks = λ _ _. refl; formed = λ _ _. tt; bare = λ _. refl }) (plain_reads the.Same n ts) (same_back ts e))
      (λ e. made_by (record { marks = λ _ _. refl; formed = λ _ f. f; bare = λ _. refl }) (listed_pairs_part.reads n ts) (listed_back ts d e)));
  value = pairs_tree.All;
  formed = tt;
}

abbrev links_one : Grammar LinkTree
links_one = record { marks = spell.link; IsFormed = IsFormedLink; bare = bare_link }

link_part : Part links_one Any link
unfolding link
link_part = record {
  reads = λ n ts. made_all (record { marks = λ a _. simp append_assoc; formed = λ _ f. (f.0.0.1, f.0.1); bare = λ _. refl })
      (λ b f. record { from = (((0, b.group), b.pairs), 0); formed = (((tt, f.0), f.1), tt); is = refl })
      (then (then (then (plain_reads the.Links n ts) group_part) pairs_part) (plain_part the.Semicolon));
  value = record { group = group_tree.All 0; pairs = pairs_tree.All };
  formed = (refl, tt);
}

abbrev pub links_of : Grammar (List LinkTree)
links_of = each_of links_one

pub links_part : Part links_of (Next the.CloseBrace) (each (is the.Links) link)
links_part = each_part (is the.Links) links_one Any (Next the.CloseBrace) link link_part (λ _ _ _. refl) (λ _ _ _. tt) (λ _ _. tt) (next_lacks the.CloseBrace (is the.Links) refl)

-- ---- the designated names

abbrev pub designated_of : Grammar (List Name)
designated_of = behind_of the.Designated (braced_of (listed_of the.Comma names_one))

pub designated_part : {F : Follow} → Part designated_of F designated
unfolding designated
designated_part = keyed_part the.Designated (braced_part (names_part the.CloseBrace refl))

-- ---- the explicit form

abbrev worlds_one : Grammar WorldTree
worlds_one = record { marks = spell.world; IsFormed = IsFormedWorld; bare = bare_world }

world_part : Part worlds_one Any world
unfolding world
world_part = record {
  reads = λ n ts. made_all (record { marks = λ _ _. refl; formed = λ _ f. (f.0.1, f.1); bare = λ _. refl })
      (λ b f. record { from = ((0, b.name), b.atoms); formed = ((tt, f.0), f.1); is = refl })
      (then (then (plain_reads the.World n ts) name_part) atoms_part);
  value = record { name = some_name; atoms = [] };
  formed = (refl, tt);
}

abbrev inits_of : Grammar InitTree
inits_of = record { marks = spell.init_items; IsFormed = IsFormedInit; bare = bare_init }

abbrev explicit_shape : Grammar ((List WorldTree × List Name) × List LinkTree)
explicit_shape = both (both (some_each_of worlds_one) designated_of) links_of

explicit_back : (ts : List Token) → begins the.Vary ts ≡ false → (b : InitTree) (more : List Token) → IsFormedInit b → Next the.CloseBrace more → Agree 1 ts (texts (spell.init_items b) ++ more)
    → Made explicit_shape explicit_of b
explicit_back ts e (Explicit ws ns ls) more f s a = record { from = ((ws, ns), ls); formed = ((f.0, f.1), f.2); is = refl }
explicit_back ts e (Lawful vary fs law ss d) more f s a = absurd (false≢true (sym e ∙ Agree-heads (is the.Vary) ts _ a))

explicit_reads : (n : ℕ) (ts : List Token) → begins the.Vary ts ≡ false → Reads inits_of (Next the.CloseBrace) n ts (explicit n ts)
unfolding explicit
explicit_reads n ts e =
    let worlds = some_each_part (is the.World) worlds_one Any (Next the.Designated) world world_part (λ _ _ _. refl) (λ _ _ _. tt) (λ _ _. tt) (next_lacks the.Designated (is the.World) refl) in
    made_by (record { marks = λ a _. sym (append_assoc (flat_map spell.world a.0.0) (spell.designated a.0.1) (flat_map spell.link a.1)); formed = λ _ f. (f.0.0, f.0.1, f.1); bare = λ _. refl })
    (then (pair (worlds.reads n ts) designated_part (λ _ _ _ _. refl)) links_part) (explicit_back ts e)

-- ---- the lawful form

abbrev facts_of : Grammar (Option (List AtomTree))
facts_of = record { marks = spell.facts; IsFormed = λ o. IfSome o (AllByRecursion IsFormedAtom); bare = bare_facts }

facts_optional : IsOptional the.Facts atoms_of facts_of
facts_optional = record { nothing = refl; something = λ _. refl; none_formed = tt; some_formed = λ _ f. f; formed_some = λ _ f. f; none_bare = refl; some_bare = λ _. refl }

facts_part : Part facts_of (Next the.Law) facts
unfolding facts
facts_part = optional_part the.Facts atoms_of facts_of facts_optional (Next the.Law) atoms atoms_part (next_lacks the.Law (is the.Facts) refl)

abbrev sees_one : Grammar SeesTree
sees_one = record { marks = spell.sees; IsFormed = IsFormedSees; bare = bare_sees }

sees_part : Part sees_one Any sees
unfolding sees
sees_part = record {
  reads = λ n ts. made_all (record { marks = λ _ _. refl; formed = λ _ f. (f.0.1, f.1); bare = λ _. refl })
      (λ b f. record { from = ((0, b.group), b.atoms); formed = ((tt, f.0), f.1); is = refl })
      (then (then (plain_reads the.Sees n ts) group_part) atoms_part);
  value = record { group = group_tree.All 0; atoms = [] };
  formed = (refl, tt);
}

all_sees_part : Part (each_of sees_one) (Next the.Designated) (each (is the.Sees) sees)
all_sees_part = each_part (is the.Sees) sees_one Any (Next the.Designated) sees sees_part (λ _ _ _. refl) (λ _ _ _. tt) (λ _ _. tt) (next_lacks the.Designated (is the.Sees) refl)

abbrev lawful_shape : Grammar ((((List AtomTree × Option (List AtomTree)) × FormulaTree) × List SeesTree) × FormulaTree)
lawful_shape = both (both (both (both (behind_of the.Vary atoms_of) facts_of) (within_of the.Law outer_one the.Semicolon)) (each_of sees_one)) (within_of the.Designated outer_one the.Semicolon)

lawful_back : (ts : List Token) → begins the.Vary ts ≡ true → (b : InitTree) (more : List Token) → IsFormedInit b → Next the.CloseBrace more → Agree 1 ts (texts (spell.init_items b) ++ more)
    → Made lawful_shape lawful_of b
lawful_back ts e (Lawful vary fs law ss d) more f s a = record { from = ((((vary, fs), law), ss), d); formed = ((((f.0, f.1), f.2), f.3), f.4); is = refl }
lawful_back ts e (Explicit [] ns ls) more f s a = absurd f.0
lawful_back ts e (Explicit (w ∷ ws) ns ls) more f s a = absurd (false≢true (sym (Agree-heads (is the.Vary) ts _ a) ∙ e))

lawful_reads : (n : ℕ) (ts : List Token) → begins the.Vary ts ≡ true → Reads inits_of (Next the.CloseBrace) n ts (lawful n ts)
unfolding lawful
lawful_reads n ts e = made_by
    (record { marks = λ a _. simp append_assoc; formed = λ _ f. (f.0.0.0.0, f.0.0.0.1, f.0.0.1, f.0.1, f.1); bare = λ _. refl })
    (pair (then (pair (then ((keyed_part the.Vary atoms_part).reads n ts) facts_part) (statement_part the.Law) (λ _ _ _ _. refl)) all_sees_part) (statement_part the.Designated) (λ _ _ _ _. refl))
    (lawful_back ts e)

-- ---- the initial state

some_init : InitTree
some_init = Lawful [] None (tree.True 0) [] (tree.True 0)

init_items_part : Part inits_of (Next the.CloseBrace) init_items
unfolding init_items some_init
init_items_part = record { reads = λ n ts. either (begins the.Vary ts) (lawful_reads n ts) (explicit_reads n ts); value = some_init; formed = (tt, tt, some_formula, tt, some_formula) }

abbrev pub init_of : Grammar InitTree
init_of = behind_of the.Init (braced_of inits_of)

pub init_part : {F : Follow} → Part init_of F init
unfolding init
init_part = keyed_part the.Init (braced_part init_items_part)
