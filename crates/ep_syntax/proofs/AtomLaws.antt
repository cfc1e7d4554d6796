-- The laws of the readers of atoms, groups and parameters.
use Rattle.std.proofs.Common.{◌≡◌, ℕ, ◌≤◌, true, false, IfSome, List, [], ◌∷◌, ◌++◌, Option, None, refl, sym, ◌∙◌, subst, arith}
use Rattle.std.specs.List.{AllByRecursion}
use Rattle.std.proofs.lemmas.Bool.{false≢true}
use Rattle.ep_tree.specs.declared.terminal.Terminal.TheVariants as the
use Rattle.ep_tree.specs.declared.tree.Name.{Name}
use Rattle.ep_tree.specs.declared.tree.AtomTree.{AtomTree}
use Rattle.ep_tree.specs.declared.tree.GroupTree.{GroupTree}
use Rattle.ep_tree.specs.declared.tree.GroupTree.TheVariants as group_tree
use Rattle.ep_tree.specs.declared.tree.ParamTree.{ParamTree}
use Rattle.ep_tree.specs.Bare.{bare_names, bare_atom, bare_group, bare_param}
use Rattle.ep_tree.specs.Formed.{OneOrMore, formed_name, IsFormedName, IsFormedAtom, IsFormedGroup, IsFormedParam}
use Rattle.ep_syntax.specs.FormulaReading.{arguments, atom, group, members_of, param, params}
use Rattle.ep_tree.specs.Grammar.{Grammar}
use Rattle.ep_tree.specs.Marks.{texts}
use Rattle.ep_reader.specs.Reading.{Token, Reader, begins, name, listed, any_listed, within}
use Rattle.ep_tree.specs.Terminals.{is}
use Rattle.ep_tree.specs.Spelling as spell
use Rattle.ep_tree.specs.Terminals.{is_name}
use Rattle.ep_reader.proofs.CallerLemmas.{Agree, Follow, IsSame, both, Made, Reads, Part, Any, Lacks, Next, pair, then, made_by, made_all, either, less_part, next_lacks, plain, plain_part, placed, placed_reads, title_part, names_one, name_part, some_name, Agree-heads, StartsWith, listed_of, listed_part, any_listed_of, any_listed_part, both_true, and_true, any_names_part, each-list_all, list_all-each, made-id, names_part, within_of, within_reads}

-- ---- names in parentheses, or nothing

abbrev pub arguments_of : Grammar (List Name)
arguments_of = record { marks = spell.arguments; IsFormed = AllByRecursion IsFormedName; bare = bare_names }

abbrev pub NotOpen : Follow
NotOpen = Lacks (is the.OpenParen)

arguments_none : (ts : List Token) → begins the.OpenParen ts ≡ false → (b : List Name) (more : List Token) → Agree 1 ts (texts (spell.arguments b) ++ more) → IsSame arguments_of [] b
arguments_none ts e [] more a = record { bare = refl; outlines = refl }
arguments_none ts e (x ∷ xs) more a = absurd (false≢true (sym e ∙ Agree-heads (is the.OpenParen) ts _ a))

arguments_back : (ts : List Token) → begins the.OpenParen ts ≡ true → (b : List Name) (more : List Token) → AllByRecursion IsFormedName b → NotOpen more → Agree 1 ts (texts (spell.arguments b) ++ more)
    → Made (within_of the.OpenParen (listed_of the.Comma names_one) the.CloseParen) (λ ns. ns) b
arguments_back ts e [] more f s a = absurd (false≢true (sym s ∙ sym (Agree-heads (is the.OpenParen) ts more a) ∙ e))
arguments_back ts e (x ∷ xs) more f s a = record { from = x ∷ xs; formed = f; is = refl }

each_of_some : {A : Type 0} (P : A → Type 0) (xs : List A) → OneOrMore P xs → AllByRecursion P xs
each_of_some P [] f = absurd f
each_of_some P (x ∷ xs) f = f

arguments_marks : (ns : List Name) → OneOrMore IsFormedName ns → spell.arguments ns ≡ (within_of the.OpenParen (listed_of the.Comma names_one) the.CloseParen).marks ns
arguments_marks [] f = absurd f
arguments_marks (x ∷ xs) f = refl

pub arguments_part : Part arguments_of NotOpen arguments
unfolding arguments
arguments_part = record {
  reads = λ n ts. either (begins the.OpenParen ts)
      (λ e.
      subst (λ r. Reads arguments_of NotOpen n ts r) (made-id (within the.OpenParen (listed the.Comma name) the.CloseParen n ts))
      (made_by (record { marks = arguments_marks; formed = each_of_some IsFormedName; bare = λ _. refl })
      (within_reads the.OpenParen the.CloseParen (names_part the.CloseParen refl) n ts) (arguments_back ts e)))
      (λ e. record { holds = record { text = refl; at = omega arith; placed = tt; formed = tt; shallow = tt; only = λ b more f s a. arguments_none ts e b more a } });
  value = [];
  formed = tt;
}

-- ---- atoms

abbrev pub atoms_at : Option ℕ → Grammar AtomTree
atoms_at nesting = record { marks = spell.atom nesting; IsFormed = IsFormedAtom; bare = bare_atom }

pub atom_reads : (nesting : Option ℕ) → IfSome nesting (λ k. k ≤ 64) → (n : ℕ) (ts : List Token) → Reads (atoms_at nesting) NotOpen n ts (atom n ts)
unfolding atom
atom_reads nesting l n ts = made_all
    (record { marks = λ _ _. refl; formed = λ a f. and_true _ _ f.0 (list_all-each formed_name a.1 f.1); bare = λ _. refl })
    (λ b f. record { from = (b.name, b.args); formed = ((both_true _ _ f).0, each-list_all formed_name b.args (both_true _ _ f).1); is = refl })
    (then ((title_part nesting l).reads n ts) arguments_part)

abbrev pub some_atom : AtomTree
some_atom = record { name = some_name; args = [] }

abbrev pub atoms_one : Grammar AtomTree
atoms_one = atoms_at None

pub atom_part : Part atoms_one NotOpen atom
atom_part = record { reads = atom_reads None tt; value = some_atom; formed = refl }

pub atoms_start : StartsWith is_name atoms_one
atoms_start a more f = (both_true _ _ f).0

-- [ atoms ]
abbrev pub any_atoms : Reader (List AtomTree)
any_atoms = any_listed is_name the.Comma atom

pub any_atoms_part : Part (any_listed_of the.Comma atoms_one) (Next the.CloseBrace) any_atoms
any_atoms_part = any_listed_part the.Comma atoms_one NotOpen (Next the.CloseBrace) atom atom_part (λ _. refl) (next_lacks the.CloseBrace (is the.OpenParen) refl) (next_lacks the.CloseBrace (is the.Comma) refl)
    is_name atoms_start (next_lacks the.CloseBrace is_name refl)

-- ---- groups

abbrev pub groups_one : Grammar GroupTree
groups_one = record { marks = spell.group; IsFormed = IsFormedGroup; bare = bare_group }

group_all_back : (ts : List Token) → begins the.All ts ≡ true → (b : GroupTree) (more : List Token) → IsFormedGroup b → Any more → Agree 1 ts (texts (spell.group b) ++ more) → Made (placed the.All) group_tree.All b
group_all_back ts e (group_tree.All token) more f s a = record { from = token; formed = tt; is = refl }
group_all_back ts e (group_tree.Members token names) more f s a = absurd (false≢true (sym (Agree-heads (is the.All) ts _ a) ∙ e))

members_shape : Grammar ((ℕ × List Name) × ℕ)
members_shape = both (both (placed the.OpenBrace) (any_listed_of the.Comma names_one)) (plain the.CloseBrace)

group_members_back : (ts : List Token) → begins the.All ts ≡ false → (b : GroupTree) (more : List Token) → IsFormedGroup b → Any more → Agree 1 ts (texts (spell.group b) ++ more) → Made members_shape members_of b
unfolding members_shape
group_members_back ts e (group_tree.All token) more f s a = absurd (false≢true (sym e ∙ Agree-heads (is the.All) ts _ a))
group_members_back ts e (group_tree.Members token names) more f s a = record { from = ((token, names), 0); formed = ((tt, each-list_all formed_name names f), tt); is = refl }

pub group_reads : (n : ℕ) (ts : List Token) → Reads groups_one Any n ts (group n ts)
unfolding group members_shape
group_reads n ts = either (begins the.All ts)
    (λ e. made_by (record { marks = λ _ _. refl; formed = λ _ _. refl; bare = λ _. refl }) (placed_reads the.All n ts) (group_all_back ts e))
    (λ e. made_by (record { marks = λ _ _. refl; formed = λ a f. list_all-each formed_name a.0.1 f.0.1; bare = λ _. refl })
    (pair (then (placed_reads the.OpenBrace n ts) (any_names_part the.CloseBrace refl refl)) (plain_part the.CloseBrace) (λ _ _ _ _. refl)) (group_members_back ts e))

pub group_part : {F : Follow} → Part groups_one F group
group_part = less_part (record { reads = group_reads; value = group_tree.All 0; formed = refl })

-- ---- parameters

abbrev pub params_one : Grammar ParamTree
params_one = record { marks = spell.param; IsFormed = IsFormedParam; bare = bare_param }

abbrev pub some_param : ParamTree
some_param = record { name = some_name; kind = some_name }

pub param_part : Part params_one Any param
unfolding param
param_part = record {
  reads = λ n ts. made_all (record { marks = λ _ _. refl; formed = λ a f. and_true _ _ f.0.0 f.1; bare = λ _. refl })
      (λ b f. record { from = ((b.name, 0), b.kind); formed = (((both_true _ _ f).0, tt), (both_true _ _ f).1); is = refl })
      (then (then (name_part.reads n ts) (plain_part the.Colon)) name_part);
  value = some_param;
  formed = refl;
}

abbrev pub params_of : Grammar (List ParamTree)
params_of = within_of the.OpenParen (listed_of the.Comma params_one) the.CloseParen

pub params_reads : {F : Follow} (n : ℕ) (ts : List Token) → Reads params_of F n ts (params n ts)
unfolding params
params_reads = within_reads the.OpenParen the.CloseParen (listed_part the.Comma params_one Any (Next the.CloseParen) param param_part (λ _. tt) (λ _ _. tt) (next_lacks the.CloseParen (is the.Comma) refl))

pub params_part : {F : Follow} → Part params_of F params
params_part = record { reads = params_reads; value = some_param ∷ []; formed = (refl, tt) }
