-- How atoms, groups, parameters and formulas are read.
use Rattle.std.specs.Prelude.{ℕ, zero, suc, ◌+◌, ◌==◌, Bool, ◌&&◌, ◌||◌, if◌then◌else◌, List, [], ◌∷◌, drop, find, is_some, Option, Some, None, Ok, Err}
use Rattle.ep_tree.specs.declared.limits.TheConstants.{MOST_NESTING}
use Rattle.ep_tree.specs.declared.terminal.Terminal.{Terminal}
use Rattle.ep_tree.specs.declared.terminal.Terminal.TheVariants as the
use Rattle.ep_tree.specs.declared.tree.Name.{Name}
use Rattle.ep_tree.specs.declared.tree.AtomTree.{AtomTree}
use Rattle.ep_tree.specs.declared.tree.GroupTree.{GroupTree}
use Rattle.ep_tree.specs.declared.tree.GroupTree.TheVariants as group_tree
use Rattle.ep_tree.specs.declared.tree.ParamTree.{ParamTree}
use Rattle.ep_tree.specs.declared.tree.FormulaTree.{FormulaTree}
use Rattle.ep_tree.specs.declared.tree.FormulaTree.TheVariants as tree
use Rattle.ep_reader.specs.Reading.{Token, Syntax, TooDeep, Reader, seq, made, heads, begins, key, name, name_begins, each, front, behind_key, listed, any_listed, within}
use Rattle.ep_tree.specs.Terminals.{is, is_name}

-- ---- atoms, groups, parameters

unfoldable pub arguments : Reader (List Name)
arguments n ts =
    if begins the.OpenParen ts then within the.OpenParen (listed the.Comma name) the.CloseParen n ts else Ok ([], n, ts)

abbrev pub atom_of : Name × List Name → AtomTree
atom_of p = record { name = p.0; args = p.1 }

unfoldable pub atom : Reader AtomTree
atom n ts = made atom_of (seq (name n ts) arguments)

abbrev pub members_of : (ℕ × List Name) × ℕ → GroupTree
members_of p = group_tree.Members p.0.0 p.0.1

unfoldable pub group : Reader GroupTree
group n ts =
    if begins the.All ts then made group_tree.All (key the.All n ts)
    else made members_of (seq (seq (key the.OpenBrace n ts) (any_listed is_name the.Comma name)) (key the.CloseBrace))

abbrev pub param_of : (Name × ℕ) × Name → ParamTree
param_of p = record { name = p.0.0; kind = p.1 }

unfoldable pub param : Reader ParamTree
param n ts = made param_of (seq (seq (name n ts) (key the.Colon)) name)

-- '(' params ')'
unfoldable pub params : Reader (List ParamTree)
params n ts = within the.OpenParen (listed the.Comma param) the.CloseParen n ts

-- ---- what stands behind the first formula in parentheses

pub data Tail : Type 0 where
  closed : Tail
  anded : List FormulaTree → Tail
  ored : List FormulaTree → Tail

-- t item { t item }
abbrev pub some_behind : Terminal → Reader FormulaTree → Reader (List FormulaTree)
some_behind t item n ts = made front (seq (behind_key t item n ts) (each (is t) (behind_key t item)))

abbrev pub joined : Terminal → Reader FormulaTree → Reader (List FormulaTree × ℕ)
joined t item n ts = seq (some_behind t item n ts) (key the.CloseParen)

unfoldable pub tail : Reader FormulaTree → Reader Tail
tail item n ts =
    if begins the.And ts then made (λ p. anded p.0) (joined the.And item n ts)
    else (if begins the.Or ts then made (λ p. ored p.0) (joined the.Or item n ts) else made (λ p. closed) (key the.CloseParen n ts))

abbrev pub with_tail : ℕ → FormulaTree → Tail → FormulaTree
with_tail token first closed = tree.Paren token first
with_tail token first (anded parts) = tree.And token (first ∷ parts)
with_tail token first (ored parts) = tree.Or token (first ∷ parts)

abbrev pub inside_of : (ℕ × FormulaTree) × Tail → FormulaTree
inside_of p = with_tail p.0.0 p.0.1 p.1

unfoldable pub inside : Reader FormulaTree → Reader FormulaTree
inside item n ts = made inside_of (seq (seq (key the.OpenParen n ts) item) (tail item))

-- ---- what begins with a parenthesis

abbrev pub equal_of : (((ℕ × Name) × ℕ) × Name) × ℕ → FormulaTree
equal_of p = tree.Equal p.0.0.0.0 p.0.0.0.1 p.0.1

unfoldable pub equality : Reader FormulaTree
equality n ts = made equal_of (seq (seq (seq (seq (key the.OpenParen n ts) name) (key the.Equals)) name) (key the.CloseParen))

abbrev pub is_equality : List Token → Bool
is_equality ts = name_begins (drop 1 ts) && begins the.Equals (drop 2 ts)

-- may stand behind a name that is a formula in parentheses, or begins one
abbrev pub follows : Token → Bool
follows t = is the.OpenParen t || is the.CloseParen t || is the.And t || is the.Or t

-- A name behind a parenthesis, where no nesting is left: it is too deep unless `=` may follow.
abbrev pub deep_name : Reader FormulaTree
deep_name n ts = if heads follows (drop 2 ts) then Err (TooDeep (n + 1)) else Err (Syntax (n + 2))

unfoldable pub opened : Bool → Reader FormulaTree → Reader FormulaTree
opened last item n ts =
    if is_equality ts then equality n ts else (if last && name_begins (drop 1 ts) then deep_name n ts else inside item n ts)

-- ---- formulas

abbrev pub not_of : ℕ × FormulaTree → FormulaTree
not_of p = tree.Not p.0 p.1

abbrev pub knows_of : (ℕ × Name) × FormulaTree → FormulaTree
knows_of p = tree.Knows p.0.0 p.0.1 p.1

abbrev pub common_of : (ℕ × GroupTree) × FormulaTree → FormulaTree
common_of p = tree.Common p.0.0 p.0.1 p.1

abbrev pub forall_of : (ℕ × List ParamTree) × FormulaTree → FormulaTree
forall_of p = tree.Forall p.0.0 p.0.1 p.1

abbrev pub exists_of : (ℕ × List ParamTree) × FormulaTree → FormulaTree
exists_of p = tree.Exists p.0.0 p.0.1 p.1

-- the terminals that begin a formula
abbrev pub starters : List Terminal
starters = the.True ∷ the.False ∷ the.Not ∷ the.Knows ∷ the.Common ∷ the.Forall ∷ the.Exists ∷ the.OpenParen ∷ []

abbrev pub starter_of : Token → Option Terminal
starter_of t = find (λ w. is w t) starters

abbrev pub starter : List Token → Option Terminal
starter [] = None
starter (t ∷ ts) = starter_of t

-- A formula that begins with this terminal, where `item` reads the formulas in it. In the last nesting, no
-- nesting is left for them.
abbrev pub by_terminal : Bool → Reader FormulaTree → Option Terminal → Reader FormulaTree
by_terminal last item (Some the.True) n ts = made tree.True (key the.True n ts)
by_terminal last item (Some the.False) n ts = made tree.False (key the.False n ts)
by_terminal last item (Some the.Not) n ts = made not_of (seq (key the.Not n ts) item)
by_terminal last item (Some the.Knows) n ts = made knows_of (seq (seq (key the.Knows n ts) name) item)
by_terminal last item (Some the.Common) n ts = made common_of (seq (seq (key the.Common n ts) group) item)
by_terminal last item (Some the.Forall) n ts = made forall_of (seq (seq (key the.Forall n ts) params) item)
by_terminal last item (Some the.Exists) n ts = made exists_of (seq (seq (key the.Exists n ts) params) item)
by_terminal last item (Some the.OpenParen) n ts = opened last item n ts
by_terminal last item _ n ts = Err (Syntax n)

unfoldable pub by_token : Bool → Reader FormulaTree → Reader FormulaTree
by_token last item n ts = if name_begins ts then made tree.Atom (atom n ts) else by_terminal last item (starter ts) n ts

-- a formula may begin with the token
abbrev pub starts_formula : Token → Bool
starts_formula t = is_name t || is_some (starter_of t)

-- where no nesting is left
abbrev pub too_deep : Reader FormulaTree
too_deep n ts = if heads starts_formula ts then Err (TooDeep n) else Err (Syntax n)

-- a formula with so many nestings left
unfoldable pub formula : ℕ → Reader FormulaTree
formula zero = too_deep
formula (suc depth) = by_token (depth == 0) (formula depth)

-- a formula that stands in no other
abbrev pub outer_formula : Reader FormulaTree
outer_formula = formula MOST_NESTING
