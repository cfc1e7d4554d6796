-- The tokens of atoms, groups, parameters and formulas.
use Rattle.std.proofs.Common.{◌≡◌, ℕ, suc, ◌+◌, List, [], ◌∷◌, ◌++◌, Option, Some, None, length, map, ap, sym, subst}
use Rattle.ep_types.specs.Atoms.{texts}
use Rattle.ep_types.specs.Names.{Text, names_of}
use Rattle.ep_types.specs.Places.{Scope, with_param, with_params, UsedName, NewParam, UsedObject, UsedFluent, Fact, Argument, Agent, Group, Knowledge, Uses, both, at, each}
use Rattle.ep_types.specs.Uses as uses
use Rattle.ep_types.proofs.TokenLemmas.{Follows, none, joined, before, skip, held_one, first, first_name, each_name}
use Rattle.ep_tree.specs.Marks.{Mark, fixed, opening, named}
use Rattle.ep_tree.specs.Spelling as spell
use Rattle.ep_tree.specs.Terminals.{text_of}
use Rattle.ep_tree.specs.declared.terminal.Terminal.{Terminal}
use Rattle.ep_tree.specs.declared.terminal.Terminal.TheVariants as the
use Rattle.ep_tree.specs.declared.tree.Name.{Name}
use Rattle.ep_tree.specs.declared.tree.AtomTree.{AtomTree}
use Rattle.ep_tree.specs.declared.tree.GroupTree.{GroupTree}
use Rattle.ep_tree.specs.declared.tree.GroupTree.TheVariants.{All, Members}
use Rattle.ep_tree.specs.declared.tree.ParamTree.{ParamTree}
use Rattle.ep_tree.specs.declared.tree.FormulaTree.{FormulaTree, roll-FormulaTree}
use Rattle.ep_tree.specs.declared.tree.FormulaTree.TheOpen.{FormulaTree-F}
use Rattle.ep_tree.specs.declared.tree.FormulaTree.TheFolds.{map-FormulaTree, fold-roll-FormulaTree, ind-FormulaTree}

-- ---- atoms

arguments_behind : (xs : List Name) (kinds : List Text) (s : Scope) → Follows (uses.argument_uses xs kinds s) (spell.behind the.Comma (map (λ n. named n ∷ []) xs))
arguments_behind [] kinds s = none []
arguments_behind (x ∷ xs) [] s = none (spell.behind the.Comma (map (λ n. named n ∷ []) (x ∷ xs)))
arguments_behind (x ∷ xs) (kind ∷ kinds) s =
    let rest = spell.behind the.Comma (map (λ n. named n ∷ []) xs) in
    skip (uses.argument_uses (x ∷ xs) (kind ∷ kinds) s) (fixed the.Comma) (named x ∷ rest)
    (first_name x (Argument x.text kind s) (uses.argument_uses xs kinds s) rest (arguments_behind xs kinds s))

arguments_between : (xs : List Name) (kinds : List Text) (s : Scope) → Follows (uses.argument_uses xs kinds s) (spell.names xs)
arguments_between [] kinds s = none []
arguments_between (x ∷ xs) [] s = none (spell.names (x ∷ xs))
arguments_between (x ∷ xs) (kind ∷ kinds) s =
    first_name x (Argument x.text kind s) (uses.argument_uses xs kinds s) (spell.behind the.Comma (map (λ n. named n ∷ []) xs)) (arguments_behind xs kinds s)

arguments : (xs : List Name) (kinds : List Text) (s : Scope) → Follows (uses.argument_uses xs kinds s) (spell.arguments xs)
arguments [] kinds s = none []
arguments (x ∷ xs) kinds s =
    let us = uses.argument_uses (x ∷ xs) kinds s in
    skip us (fixed the.OpenParen) (spell.names (x ∷ xs) ++ fixed the.CloseParen ∷ []) (before us (spell.names (x ∷ xs)) (fixed the.CloseParen ∷ []) (arguments_between (x ∷ xs) kinds s))

pub atom : (nesting : Option ℕ) (a : AtomTree) (s : Scope) → Follows (uses.atom_uses a s) (spell.atom nesting a)
atom nesting a s =
    first a.name.token (UsedFluent a.name.text (length a.args) s) a.name.text nesting
    (uses.argument_uses a.args (uses.kinds_of a.name.text s) s) (spell.arguments a.args) (arguments a.args (uses.kinds_of a.name.text s) s)

pub fact : (varied : List (List Text)) (a : AtomTree) (s : Scope) → Follows (uses.fact_uses varied a s) (spell.atom None a)
fact varied a s =
    first a.name.token (Fact a.name.text (texts a.args) varied s) a.name.text None
    (uses.argument_uses a.args (uses.kinds_of a.name.text s) s) (spell.arguments a.args) (arguments a.args (uses.kinds_of a.name.text s) s)

-- ---- groups and parameters

pub group : (g : GroupTree) (s : Scope) → Follows (uses.group_uses g s) (spell.group g)
group (All token) s = none (spell.group (All token))
group (Members token xs) s =
    first token (Group (length xs)) (text_of the.OpenBrace) None (uses.agent_uses xs s) (spell.names xs ++ fixed the.CloseBrace ∷ [])
    (before (uses.agent_uses xs s) (spell.names xs) (fixed the.CloseBrace ∷ []) (each_name (λ x. Agent x.text s) xs))

-- a parameter, and those behind it
param_first : (n : ℕ) (p : ParamTree) (ps : List ParamTree) (s : Scope) (ms : List Mark) → Follows (uses.param_uses (n + 1) ps (with_param s p)) ms →
    Follows (uses.param_uses n (p ∷ ps) s) (named p.name ∷ fixed the.Colon ∷ named p.kind ∷ ms)
param_first n p ps s ms f =
    let kind = at p.kind.token (UsedName p.kind.text (names_of s.names.types)) in
    let rest = uses.param_uses (n + 1) ps (with_param s p) in
    first_name p.name (NewParam n p.name.text s) (both kind rest) (fixed the.Colon ∷ named p.kind ∷ ms)
    (skip (both kind rest) (fixed the.Colon) (named p.kind ∷ ms) (first_name p.kind (UsedName p.kind.text (names_of s.names.types)) rest ms f))

params_behind : (n : ℕ) (ps : List ParamTree) (s : Scope) → Follows (uses.param_uses n ps s) (spell.behind the.Comma (map spell.param ps))
params_behind n [] s = none []
params_behind n (p ∷ ps) s =
    let rest = spell.behind the.Comma (map spell.param ps) in
    skip (uses.param_uses n (p ∷ ps) s) (fixed the.Comma) (spell.param p ++ rest) (param_first n p ps s rest (params_behind (n + 1) ps (with_param s p)))

pub params : (n : ℕ) (ps : List ParamTree) (s : Scope) → Follows (uses.param_uses n ps s) (spell.params ps)
params n [] s = none []
params n (p ∷ ps) s = param_first n p ps s (spell.behind the.Comma (map spell.param ps)) (params_behind (n + 1) ps (with_param s p))

-- ---- formulas

uses-roll : (x : FormulaTree-F FormulaTree) → uses.formula_uses (roll-FormulaTree x) ≡ uses.production (map-FormulaTree FormulaTree (Scope → Uses) uses.formula_uses x)
uses-roll x = fold-roll-FormulaTree (Scope → Uses) uses.production x

spelled-roll : (x : FormulaTree-F FormulaTree) → spell.formula_at (roll-FormulaTree x) ≡ spell.production (map-FormulaTree FormulaTree (ℕ → List Mark) spell.formula_at x)
spelled-roll x = fold-roll-FormulaTree (ℕ → List Mark) spell.production x

abbrev IsFollowed : FormulaTree → Type 0
IsFollowed f = (s : Scope) (k : ℕ) → Follows (uses.formula_uses f s) (spell.formula_at f k)

abbrev Followed : Type 0
Followed = (f : FormulaTree) × IsFollowed f

abbrev trees_of : List Followed → List FormulaTree
trees_of fs = map (λ e. e.0) fs

abbrev all_uses : List Followed → Scope → Uses
all_uses fs s = each (λ part. part s) (map uses.formula_uses (trees_of fs))

abbrev all_marks : ℕ → List Followed → List (List Mark)
all_marks k fs = spell.parts_at k (map spell.formula_at (trees_of fs))

parts_behind : (t : Terminal) (k : ℕ) (fs : List Followed) (s : Scope) → Follows (all_uses fs s) (spell.behind t (all_marks k fs))
parts_behind t k [] s = none []
parts_behind t k (f ∷ fs) s =
    let rest = spell.behind t (all_marks k fs) in
    skip (all_uses (f ∷ fs) s) (fixed t) (spell.formula_at f.0 k ++ rest) (joined (uses.formula_uses f.0 s) (all_uses fs s) (spell.formula_at f.0 k) rest (f.1 s k) (parts_behind t k fs s))

parts_between : (t : Terminal) (k : ℕ) (fs : List Followed) (s : Scope) → Follows (all_uses fs s) (spell.between t (all_marks k fs))
parts_between t k [] s = none []
parts_between t k (f ∷ fs) s =
    joined (uses.formula_uses f.0 s) (all_uses fs s) (spell.formula_at f.0 k) (spell.behind t (all_marks k fs)) (f.1 s k) (parts_behind t k fs s)

-- `forall` or `exists` with its parameters, and the formula behind them
quantified : (m : Mark) (ps : List ParamTree) (f : Followed) (s : Scope) (k : ℕ) →
    Follows (both (uses.param_uses 0 ps s) (uses.formula_uses f.0 (with_params s ps))) (m ∷ fixed the.OpenParen ∷ (spell.params ps ++ fixed the.CloseParen ∷ spell.formula_at f.0 k))
quantified m ps f s k =
    let inner = uses.formula_uses f.0 (with_params s ps) in
    let all = both (uses.param_uses 0 ps s) inner in
    let marks = spell.params ps ++ fixed the.CloseParen ∷ spell.formula_at f.0 k in
    skip all m (fixed the.OpenParen ∷ marks) (skip all (fixed the.OpenParen) marks
    (joined (uses.param_uses 0 ps s) inner (spell.params ps) (fixed the.CloseParen ∷ spell.formula_at f.0 k) (params 0 ps s)
    (skip inner (fixed the.CloseParen) (spell.formula_at f.0 k) (f.1 (with_params s ps) k))))

-- a formula in parentheses, behind the first
enclosed : (m : Mark) (us : Uses) (ms : List Mark) → Follows us ms → Follows us (m ∷ (ms ++ fixed the.CloseParen ∷ []))
enclosed m us ms f = skip us m (ms ++ fixed the.CloseParen ∷ []) (before us ms (fixed the.CloseParen ∷ []) f)

level : (y : FormulaTree-F Followed) (s : Scope) (k : ℕ) →
    Follows (uses.production (map-FormulaTree FormulaTree (Scope → Uses) uses.formula_uses (map-FormulaTree Followed FormulaTree (λ e. e.0) y)) s)
    (spell.production (map-FormulaTree FormulaTree (ℕ → List Mark) spell.formula_at (map-FormulaTree Followed FormulaTree (λ e. e.0) y)) k)
level (FormulaTree-F.True token) s k = none (opening k token the.True ∷ [])
level (FormulaTree-F.False token) s k = none (opening k token the.False ∷ [])
level (FormulaTree-F.Atom a) s k = atom (Some k) a s
level (FormulaTree-F.Not token f) s k = skip (uses.formula_uses f.0 s) (opening k token the.Not) (spell.formula_at f.0 (suc k)) (f.1 s (suc k))
level (FormulaTree-F.Knows token x f) s k =
    joined (uses.knower_uses token x s) (uses.formula_uses f.0 s) (opening k token the.Knows ∷ named x ∷ []) (spell.formula_at f.0 (suc k))
    (first token (Knowledge s.knowledge) (text_of the.Knows) (Some k) (at x.token (Agent x.text s)) (named x ∷ []) (held_one x.token (Agent x.text s) x.text None))
    (f.1 s (suc k))
level (FormulaTree-F.Common token g f) s k =
    joined (uses.knowers_uses token g s) (uses.formula_uses f.0 s) (opening k token the.Common ∷ spell.group g) (spell.formula_at f.0 (suc k))
    (first token (Knowledge s.knowledge) (text_of the.Common) (Some k) (uses.group_uses g s) (spell.group g) (group g s))
    (f.1 s (suc k))
level (FormulaTree-F.Forall token ps f) s k = quantified (opening k token the.Forall) ps f s (suc k)
level (FormulaTree-F.Exists token ps f) s k = quantified (opening k token the.Exists) ps f s (suc k)
level (FormulaTree-F.Equal token x y) s k =
    let left = UsedObject x.text s in
    let right = UsedObject y.text s in
    let us = both (at x.token left) (at y.token right) in
    skip us (opening k token the.OpenParen) (named x ∷ fixed the.Equals ∷ named y ∷ fixed the.CloseParen ∷ [])
    (first_name x left (at y.token right) (fixed the.Equals ∷ named y ∷ fixed the.CloseParen ∷ [])
    (skip (at y.token right) (fixed the.Equals) (named y ∷ fixed the.CloseParen ∷ [])
    (before (at y.token right) (named y ∷ []) (fixed the.CloseParen ∷ []) (held_one y.token right y.text None))))
level (FormulaTree-F.Paren token f) s k = enclosed (opening k token the.OpenParen) (uses.formula_uses f.0 s) (spell.formula_at f.0 (suc k)) (f.1 s (suc k))
level (FormulaTree-F.And token fs) s k = enclosed (opening k token the.OpenParen) (all_uses fs s) (spell.between the.And (all_marks (suc k) fs)) (parts_between the.And (suc k) fs s)
level (FormulaTree-F.Or token fs) s k = enclosed (opening k token the.OpenParen) (all_uses fs s) (spell.between the.Or (all_marks (suc k) fs)) (parts_between the.Or (suc k) fs s)

rolled : (x : FormulaTree-F FormulaTree) (y : FormulaTree-F Followed) → map-FormulaTree Followed FormulaTree (λ e. e.0) y ≡ x → IsFollowed (roll-FormulaTree x)
rolled x y e = subst (λ (x : FormulaTree-F FormulaTree). IsFollowed (roll-FormulaTree x)) e (λ s k.
    let z = map-FormulaTree Followed FormulaTree (λ e. e.0) y in
    subst (λ us. Follows us (spell.formula_at (roll-FormulaTree z) k)) (sym (ap (λ u. u s) (uses-roll z)))
    (subst (λ ms. Follows (uses.production (map-FormulaTree FormulaTree (Scope → Uses) uses.formula_uses z) s) ms) (sym (ap (λ u. u k) (spelled-roll z))) (level y s k)))

followed : (f : FormulaTree) → IsFollowed f
followed = ind-FormulaTree IsFollowed rolled

pub formula : (f : FormulaTree) (s : Scope) → Follows (uses.formula_uses f s) (spell.formula f)
formula f s = followed f s 1
