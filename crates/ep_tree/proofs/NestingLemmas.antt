-- The nesting of a formula, and that of the formulas that the tokens of its spelling begin.
use Rattle.std.proofs.Common.{◌≡◌, ℕ, suc, ◌+◌, ◌≤◌, List, [], ◌∷◌, ◌++◌, map, sym, ap, subst, arith}
use Rattle.ep_base.specs.Numbers.{largest}
use Rattle.ep_tree.specs.Marks.{Mark, IsShallow, fixed, named}
use Rattle.ep_tree.specs.Nesting.{nesting, nesting_layer}
use Rattle.ep_tree.specs.Spelling as spell
use Rattle.ep_tree.specs.declared.terminal.Terminal.{Terminal}
use Rattle.ep_tree.specs.declared.terminal.Terminal.TheVariants as the
use Rattle.ep_tree.specs.declared.tree.Name.{Name}
use Rattle.ep_tree.specs.declared.tree.GroupTree.{GroupTree}
use Rattle.ep_tree.specs.declared.tree.GroupTree.TheVariants.{All, Members}
use Rattle.ep_tree.specs.declared.tree.ParamTree.{ParamTree}
use Rattle.ep_tree.specs.declared.tree.FormulaTree.{FormulaTree, roll-FormulaTree}
use Rattle.ep_tree.specs.declared.tree.FormulaTree.TheOpen.{FormulaTree-F}
use Rattle.ep_tree.specs.declared.tree.FormulaTree.TheFolds.{map-FormulaTree, fold-roll-FormulaTree, ind-FormulaTree}
use Rattle.ep_tree.specs.declared.limits.TheConstants.{MOST_NESTING}

pub nesting-roll : (x : FormulaTree-F FormulaTree) → nesting (roll-FormulaTree x) ≡ nesting_layer (map-FormulaTree FormulaTree ℕ nesting x)
unfolding nesting
nesting-roll x = fold-roll-FormulaTree ℕ nesting_layer x

spelled-roll : (x : FormulaTree-F FormulaTree) → spell.formula_at (roll-FormulaTree x) ≡ spell.production (map-FormulaTree FormulaTree (ℕ → List Mark) spell.formula_at x)
spelled-roll x = fold-roll-FormulaTree (ℕ → List Mark) spell.production x

-- ---- spellings, one behind another

pub shallow-left : (xs ys : List Mark) → IsShallow (xs ++ ys) → IsShallow xs
shallow-left [] ys h = tt
shallow-left (x ∷ xs) ys h = (h.0, shallow-left xs ys h.1)

pub shallow-right : (xs ys : List Mark) → IsShallow (xs ++ ys) → IsShallow ys
shallow-right [] ys h = h
shallow-right (x ∷ xs) ys h = shallow-right xs ys h.1

shallow-append : (xs ys : List Mark) → IsShallow xs → IsShallow ys → IsShallow (xs ++ ys)
shallow-append [] ys h k = k
shallow-append (x ∷ xs) ys h k = (h.0, shallow-append xs ys h.1 k)

closed : (xs : List Mark) (t : Terminal) → IsShallow xs → IsShallow (xs ++ fixed t ∷ [])
closed xs t h = shallow-append xs (fixed t ∷ []) h (tt, tt)

-- ---- a shallow spelling is that of a formula of such a nesting

-- what stands deeper by k is within the limit
abbrev IsNested : FormulaTree → Type 0
IsNested f = (k : ℕ) → IsShallow (spell.formula_at f k) → nesting f + k ≤ MOST_NESTING + 1

abbrev Nested : Type 0
Nested = (f : FormulaTree) × IsNested f

abbrev trees_of : List Nested → List FormulaTree
trees_of fs = map (λ e. e.0) fs

behind_nested : (t : Terminal) (k : ℕ) (fs : List Nested) → k ≤ MOST_NESTING + 1 → IsShallow (spell.behind t (spell.parts_at k (map spell.formula_at (trees_of fs)))) →
    largest (map nesting (trees_of fs)) + k ≤ MOST_NESTING + 1
behind_nested t k [] l h = omega arith
behind_nested t k (f ∷ fs) l h =
    let rest = spell.behind t (spell.parts_at k (map spell.formula_at (trees_of fs))) in
    let here = f.1 k (shallow-left (spell.formula_at f.0 k) rest h.1) in
    let later = behind_nested t k fs l (shallow-right (spell.formula_at f.0 k) rest h.1) in
    omega (arith, here, later)

between_nested : (t : Terminal) (k : ℕ) (fs : List Nested) → k ≤ MOST_NESTING + 1 → IsShallow (spell.between t (spell.parts_at k (map spell.formula_at (trees_of fs)))) →
    largest (map nesting (trees_of fs)) + k ≤ MOST_NESTING + 1
between_nested t k [] l h = omega arith
between_nested t k (f ∷ fs) l h =
    let rest = spell.behind t (spell.parts_at k (map spell.formula_at (trees_of fs))) in
    let here = f.1 k (shallow-left (spell.formula_at f.0 k) rest h) in
    let later = behind_nested t k fs l (shallow-right (spell.formula_at f.0 k) rest h) in
    omega (arith, here, later)

nested_level : (k : ℕ) (y : FormulaTree-F Nested) →
    IsShallow (spell.production (map-FormulaTree FormulaTree (ℕ → List Mark) spell.formula_at (map-FormulaTree Nested FormulaTree (λ e. e.0) y)) k) →
    nesting_layer (map-FormulaTree FormulaTree ℕ nesting (map-FormulaTree Nested FormulaTree (λ e. e.0) y)) + k ≤ MOST_NESTING + 1
nested_level k (FormulaTree-F.True token) h = omega (arith, h.0)
nested_level k (FormulaTree-F.False token) h = omega (arith, h.0)
nested_level k (FormulaTree-F.Atom a) h = omega (arith, h.0)
nested_level k (FormulaTree-F.Not token f) h = let inner = f.1 (suc k) h.1 in omega (arith, inner)
nested_level k (FormulaTree-F.Knows token x f) h = let inner = f.1 (suc k) h.1.1 in omega (arith, inner)
nested_level k (FormulaTree-F.Common token g f) h = let inner = f.1 (suc k) (shallow-right (spell.group g) (spell.formula_at f.0 (suc k)) h.1) in omega (arith, inner)
nested_level k (FormulaTree-F.Forall token ps f) h = let inner = f.1 (suc k) (shallow-right (spell.params ps) (fixed the.CloseParen ∷ spell.formula_at f.0 (suc k)) h.1.1).1 in omega (arith, inner)
nested_level k (FormulaTree-F.Exists token ps f) h = let inner = f.1 (suc k) (shallow-right (spell.params ps) (fixed the.CloseParen ∷ spell.formula_at f.0 (suc k)) h.1.1).1 in omega (arith, inner)
nested_level k (FormulaTree-F.Equal token x y) h = omega (arith, h.0)
nested_level k (FormulaTree-F.Paren token f) h = let inner = f.1 (suc k) (shallow-left (spell.formula_at f.0 (suc k)) (fixed the.CloseParen ∷ []) h.1) in omega (arith, inner)
nested_level k (FormulaTree-F.And token fs) h =
    let here : k ≤ MOST_NESTING = h.0 in
    let parts = between_nested the.And (suc k) fs (omega arith) (shallow-left (spell.between the.And (spell.parts_at (suc k) (map spell.formula_at (trees_of fs)))) (fixed the.CloseParen ∷ []) h.1) in
    omega (arith, parts)
nested_level k (FormulaTree-F.Or token fs) h =
    let here : k ≤ MOST_NESTING = h.0 in
    let parts = between_nested the.Or (suc k) fs (omega arith) (shallow-left (spell.between the.Or (spell.parts_at (suc k) (map spell.formula_at (trees_of fs)))) (fixed the.CloseParen ∷ []) h.1) in
    omega (arith, parts)

nested_rolled : (x : FormulaTree-F FormulaTree) (y : FormulaTree-F Nested) → map-FormulaTree Nested FormulaTree (λ e. e.0) y ≡ x → IsNested (roll-FormulaTree x)
nested_rolled x y e = subst (λ (x : FormulaTree-F FormulaTree). IsNested (roll-FormulaTree x)) e (λ k h.
    let z = map-FormulaTree Nested FormulaTree (λ e. e.0) y in
    let n = nested_level k y (subst IsShallow (ap (λ u. u k) (spelled-roll z)) h) in
    omega (arith, nesting-roll z, n))

nested : (f : FormulaTree) → IsNested f
nested = ind-FormulaTree IsNested nested_rolled

-- a formula whose spelling is shallow has a nesting within the limit
pub nested_formula : (f : FormulaTree) → IsShallow (spell.formula f) → nesting f ≤ MOST_NESTING
nested_formula f h = let n = nested f 1 h in omega (arith, n)

-- ---- and such a formula has a shallow spelling

behind_names : (ns : List Name) → IsShallow (spell.behind the.Comma (map (λ n. named n ∷ []) ns))
behind_names [] = tt
behind_names (n ∷ ns) = (tt, (tt, behind_names ns))

shallow_names : (ns : List Name) → IsShallow (spell.names ns)
shallow_names [] = tt
shallow_names (n ∷ ns) = (tt, behind_names ns)

shallow_arguments : (ns : List Name) → IsShallow (spell.arguments ns)
shallow_arguments [] = tt
shallow_arguments (n ∷ ns) = (tt, closed (spell.names (n ∷ ns)) the.CloseParen (shallow_names (n ∷ ns)))

shallow_group : (g : GroupTree) → IsShallow (spell.group g)
shallow_group (All token) = (tt, tt)
shallow_group (Members token ns) = (tt, closed (spell.names ns) the.CloseBrace (shallow_names ns))

behind_params : (ps : List ParamTree) → IsShallow (spell.behind the.Comma (map spell.param ps))
behind_params [] = tt
behind_params (p ∷ ps) = (tt, (tt, (tt, (tt, behind_params ps))))

shallow_params : (ps : List ParamTree) → IsShallow (spell.params ps)
shallow_params [] = tt
shallow_params (p ∷ ps) = (tt, (tt, (tt, behind_params ps)))

abbrev IsSpelledSo : FormulaTree → Type 0
IsSpelledSo f = (k : ℕ) → nesting f + k ≤ MOST_NESTING + 1 → IsShallow (spell.formula_at f k)

abbrev Spelled : Type 0
Spelled = (f : FormulaTree) × IsSpelledSo f

abbrev spelled_trees : List Spelled → List FormulaTree
spelled_trees fs = map (λ e. e.0) fs

behind_shallow : (t : Terminal) (k : ℕ) (fs : List Spelled) → largest (map nesting (spelled_trees fs)) + k ≤ MOST_NESTING + 1 →
    IsShallow (spell.behind t (spell.parts_at k (map spell.formula_at (spelled_trees fs))))
behind_shallow t k [] h = tt
behind_shallow t k (f ∷ fs) h = (
  tt,
  shallow-append (spell.formula_at f.0 k) (spell.behind t (spell.parts_at k (map spell.formula_at (spelled_trees fs))))
      (f.1 k (omega arith)) (behind_shallow t k fs (omega arith)),
)

between_shallow : (t : Terminal) (k : ℕ) (fs : List Spelled) → largest (map nesting (spelled_trees fs)) + k ≤ MOST_NESTING + 1 →
    IsShallow (spell.between t (spell.parts_at k (map spell.formula_at (spelled_trees fs))))
between_shallow t k [] h = tt
between_shallow t k (f ∷ fs) h =
    shallow-append (spell.formula_at f.0 k) (spell.behind t (spell.parts_at k (map spell.formula_at (spelled_trees fs))))
    (f.1 k (omega arith)) (behind_shallow t k fs (omega arith))

spelled_level : (k : ℕ) (y : FormulaTree-F Spelled) →
    nesting_layer (map-FormulaTree FormulaTree ℕ nesting (map-FormulaTree Spelled FormulaTree (λ e. e.0) y)) + k ≤ MOST_NESTING + 1 →
    IsShallow (spell.production (map-FormulaTree FormulaTree (ℕ → List Mark) spell.formula_at (map-FormulaTree Spelled FormulaTree (λ e. e.0) y)) k)
spelled_level k (FormulaTree-F.True token) h = (omega arith, tt)
spelled_level k (FormulaTree-F.False token) h = (omega arith, tt)
spelled_level k (FormulaTree-F.Atom a) h = (omega arith, shallow_arguments a.args)
spelled_level k (FormulaTree-F.Not token f) h = (omega arith, f.1 (suc k) (omega arith))
spelled_level k (FormulaTree-F.Knows token x f) h = (omega arith, (tt, f.1 (suc k) (omega arith)))
spelled_level k (FormulaTree-F.Common token g f) h =
    (omega arith, shallow-append (spell.group g) (spell.formula_at f.0 (suc k)) (shallow_group g) (f.1 (suc k) (omega arith)))
spelled_level k (FormulaTree-F.Forall token ps f) h =
    (omega arith, (tt, shallow-append (spell.params ps) (fixed the.CloseParen ∷ spell.formula_at f.0 (suc k)) (shallow_params ps) (tt, f.1 (suc k) (omega arith))))
spelled_level k (FormulaTree-F.Exists token ps f) h =
    (omega arith, (tt, shallow-append (spell.params ps) (fixed the.CloseParen ∷ spell.formula_at f.0 (suc k)) (shallow_params ps) (tt, f.1 (suc k) (omega arith))))
spelled_level k (FormulaTree-F.Equal token x y) h = (omega arith, (tt, (tt, (tt, (tt, tt)))))
spelled_level k (FormulaTree-F.Paren token f) h = (omega arith, closed (spell.formula_at f.0 (suc k)) the.CloseParen (f.1 (suc k) (omega arith)))
spelled_level k (FormulaTree-F.And token fs) h =
    (omega arith, closed (spell.between the.And (spell.parts_at (suc k) (map spell.formula_at (spelled_trees fs)))) the.CloseParen (between_shallow the.And (suc k) fs (omega arith)))
spelled_level k (FormulaTree-F.Or token fs) h =
    (omega arith, closed (spell.between the.Or (spell.parts_at (suc k) (map spell.formula_at (spelled_trees fs)))) the.CloseParen (between_shallow the.Or (suc k) fs (omega arith)))

spelled_rolled : (x : FormulaTree-F FormulaTree) (y : FormulaTree-F Spelled) → map-FormulaTree Spelled FormulaTree (λ e. e.0) y ≡ x → IsSpelledSo (roll-FormulaTree x)
spelled_rolled x y e = subst (λ (x : FormulaTree-F FormulaTree). IsSpelledSo (roll-FormulaTree x)) e (λ k h.
    let z = map-FormulaTree Spelled FormulaTree (λ e. e.0) y in
    subst IsShallow (sym (ap (λ u. u k) (spelled-roll z))) (spelled_level k y (omega (arith, nesting-roll z))))

spelled : (f : FormulaTree) → IsSpelledSo f
spelled = ind-FormulaTree IsSpelledSo spelled_rolled

-- a formula of a nesting within the limit has a shallow spelling
pub spelled_formula : (f : FormulaTree) → nesting f ≤ MOST_NESTING → IsShallow (spell.formula f)
spelled_formula f h = spelled f 1 (omega arith)
