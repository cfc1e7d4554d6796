-- One equation for each production of the formulas.
use Rattle.std.proofs.Common.{◌≡◌, ℕ, suc, Bool, true, ◌&&◌, List, [], ◌∷◌, ◌++◌, map, Some, refl, sym, ap, ◌∙◌}
use Rattle.ep_tree.specs.declared.terminal.Terminal.TheVariants as the
use Rattle.ep_tree.specs.declared.tree.Name.{Name}
use Rattle.ep_tree.specs.declared.tree.AtomTree.{AtomTree}
use Rattle.ep_tree.specs.declared.tree.GroupTree.{GroupTree}
use Rattle.ep_tree.specs.declared.tree.ParamTree.{ParamTree}
use Rattle.ep_tree.specs.declared.tree.FormulaTree.{FormulaTree}
use Rattle.ep_tree.specs.declared.tree.FormulaTree.TheOpen as layer
use Rattle.ep_tree.specs.declared.tree.FormulaTree.TheVariants as tree
use Rattle.ep_tree.specs.declared.tree.FormulaTree.TheFolds.{fold-roll-FormulaTree}
use Rattle.ep_tree.specs.Bare.{bare_name, bare_atom, bare_group, bare_param, bare_layer, bare_formula}
use Rattle.ep_tree.specs.Formed.{formed_name, formed_atom, formed_group, formed_params, formed_parts, formed_layer, formed_formula}
use Rattle.ep_tree.specs.Marks.{Mark, fixed, opening, named}
use Rattle.ep_tree.specs.Spelling.{between, atom, parts_at, production, formula_at}
use Rattle.ep_tree.specs.Spelling as spell

parts_at-map : (k : ℕ) (parts : List FormulaTree) → parts_at k (map formula_at parts) ≡ map (λ p. formula_at p k) parts
parts_at-map k [] = refl
parts_at-map k (p ∷ ps) = ap (λ z. formula_at p k ∷ z) (parts_at-map k ps)

-- ---- how they are spelled

pub formula_at-True : (token : ℕ) (k : ℕ) → formula_at (tree.True token) k ≡ opening k token the.True ∷ []
formula_at-True token k = ap (λ f. formula_at f k) (sym (tree.rolls-True token)) ∙ ap (λ f. f k) (fold-roll-FormulaTree (ℕ → List Mark) production (layer.True token))

pub formula_at-False : (token : ℕ) (k : ℕ) → formula_at (tree.False token) k ≡ opening k token the.False ∷ []
formula_at-False token k = ap (λ f. formula_at f k) (sym (tree.rolls-False token)) ∙ ap (λ f. f k) (fold-roll-FormulaTree (ℕ → List Mark) production (layer.False token))

pub formula_at-Atom : (a : AtomTree) (k : ℕ) → formula_at (tree.Atom a) k ≡ atom (Some k) a
formula_at-Atom a k = ap (λ f. formula_at f k) (sym (tree.rolls-Atom a)) ∙ ap (λ f. f k) (fold-roll-FormulaTree (ℕ → List Mark) production (layer.Atom a))

pub formula_at-Not : (token : ℕ) (inner : FormulaTree) (k : ℕ) → formula_at (tree.Not token inner) k ≡ opening k token the.Not ∷ formula_at inner (suc k)
formula_at-Not token inner k = ap (λ f. formula_at f k) (sym (tree.rolls-Not token inner)) ∙ ap (λ f. f k) (fold-roll-FormulaTree (ℕ → List Mark) production (layer.Not token inner))

pub formula_at-Knows : (token : ℕ) (agent : Name) (inner : FormulaTree) (k : ℕ) → formula_at (tree.Knows token agent inner) k ≡ opening k token the.Knows ∷ named agent ∷ formula_at inner (suc k)
formula_at-Knows token agent inner k = ap (λ f. formula_at f k) (sym (tree.rolls-Knows token agent inner)) ∙ ap (λ f. f k) (fold-roll-FormulaTree (ℕ → List Mark) production (layer.Knows token agent inner))

pub formula_at-Common : (token : ℕ) (group : GroupTree) (inner : FormulaTree) (k : ℕ) → formula_at (tree.Common token group inner) k ≡ opening k token the.Common ∷ (spell.group group ++ formula_at inner (suc k))
formula_at-Common token group inner k = ap (λ f. formula_at f k) (sym (tree.rolls-Common token group inner)) ∙ ap (λ f. f k) (fold-roll-FormulaTree (ℕ → List Mark) production (layer.Common token group inner))

pub formula_at-Forall : (token : ℕ) (params : List ParamTree) (inner : FormulaTree) (k : ℕ) → formula_at (tree.Forall token params inner) k ≡ opening k token the.Forall ∷ fixed the.OpenParen ∷ (spell.params params ++ fixed the.CloseParen ∷ formula_at inner (suc k))
formula_at-Forall token params inner k = ap (λ f. formula_at f k) (sym (tree.rolls-Forall token params inner)) ∙ ap (λ f. f k) (fold-roll-FormulaTree (ℕ → List Mark) production (layer.Forall token params inner))

pub formula_at-Exists : (token : ℕ) (params : List ParamTree) (inner : FormulaTree) (k : ℕ) → formula_at (tree.Exists token params inner) k ≡ opening k token the.Exists ∷ fixed the.OpenParen ∷ (spell.params params ++ fixed the.CloseParen ∷ formula_at inner (suc k))
formula_at-Exists token params inner k = ap (λ f. formula_at f k) (sym (tree.rolls-Exists token params inner)) ∙ ap (λ f. f k) (fold-roll-FormulaTree (ℕ → List Mark) production (layer.Exists token params inner))

pub formula_at-Equal : (token : ℕ) (left right : Name) (k : ℕ) → formula_at (tree.Equal token left right) k ≡ opening k token the.OpenParen ∷ named left ∷ fixed the.Equals ∷ named right ∷ fixed the.CloseParen ∷ []
formula_at-Equal token left right k = ap (λ f. formula_at f k) (sym (tree.rolls-Equal token left right)) ∙ ap (λ f. f k) (fold-roll-FormulaTree (ℕ → List Mark) production (layer.Equal token left right))

pub formula_at-Paren : (token : ℕ) (inner : FormulaTree) (k : ℕ) → formula_at (tree.Paren token inner) k ≡ opening k token the.OpenParen ∷ (formula_at inner (suc k) ++ fixed the.CloseParen ∷ [])
formula_at-Paren token inner k = ap (λ f. formula_at f k) (sym (tree.rolls-Paren token inner)) ∙ ap (λ f. f k) (fold-roll-FormulaTree (ℕ → List Mark) production (layer.Paren token inner))

pub formula_at-And : (token : ℕ) (parts : List FormulaTree) (k : ℕ) → formula_at (tree.And token parts) k ≡ opening k token the.OpenParen ∷ (between the.And (map (λ p. formula_at p (suc k)) parts) ++ fixed the.CloseParen ∷ [])
formula_at-And token parts k = ap (λ f. formula_at f k) (sym (tree.rolls-And token parts)) ∙ ap (λ f. f k) (fold-roll-FormulaTree (ℕ → List Mark) production (layer.And token parts))
    ∙ ap (λ z. opening k token the.OpenParen ∷ (between the.And z ++ fixed the.CloseParen ∷ [])) (parts_at-map (suc k) parts)

pub formula_at-Or : (token : ℕ) (parts : List FormulaTree) (k : ℕ) → formula_at (tree.Or token parts) k ≡ opening k token the.OpenParen ∷ (between the.Or (map (λ p. formula_at p (suc k)) parts) ++ fixed the.CloseParen ∷ [])
formula_at-Or token parts k = ap (λ f. formula_at f k) (sym (tree.rolls-Or token parts)) ∙ ap (λ f. f k) (fold-roll-FormulaTree (ℕ → List Mark) production (layer.Or token parts))
    ∙ ap (λ z. opening k token the.OpenParen ∷ (between the.Or z ++ fixed the.CloseParen ∷ [])) (parts_at-map (suc k) parts)

-- ---- which are well-formed

pub formed-True : (token : ℕ) → formed_formula (tree.True token) ≡ true
formed-True token = ap formed_formula (sym (tree.rolls-True token)) ∙ fold-roll-FormulaTree Bool formed_layer (layer.True token)

pub formed-False : (token : ℕ) → formed_formula (tree.False token) ≡ true
formed-False token = ap formed_formula (sym (tree.rolls-False token)) ∙ fold-roll-FormulaTree Bool formed_layer (layer.False token)

pub formed-Atom : (a : AtomTree) → formed_formula (tree.Atom a) ≡ formed_atom a
formed-Atom a = ap formed_formula (sym (tree.rolls-Atom a)) ∙ fold-roll-FormulaTree Bool formed_layer (layer.Atom a)

pub formed-Not : (token : ℕ) (inner : FormulaTree) → formed_formula (tree.Not token inner) ≡ formed_formula inner
formed-Not token inner = ap formed_formula (sym (tree.rolls-Not token inner)) ∙ fold-roll-FormulaTree Bool formed_layer (layer.Not token inner)

pub formed-Knows : (token : ℕ) (agent : Name) (inner : FormulaTree) → formed_formula (tree.Knows token agent inner) ≡ (formed_name agent && formed_formula inner)
formed-Knows token agent inner = ap formed_formula (sym (tree.rolls-Knows token agent inner)) ∙ fold-roll-FormulaTree Bool formed_layer (layer.Knows token agent inner)

pub formed-Common : (token : ℕ) (group : GroupTree) (inner : FormulaTree) → formed_formula (tree.Common token group inner) ≡ (formed_group group && formed_formula inner)
formed-Common token group inner = ap formed_formula (sym (tree.rolls-Common token group inner)) ∙ fold-roll-FormulaTree Bool formed_layer (layer.Common token group inner)

pub formed-Forall : (token : ℕ) (params : List ParamTree) (inner : FormulaTree) → formed_formula (tree.Forall token params inner) ≡ (formed_params params && formed_formula inner)
formed-Forall token params inner = ap formed_formula (sym (tree.rolls-Forall token params inner)) ∙ fold-roll-FormulaTree Bool formed_layer (layer.Forall token params inner)

pub formed-Exists : (token : ℕ) (params : List ParamTree) (inner : FormulaTree) → formed_formula (tree.Exists token params inner) ≡ (formed_params params && formed_formula inner)
formed-Exists token params inner = ap formed_formula (sym (tree.rolls-Exists token params inner)) ∙ fold-roll-FormulaTree Bool formed_layer (layer.Exists token params inner)

pub formed-Equal : (token : ℕ) (left right : Name) → formed_formula (tree.Equal token left right) ≡ (formed_name left && formed_name right)
formed-Equal token left right = ap formed_formula (sym (tree.rolls-Equal token left right)) ∙ fold-roll-FormulaTree Bool formed_layer (layer.Equal token left right)

pub formed-Paren : (token : ℕ) (inner : FormulaTree) → formed_formula (tree.Paren token inner) ≡ formed_formula inner
formed-Paren token inner = ap formed_formula (sym (tree.rolls-Paren token inner)) ∙ fold-roll-FormulaTree Bool formed_layer (layer.Paren token inner)

pub formed-And : (token : ℕ) (parts : List FormulaTree) → formed_formula (tree.And token parts) ≡ formed_parts 2 (map formed_formula parts)
formed-And token parts = ap formed_formula (sym (tree.rolls-And token parts)) ∙ fold-roll-FormulaTree Bool formed_layer (layer.And token parts)

pub formed-Or : (token : ℕ) (parts : List FormulaTree) → formed_formula (tree.Or token parts) ≡ formed_parts 2 (map formed_formula parts)
formed-Or token parts = ap formed_formula (sym (tree.rolls-Or token parts)) ∙ fold-roll-FormulaTree Bool formed_layer (layer.Or token parts)

-- ---- without token numbers

pub bare-True : (token : ℕ) → bare_formula (tree.True token) ≡ tree.True 0
bare-True token = ap bare_formula (sym (tree.rolls-True token)) ∙ fold-roll-FormulaTree FormulaTree bare_layer (layer.True token)

pub bare-False : (token : ℕ) → bare_formula (tree.False token) ≡ tree.False 0
bare-False token = ap bare_formula (sym (tree.rolls-False token)) ∙ fold-roll-FormulaTree FormulaTree bare_layer (layer.False token)

pub bare-Atom : (a : AtomTree) → bare_formula (tree.Atom a) ≡ tree.Atom (bare_atom a)
bare-Atom a = ap bare_formula (sym (tree.rolls-Atom a)) ∙ fold-roll-FormulaTree FormulaTree bare_layer (layer.Atom a)

pub bare-Not : (token : ℕ) (inner : FormulaTree) → bare_formula (tree.Not token inner) ≡ tree.Not 0 (bare_formula inner)
bare-Not token inner = ap bare_formula (sym (tree.rolls-Not token inner)) ∙ fold-roll-FormulaTree FormulaTree bare_layer (layer.Not token inner)

pub bare-Knows : (token : ℕ) (agent : Name) (inner : FormulaTree) → bare_formula (tree.Knows token agent inner) ≡ tree.Knows 0 (bare_name agent) (bare_formula inner)
bare-Knows token agent inner = ap bare_formula (sym (tree.rolls-Knows token agent inner)) ∙ fold-roll-FormulaTree FormulaTree bare_layer (layer.Knows token agent inner)

pub bare-Common : (token : ℕ) (group : GroupTree) (inner : FormulaTree) → bare_formula (tree.Common token group inner) ≡ tree.Common 0 (bare_group group) (bare_formula inner)
bare-Common token group inner = ap bare_formula (sym (tree.rolls-Common token group inner)) ∙ fold-roll-FormulaTree FormulaTree bare_layer (layer.Common token group inner)

pub bare-Forall : (token : ℕ) (params : List ParamTree) (inner : FormulaTree) → bare_formula (tree.Forall token params inner) ≡ tree.Forall 0 (map bare_param params) (bare_formula inner)
bare-Forall token params inner = ap bare_formula (sym (tree.rolls-Forall token params inner)) ∙ fold-roll-FormulaTree FormulaTree bare_layer (layer.Forall token params inner)

pub bare-Exists : (token : ℕ) (params : List ParamTree) (inner : FormulaTree) → bare_formula (tree.Exists token params inner) ≡ tree.Exists 0 (map bare_param params) (bare_formula inner)
bare-Exists token params inner = ap bare_formula (sym (tree.rolls-Exists token params inner)) ∙ fold-roll-FormulaTree FormulaTree bare_layer (layer.Exists token params inner)

pub bare-Equal : (token : ℕ) (left right : Name) → bare_formula (tree.Equal token left right) ≡ tree.Equal 0 (bare_name left) (bare_name right)
bare-Equal token left right = ap bare_formula (sym (tree.rolls-Equal token left right)) ∙ fold-roll-FormulaTree FormulaTree bare_layer (layer.Equal token left right)

pub bare-Paren : (token : ℕ) (inner : FormulaTree) → bare_formula (tree.Paren token inner) ≡ tree.Paren 0 (bare_formula inner)
bare-Paren token inner = ap bare_formula (sym (tree.rolls-Paren token inner)) ∙ fold-roll-FormulaTree FormulaTree bare_layer (layer.Paren token inner)

pub bare-And : (token : ℕ) (parts : List FormulaTree) → bare_formula (tree.And token parts) ≡ tree.And 0 (map bare_formula parts)
bare-And token parts = ap bare_formula (sym (tree.rolls-And token parts)) ∙ fold-roll-FormulaTree FormulaTree bare_layer (layer.And token parts)

pub bare-Or : (token : ℕ) (parts : List FormulaTree) → bare_formula (tree.Or token parts) ≡ tree.Or 0 (map bare_formula parts)
bare-Or token parts = ap bare_formula (sym (tree.rolls-Or token parts)) ∙ fold-roll-FormulaTree FormulaTree bare_layer (layer.Or token parts)
