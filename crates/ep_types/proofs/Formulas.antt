-- The parts of a conjunction, and the parameters that go out of force.
use Rattle.std.proofs.Common.{◌≡◌, ℕ, List, [], ◌∷◌, ◌++◌, length, take, map, Result, refl, ap, sym, ◌∙◌, append_assoc, append-nil}
use Rattle.ep_types.specs.Names.{Typings}
use Rattle.ep_types.specs.Places.{Scope, scope, with_param, with_params, Uses, both, each}
use Rattle.ep_types.specs.Uses.{equality_uses, production, formula_uses, formulas_uses}
use Rattle.ep_types.specs.Faults.{IsJudged}
use Rattle.ep_types.specs.declared.fault.TypeError.{TypeError}
use Rattle.ep_types.specs.declared.scope.Declared.{Declared}
use Rattle.ep_types.specs.declared.scope.Frame.{Frame}
use Rattle.ep_tree.specs.declared.tree.Name.{Name}
use Rattle.ep_tree.specs.declared.tree.ParamTree.{ParamTree}
use Rattle.ep_tree.specs.declared.tree.FormulaTree.{FormulaTree}
use Rattle.ep_tree.specs.declared.tree.FormulaTree.TheOpen as layer
use Rattle.ep_tree.specs.declared.tree.FormulaTree.TheVariants as tree
use Rattle.ep_tree.specs.declared.tree.FormulaTree.TheFolds.{fold-roll-FormulaTree}

each_part : (s : Scope) (fs : List FormulaTree) → each (λ part. part s) (map formula_uses fs) ≡ formulas_uses fs s
each_part s [] = refl
each_part s (f ∷ fs) = ap (both (formula_uses f s)) (each_part s fs)

pub uses-And : (t : ℕ) (fs : List FormulaTree) (s : Scope) → formula_uses (tree.And t fs) s ≡ formulas_uses fs s
uses-And t fs s = ap (λ z. formula_uses z s) (sym (tree.rolls-And t fs)) ∙ ap (λ k. k s) (fold-roll-FormulaTree (Scope → Uses) production (layer.And t fs)) ∙ each_part s fs

pub uses-Or : (t : ℕ) (fs : List FormulaTree) (s : Scope) → formula_uses (tree.Or t fs) s ≡ formulas_uses fs s
uses-Or t fs s = ap (λ z. formula_uses z s) (sym (tree.rolls-Or t fs)) ∙ ap (λ k. k s) (fold-roll-FormulaTree (Scope → Uses) production (layer.Or t fs)) ∙ each_part s fs

pub uses-Equal : (t : ℕ) (left right : Name) (s : Scope) → formula_uses (tree.Equal t left right) s ≡ equality_uses left right s
uses-Equal t left right s = ap (λ z. formula_uses z s) (sym (tree.rolls-Equal t left right)) ∙ ap (λ k. k s) (fold-roll-FormulaTree (Scope → Uses) production (layer.Equal t left right))

pub judged_as : (f : FormulaTree) (us : Uses) (s : Scope) (g : FormulaTree) (r : Result (Unit {0}) TypeError) → f ≡ g → formula_uses g s ≡ us → IsJudged us r → IsJudged (formula_uses f s) r
judged_as f us s g r e u h = rw (e, u) h

listed : List ParamTree → Typings
listed [] = []
listed (p ∷ ps) = (p.name.text, p.kind.text) ∷ listed ps

with_listed : Scope → Typings → Scope
with_listed s ps = record s { params = s.params ++ ps }

appended : (s : Scope) (ps : List ParamTree) → with_params s ps ≡ with_listed s (listed ps)
unfolding listed with_listed
appended s [] = ap (λ z. record s { params = z }) (sym (append-nil s.params))
appended s (p ∷ ps) = appended (with_param s p) ps ∙ ap (λ z. record s { params = z }) (append_assoc s.params ((p.name.text, p.kind.text) ∷ []) (listed ps))

front : (ps qs : Typings) → take (length ps) (ps ++ qs) ≡ ps
front [] qs = refl
front (p ∷ ps) qs = ap (λ z. p ∷ z) (front ps qs)

-- a frame with more parameters, cut to those before
pub out_of_force : (d : Declared) (before now : Frame) (ps : List ParamTree) → scope d now ≡ with_params (scope d before) ps → ◌≡◌ {A = Frame} (record { params = take (length before.params) now.params; knowledge = now.knowledge }) before
unfolding with_listed
out_of_force d before now ps e =
    let whole = e ∙ appended (scope d before) ps in
    let params = ap (λ (s : Scope). take (length before.params) s.params) whole ∙ front before.params (listed ps) in
    let knowledge = ap (λ (s : Scope). s.knowledge) whole in
    λ i. record { params = params i; knowledge = knowledge i }
