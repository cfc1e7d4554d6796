-- The equations of `fits_in`, variant by variant.
use Rattle.std.proofs.Common.{◌≡◌, ℕ, Bool, true, false, ◌&&◌, nat_lt, List, [], ◌∷◌, map, drop, refl, ap, ◌∙◌, sym}
use Rattle.std.specs.List.{list_all}
use Rattle.ep_logic.specs.AgentSets.{is_nobody}
use Rattle.ep_logic.specs.declared.ids.AgentId.{AgentId}
use Rattle.ep_logic.specs.declared.ids.AtomId.{AtomId}
use Rattle.ep_logic.specs.declared.formula.Node.{Node}
use Rattle.ep_logic.specs.declared.formula.Node.TheOpen.{Node-F}
use Rattle.ep_logic.specs.declared.formula.Node.TheVariants as node
use Rattle.ep_logic.specs.declared.formula.Node.TheFolds.{fold-roll-Node}
use Rattle.ep_theory.specs.Fits.{fit_step, fits_in}
use Rattle.ep_universe.specs.Formulas.{conjunction, disjunction}

same_all : {X : Type 0} (p : X → Bool) (xs : List X) → list_all (λ b. b) (map p xs) ≡ list_all p xs
same_all p [] = refl
same_all p (x ∷ xs) = ap (λ b. p x && b) (same_all p xs)

module _ (m n : ℕ) where
  pub fits-True : fits_in m n node.True ≡ true
  fits-True = ap (fits_in m n) (sym node.rolls-True) ∙ fold-roll-Node Bool (fit_step m n) Node-F.True

  pub fits-False : fits_in m n node.False ≡ true
  fits-False = ap (fits_in m n) (sym node.rolls-False) ∙ fold-roll-Node Bool (fit_step m n) Node-F.False

  pub fits-Atom : (a : AtomId) → fits_in m n (node.Atom a) ≡ nat_lt a.n n
  fits-Atom a = ap (fits_in m n) (sym (node.rolls-Atom a)) ∙ fold-roll-Node Bool (fit_step m n) (Node-F.Atom a)

  pub fits-Not : (f : Node) → fits_in m n (node.Not f) ≡ fits_in m n f
  fits-Not f = ap (fits_in m n) (sym (node.rolls-Not f)) ∙ fold-roll-Node Bool (fit_step m n) (Node-F.Not f)

  pub fits-And : (fs : List Node) → fits_in m n (node.And fs) ≡ list_all (fits_in m n) fs
  fits-And fs = ap (fits_in m n) (sym (node.rolls-And fs)) ∙ fold-roll-Node Bool (fit_step m n) (Node-F.And fs) ∙ same_all (fits_in m n) fs

  pub fits-Or : (fs : List Node) → fits_in m n (node.Or fs) ≡ list_all (fits_in m n) fs
  fits-Or fs = ap (fits_in m n) (sym (node.rolls-Or fs)) ∙ fold-roll-Node Bool (fit_step m n) (Node-F.Or fs) ∙ same_all (fits_in m n) fs

  pub fits-Knows : (a : AgentId) (f : Node) → fits_in m n (node.Knows a f) ≡ (nat_lt a.n m && fits_in m n f)
  fits-Knows a f = ap (fits_in m n) (sym (node.rolls-Knows a f)) ∙ fold-roll-Node Bool (fit_step m n) (Node-F.Knows a f)

  pub fits-Common : (g : List Bool) (f : Node) → fits_in m n (node.Common g f) ≡ (is_nobody (drop m g) && fits_in m n f)
  fits-Common g f = ap (fits_in m n) (sym (node.rolls-Common g f)) ∙ fold-roll-Node Bool (fit_step m n) (Node-F.Common g f)

  and_true : (b : Bool) → (b && true) ≡ b
  and_true true = refl
  and_true false = refl

  pub conjunction-fits : (fs : List Node) → list_all (fits_in m n) fs ≡ true → fits_in m n (conjunction fs) ≡ true
  conjunction-fits [] h = fits-True
  conjunction-fits (f ∷ []) h = sym (and_true (fits_in m n f)) ∙ h
  conjunction-fits (f ∷ g ∷ fs) h = fits-And (f ∷ g ∷ fs) ∙ h

  pub disjunction-fits : (fs : List Node) → list_all (fits_in m n) fs ≡ true → fits_in m n (disjunction fs) ≡ true
  disjunction-fits [] h = fits-False
  disjunction-fits (f ∷ []) h = sym (and_true (fits_in m n f)) ∙ h
  disjunction-fits (f ∷ g ∷ fs) h = fits-Or (f ∷ g ∷ fs) ∙ h
