-- The equations of `fits_in`, variant by variant.
use Rattle.std.proofs.Common.{◌≡◌, ℕ, Bool, ◌&&◌, nat_lt, List, [], ◌∷◌, map, drop, refl, ap, ◌∙◌, sym}
use Rattle.std.specs.List.{list_all}
use Rattle.ep_logic.specs.AgentSets.{is_nobody}
use Rattle.ep_logic.specs.declared.ids.AgentId.{AgentId}
use Rattle.ep_logic.specs.declared.ids.AtomId.{AtomId}
use Rattle.ep_logic.specs.declared.formula.Node.{Node}
use Rattle.ep_logic.specs.declared.formula.Node.TheOpen.{Node-F}
use Rattle.ep_logic.specs.declared.formula.Node.TheVariants.{Atom, Not, And, Or, Knows, Common, rolls-Atom, rolls-Not, rolls-And, rolls-Or, rolls-Knows, rolls-Common}
use Rattle.ep_logic.specs.declared.formula.Node.TheFolds.{fold-roll-Node}
use Rattle.ep_theory.specs.Fits.{fits_in, fit_step}

all-map : {A : Type 0} (p : A → Bool) (xs : List A) → list_all (λ b. b) (map p xs) ≡ list_all p xs
all-map p [] = refl
all-map p (x ∷ xs) = ap (λ b. p x && b) (all-map p xs)

pub fits_in-Atom : (n m : ℕ) (p : AtomId) → fits_in n m (Atom p) ≡ nat_lt p.n m
fits_in-Atom n m p = ap (fits_in n m) (sym (rolls-Atom p)) ∙ fold-roll-Node Bool (fit_step n m) (Node-F.Atom p)

pub fits_in-Not : (n m : ℕ) (f : Node) → fits_in n m (Not f) ≡ fits_in n m f
fits_in-Not n m f = ap (fits_in n m) (sym (rolls-Not f)) ∙ fold-roll-Node Bool (fit_step n m) (Node-F.Not f)

pub fits_in-And : (n m : ℕ) (fs : List Node) → fits_in n m (And fs) ≡ list_all (fits_in n m) fs
fits_in-And n m fs = ap (fits_in n m) (sym (rolls-And fs)) ∙ fold-roll-Node Bool (fit_step n m) (Node-F.And fs) ∙ all-map (fits_in n m) fs

pub fits_in-Or : (n m : ℕ) (fs : List Node) → fits_in n m (Or fs) ≡ list_all (fits_in n m) fs
fits_in-Or n m fs = ap (fits_in n m) (sym (rolls-Or fs)) ∙ fold-roll-Node Bool (fit_step n m) (Node-F.Or fs) ∙ all-map (fits_in n m) fs

pub fits_in-Knows : (n m : ℕ) (a : AgentId) (f : Node) → fits_in n m (Knows a f) ≡ (nat_lt a.n n && fits_in n m f)
fits_in-Knows n m a f = ap (fits_in n m) (sym (rolls-Knows a f)) ∙ fold-roll-Node Bool (fit_step n m) (Node-F.Knows a f)

pub fits_in-Common : (n m : ℕ) (g : List Bool) (f : Node) → fits_in n m (Common g f) ≡ (is_nobody (drop n g) && fits_in n m f)
fits_in-Common n m g f = ap (fits_in n m) (sym (rolls-Common g f)) ∙ fold-roll-Node Bool (fit_step n m) (Node-F.Common g f)

pub ruleset fit_laws = (fits_in-Atom, fits_in-Not, fits_in-And, fits_in-Or, fits_in-Knows, fits_in-Common)
