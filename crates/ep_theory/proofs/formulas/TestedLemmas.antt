-- The equations of `is_true`, variant by variant.
use Rattle.std.proofs.Common.{◌≡◌, ℕ, Bool, true, false, not, ◌&&◌, ◌||◌, List, [], ◌∷◌, map, refl, ap, ◌∙◌, sym}
use Rattle.std.specs.List.{list_all, list_any}
use Rattle.ep_logic.specs.declared.ids.AgentId.{AgentId}
use Rattle.ep_logic.specs.declared.ids.AtomId.{AtomId}
use Rattle.ep_logic.specs.declared.formula.Node.{Node}
use Rattle.ep_logic.specs.declared.formula.Node.TheOpen.{Node-F}
use Rattle.ep_logic.specs.declared.formula.Node.TheVariants.{True, False, Atom, Not, And, Or, Knows, Common, rolls-True, rolls-False, rolls-Atom, rolls-Not, rolls-And, rolls-Or, rolls-Knows, rolls-Common}
use Rattle.ep_theory.specs.Kripke.{Kripke, atom_at, links_of, successors}
use Rattle.ep_theory.specs.Tested.{is_true, holds_within}
use Rattle.ep_theory.proofs.formulas.Decided.{is_true-roll}

all-map : (S : Kripke) (w : ℕ) (fs : List Node) → list_all {X = ℕ → Bool} (λ t. t w) (map (λ f v. is_true S v f) fs) ≡ list_all (is_true S w) fs
all-map S w [] = refl
all-map S w (f ∷ fs) = ap (λ b. is_true S w f && b) (all-map S w fs)

any-map : (S : Kripke) (w : ℕ) (fs : List Node) → list_any {X = ℕ → Bool} (λ t. t w) (map (λ f v. is_true S v f) fs) ≡ list_any (is_true S w) fs
any-map S w [] = refl
any-map S w (f ∷ fs) = ap (λ b. is_true S w f || b) (any-map S w fs)

pub is_true-True : (S : Kripke) (w : ℕ) → is_true S w True ≡ true
is_true-True S w = ap (is_true S w) (sym rolls-True) ∙ is_true-roll S w Node-F.True

pub is_true-False : (S : Kripke) (w : ℕ) → is_true S w False ≡ false
is_true-False S w = ap (is_true S w) (sym rolls-False) ∙ is_true-roll S w Node-F.False

pub is_true-Atom : (S : Kripke) (w : ℕ) (p : AtomId) → is_true S w (Atom p) ≡ atom_at S w p.n
is_true-Atom S w p = ap (is_true S w) (sym (rolls-Atom p)) ∙ is_true-roll S w (Node-F.Atom p)

pub is_true-Not : (S : Kripke) (w : ℕ) (f : Node) → is_true S w (Not f) ≡ not (is_true S w f)
is_true-Not S w f = ap (is_true S w) (sym (rolls-Not f)) ∙ is_true-roll S w (Node-F.Not f)

pub is_true-And : (S : Kripke) (w : ℕ) (fs : List Node) → is_true S w (And fs) ≡ list_all (is_true S w) fs
is_true-And S w fs = ap (is_true S w) (sym (rolls-And fs)) ∙ is_true-roll S w (Node-F.And fs) ∙ all-map S w fs

pub is_true-Or : (S : Kripke) (w : ℕ) (fs : List Node) → is_true S w (Or fs) ≡ list_any (is_true S w) fs
is_true-Or S w fs = ap (is_true S w) (sym (rolls-Or fs)) ∙ is_true-roll S w (Node-F.Or fs) ∙ any-map S w fs

pub is_true-Knows : (S : Kripke) (w : ℕ) (a : AgentId) (f : Node) → is_true S w (Knows a f) ≡ list_all (λ v. is_true S v f) (successors (links_of S a.n) w)
is_true-Knows S w a f = ap (is_true S w) (sym (rolls-Knows a f)) ∙ is_true-roll S w (Node-F.Knows a f)

pub is_true-Common : (S : Kripke) (w : ℕ) (g : List Bool) (f : Node) → is_true S w (Common g f) ≡ holds_within S g (λ v. is_true S v f) S.worlds w
is_true-Common S w g f = ap (is_true S w) (sym (rolls-Common g f)) ∙ is_true-roll S w (Node-F.Common g f)

pub ruleset is_true_laws = (is_true-True, is_true-False, is_true-Atom, is_true-Not, is_true-And, is_true-Or, is_true-Knows, is_true-Common)
