-- The equations of `Truth` for the variants of lines.
use Rattle.std.proofs.Common.{◌≡◌, ℕ, ap, sym, ◌∙◌, IsTrue}
use Rattle.ep_logic.specs.declared.ids.AtomId.{AtomId}
use Rattle.ep_logic.specs.declared.formula.Node.{Node}
use Rattle.ep_logic.specs.declared.formula.Node.TheOpen.{Node-F}
use Rattle.ep_logic.specs.declared.formula.Node.TheVariants.{True, Atom, Not, rolls-True, rolls-Atom, rolls-Not}
use Rattle.ep_theory.specs.Kripke.{Kripke, atom_at}
use Rattle.ep_theory.specs.Truth.{Truth}
use Rattle.ep_apart.proofs.TheoryLemmas.{truth-roll}

pub truth-True : (s : Kripke) (w : ℕ) → Truth s w True ≡ Unit {0}
truth-True s w = ap (Truth s w) (sym rolls-True) ∙ truth-roll s w Node-F.True

pub truth-Atom : (s : Kripke) (w : ℕ) (p : AtomId) → Truth s w (Atom p) ≡ IsTrue (atom_at s w p.n)
truth-Atom s w p = ap (Truth s w) (sym (rolls-Atom p)) ∙ truth-roll s w (Node-F.Atom p)

pub truth-Not : (s : Kripke) (w : ℕ) (f : Node) → Truth s w (Not f) ≡ (Truth s w f → ⊥)
truth-Not s w f = ap (Truth s w) (sym (rolls-Not f)) ∙ truth-roll s w (Node-F.Not f)
