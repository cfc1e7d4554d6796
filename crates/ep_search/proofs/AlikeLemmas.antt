-- Bisimilarity of states, from the laws of the theory.
use Rattle.std.proofs.Common.{◌≡◌}
use Rattle.ep_logic.specs.declared.formula.Node.{Node}
use Rattle.ep_theory.specs.Kripke.{Kripke, IsState}
use Rattle.ep_theory.specs.Bisimulation.{Bisimilar}
use Rattle.ep_theory.specs.Canonical.{IsCanonical}
use Rattle.ep_theory.proofs.CallerLemmas.{bisimilar_sym, bisimilar_trans, same_at_all, unique}
use Rattle.ep_theory.specs.Truth.{Satisfies}
use Rattle.ep_search.specs.Alike.{Alike}

pub to_Alike : (S R : Kripke) → IsState S → IsState R → Bisimilar S R → Alike S R
unfolding Alike
to_Alike S R s r b = (s, r, b)

pub from_Alike : (S R : Kripke) → Alike S R → IsState S × IsState R × Bisimilar S R
unfolding Alike
from_Alike S R h = h

pub Alike-sym : (S R : Kripke) → Alike S R → Alike R S
Alike-sym S R h = let a = from_Alike S R h in to_Alike R S a.1 a.0 (bisimilar_sym a.2)

pub Alike-trans : (S R Q : Kripke) → Alike S R → Alike R Q → Alike S Q
Alike-trans S R Q h k =
    let a = from_Alike S R h in
    let b = from_Alike R Q k in
    to_Alike S Q a.0 b.1 (bisimilar_trans a.2 b.2)

-- bisimilar canonical states are equal
pub IsCanonical-unique : (C D : Kripke) → IsCanonical C → IsCanonical D → Alike C D → C ≡ D
IsCanonical-unique C D c d h = let a = from_Alike C D h in unique C D a.0 a.1 c d a.2

-- bisimilar states satisfy the same formulas
pub Satisfies-Alike : (S R : Kripke) (F : Node) → Alike S R → Satisfies S F → Satisfies R F
Satisfies-Alike S R F h = (same_at_all S R (from_Alike S R h).2 F).0

pub Alike-agents : (S R : Kripke) → Alike S R → S.agents ≡ R.agents
Alike-agents S R h = (from_Alike S R h).2.1.agents

pub Alike-atoms : (S R : Kripke) → Alike S R → S.atoms ≡ R.atoms
Alike-atoms S R h = (from_Alike S R h).2.1.atoms
