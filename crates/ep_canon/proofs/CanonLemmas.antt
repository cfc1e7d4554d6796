-- Canonical states by their bytes.
use Rattle.std.proofs.Common.{◌≡◌, ◌≢◌, ℕ, List, sym, ap, subst, ◌∙◌, ◌↔◌}
use Rattle.ep_theory.specs.Kripke.{Kripke, IsState}
use Rattle.ep_theory.specs.Bisimulation.{Bisimilar}
use Rattle.ep_theory.specs.Canonical.{IsCanonical, Contracts}
use Rattle.ep_theory.proofs.CallerLemmas.{equal_contractions}
use Rattle.ep_bytes.specs.Bytes.{bytes_of}
use Rattle.ep_bytes.specs.Reading as told
use Rattle.ep_bytes.proofs.CallerLemmas.{same_bytes}
use Rattle.ep_canon.specs.declared.limits.TheConstants.{MOST_CONTRACTED_WORLDS}
use Rattle.ep_canon.specs.Canon.{HasBytes}

pub bytes_of_contractions_decide : (S R C D : Kripke) → Contracts S C → Contracts R D → (bytes_of C ≡ bytes_of D) ↔ Bisimilar S R
bytes_of_contractions_decide S R C D f g =
    let one = equal_contractions S R C D f g in
    (λ e. one.0 (same_bytes C D f.valid g.valid e), λ b. ap bytes_of (one.1 b))

any_state : (bytes : List ℕ) (D : Kripke) → HasBytes bytes D → told.HasBytes MOST_CONTRACTED_WORLDS bytes D
any_state bytes D h = record { valid = h.valid; small = h.small; own = h.own }

-- the contraction of the state that has the bytes has others only where that state is not canonical
pub other_bytes : (bytes : List ℕ) (S C : Kripke) → ((D : Kripke) → told.HasBytes MOST_CONTRACTED_WORLDS bytes D → D ≡ S) → (IsCanonical S → C ≡ S) → bytes_of C ≢ bytes → (D : Kripke) → HasBytes bytes D → ⊥
other_bytes bytes S C only itself apart D h =
    let is = only D (any_state bytes D h) in
    apart (ap bytes_of (itself (subst IsCanonical is h.canonical) ∙ sym is) ∙ h.own)

pub one_state : (bytes : List ℕ) (C D : Kripke) → IsState C → bytes_of C ≡ bytes → HasBytes bytes D → D ≡ C
one_state bytes C D c e h = same_bytes D C h.valid c (h.own ∙ sym e)
