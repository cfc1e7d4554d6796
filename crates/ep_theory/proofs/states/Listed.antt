-- A bisimulation given as a list of pairs is one given as a test, and each test has a list.
use Rattle.std.proofs.Common.{◌≡◌, ℕ, Bool, List, IsTrue, ◌↔◌, sym, subst}
use Rattle.std.specs.Cmp.{both_ways}
use Rattle.ep_theory.specs.Kripke.{Kripke}
use Rattle.ep_logic.specs.Numbers.{pairs_within, has_pair}
use Rattle.ep_theory.specs.Bisimulation.{IsBisimulation, BisimilarWorlds, Bisimilar}
use Rattle.ep_theory.specs.Rising.{IsIn}
use Rattle.ep_theory.proofs.lists.NumbersLemmas.{in_pairs, from_pairs, to_has_pair, from_has_pair}

pub list_of_bisimulation : (Z : ℕ → ℕ → Bool) (S R : Kripke) → IsBisimulation Z S R → (ps : List (ℕ × ℕ)) × (has_pair ps ≡ Z) × IsBisimulation (has_pair ps) S R
list_of_bisimulation Z S R b =
    let ps : List (ℕ × ℕ) = pairs_within Z R.worlds S.worlds in
    let e : has_pair ps ≡ Z = λ i w v. both_ways (has_pair ps w v) (Z w v)
    (λ h. (from_pairs Z R.worlds S.worlds (w, v) (from_has_pair ps w v h)).2)
    (λ h. let t = b.within w v h in to_has_pair ps w v (in_pairs Z R.worlds S.worlds w v t.0 t.1 h)) i in
    (ps, e, subst (λ Y. IsBisimulation Y S R) (sym e) b)

-- worlds are bisimilar exactly if some list of pairs is a bisimulation and holds them
pub listed_pairs : (S R : Kripke) (w v : ℕ) → BisimilarWorlds S w R v ↔ ((ps : List (ℕ × ℕ)) × IsBisimulation (has_pair ps) S R × IsIn (w, v) ps)
listed_pairs S R w v = (
  λ b. let l = list_of_bisimulation b.0 S R b.1 in (l.0, l.2, from_has_pair l.0 w v (subst (λ (Y : ℕ → ℕ → Bool). IsTrue (Y w v)) (sym l.1) b.2)),
  λ h. (has_pair h.0, h.1, to_has_pair h.0 w v h.2),
)

-- states are bisimilar exactly if some list of pairs is a bisimulation that relates their designated worlds
pub listed_states : (S R : Kripke) → Bisimilar S R ↔ ((ps : List (ℕ × ℕ)) × IsBisimulation (has_pair ps) S R ×
    ((w : ℕ) → IsIn w S.designated → (v : ℕ) × IsIn v R.designated × IsIn (w, v) ps) ×
    ((v : ℕ) → IsIn v R.designated → (w : ℕ) × IsIn w S.designated × IsIn (w, v) ps))
listed_states S R = (
  λ b.
      let l = list_of_bisimulation b.0 S R b.1 in
      let turn : (w v : ℕ) → IsTrue (b.0 w v) → IsIn (w, v) l.0 = λ w v z. from_has_pair l.0 w v (subst (λ (Y : ℕ → ℕ → Bool). IsTrue (Y w v)) (sym l.1) z) in
      (l.0, l.2, (λ w i. let v = b.2 w i in (v.0, v.1, turn w v.0 v.2)), (λ v i. let w = b.3 v i in (w.0, w.1, turn w.0 v w.2))),
  λ h. (has_pair h.0, h.1, (λ w i. let v = h.2 w i in (v.0, v.1, to_has_pair h.0 w v.0 v.2)), (λ v i. let w = h.3 v i in (w.0, w.1, to_has_pair h.0 w.0 v w.2))),
)
