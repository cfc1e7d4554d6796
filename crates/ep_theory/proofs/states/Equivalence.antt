-- Bisimilarity of states is an equivalence.
use Rattle.std.proofs.Common.{◌≡◌, ℕ, zero, suc, ◌<◌, Bool, true, false, ◌&&◌, ◌||◌, sym, ap, ◌∙◌, arith, ⊎_elim, IsTrue, lt-suc_self}
use Rattle.ep_theory.specs.Kripke.{Kripke}
use Rattle.ep_theory.specs.Bisimulation.{IsBisimulation, BisimilarWorlds, Bisimilar}
use Rattle.ep_theory.proofs.lists.Counting.{last_or_before}
use Rattle.ep_theory.proofs.lists.Bools.{and_parts, and_whole, or_left, or_right, or_parts}

pub bisimilar_sym : {S R : Kripke} → Bisimilar S R → Bisimilar R S
bisimilar_sym b = (
  λ v w. b.0 w v,
  record {
    agents = sym b.1.agents;
    atoms = sym b.1.atoms;
    within = λ v w h. let t = b.1.within w v h in (t.1, t.0);
    truth = λ v w h. sym (b.1.truth w v h);
    forth = λ a v w x h i. b.1.back a w v x h i;
    back = λ a v w u h i. b.1.forth a w v u h i;
  },
  b.3,
  b.2,
)

-- some number below the bound passes
abbrev pub some_below : (ℕ → Bool) → ℕ → Bool
some_below p zero = false
some_below p (suc n) = some_below p n || p n

pub from_some : (p : ℕ → Bool) (n : ℕ) → some_below p n ≡ true → (i : ℕ) × (i < n) × (p i ≡ true)
from_some p zero h = absurd (cc)
from_some p (suc n) h = ⊎_elim
    (λ (g : some_below p n ≡ true). let r = from_some p n g in (r.0, omega arith, r.2))
    (λ (g : p n ≡ true). (n, lt-suc_self n, g))
    (or_parts (some_below p n) (p n) h)

pub to_some : (p : ℕ → Bool) (n i : ℕ) → i < n → p i ≡ true → some_below p n ≡ true
to_some p zero i l h = absurd (omega arith)
to_some p (suc n) i l h = ⊎_elim
    (λ (q : i ≡ n). or_right (some_below p n) (p n) (ap p (sym q) ∙ h))
    (λ (g : i < n). or_left (some_below p n) (p n) (to_some p n i g h))
    (last_or_before i n l)

module _ (S R Q : Kripke) (Z Y : ℕ → ℕ → Bool) (z : IsBisimulation Z S R) (y : IsBisimulation Y R Q) where
  abbrev chain : ℕ → ℕ → Bool
  chain w u = some_below (λ v. Z w v && Y v u) R.worlds

  to_chain : (w v u : ℕ) → IsTrue (Z w v) → IsTrue (Y v u) → IsTrue (chain w u)
  to_chain w v u g h = to_some (λ v. Z w v && Y v u) R.worlds v (z.within w v g).1 (and_whole (Z w v) (Y v u) g h)

  from_chain : (w u : ℕ) → IsTrue (chain w u) → (v : ℕ) × IsTrue (Z w v) × IsTrue (Y v u)
  from_chain w u h =
      let r = from_some (λ v. Z w v && Y v u) R.worlds h in
      let t = and_parts (Z w r.0) (Y r.0 u) r.2 in
      (r.0, t.0, t.1)

  chained : IsBisimulation chain S Q
  chained = record {
    agents = z.agents ∙ y.agents;
    atoms = z.atoms ∙ y.atoms;
    within = λ w u h. let r = from_chain w u h in ((z.within w r.0 r.1).0, (y.within r.0 u r.2).1);
    truth = λ w u h. let r = from_chain w u h in z.truth w r.0 r.1 ∙ y.truth r.0 u r.2;
    forth = λ a w u x h i.
        let r = from_chain w u h in
        let f = z.forth a w r.0 x r.1 i in
        let g = y.forth a r.0 u f.0 r.2 f.1 in
        (g.0, g.1, to_chain x f.0 g.0 f.2 g.2);
    back = λ a w u x h i.
        let r = from_chain w u h in
        let g = y.back a r.0 u x r.2 i in
        let f = z.back a w r.0 g.0 r.1 g.1 in
        (f.0, f.1, to_chain f.0 g.0 x f.2 g.2);
  }

pub bisimilar_trans : {S R Q : Kripke} → Bisimilar S R → Bisimilar R Q → Bisimilar S Q
bisimilar_trans {S} {R} {Q} z y = (
  chain S R Q z.0 y.0 z.1 y.1,
  chained S R Q z.0 y.0 z.1 y.1,
  λ w i. let v = z.2 w i in let u = y.2 v.0 v.1 in (u.0, u.1, to_chain S R Q z.0 y.0 z.1 y.1 w v.0 u.0 v.2 u.2),
  λ u i. let v = y.3 u i in let w = z.3 v.0 v.1 in (w.0, w.1, to_chain S R Q z.0 y.0 z.1 y.1 w.0 v.0 u w.2 v.2),
)

-- bisimilarity of worlds
pub worlds_sym : (S R : Kripke) (w v : ℕ) → BisimilarWorlds S w R v → BisimilarWorlds R v S w
worlds_sym S R w v b = (
  λ v w. b.0 w v,
  record {
    agents = sym b.1.agents;
    atoms = sym b.1.atoms;
    within = λ v w h. let t = b.1.within w v h in (t.1, t.0);
    truth = λ v w h. sym (b.1.truth w v h);
    forth = λ a v w x h i. b.1.back a w v x h i;
    back = λ a v w u h i. b.1.forth a w v u h i;
  },
  b.2,
)

pub worlds_trans : (S R Q : Kripke) (w v u : ℕ) → BisimilarWorlds S w R v → BisimilarWorlds R v Q u → BisimilarWorlds S w Q u
worlds_trans S R Q w v u z y = (
  chain S R Q z.0 y.0 z.1 y.1,
  chained S R Q z.0 y.0 z.1 y.1,
  to_chain S R Q z.0 y.0 z.1 y.1 w v u z.2 y.2,
)
