-- What a canonical state is good for.
use Rattle.std.proofs.Common.{◌≡◌, ℕ, ◌<◌, Bool, true, ◌&&◌, ◌==◌, nat_lt, refl, sym, ap, subst, IsTrue, ◌↔◌, Less}
use Rattle.ep_theory.specs.Rising.{IsIn}
use Rattle.ep_theory.specs.Kripke.{Kripke, IsState, links_of, truth_of}
use Rattle.ep_theory.specs.Kind.{kind, kind_cmp}
use Rattle.ep_theory.specs.Bisimulation.{IsBisimulation, Bisimilar, BisimilarWorlds}
use Rattle.ep_theory.specs.Canonical.{IsCanonical, Contracts}
use Rattle.ep_theory.proofs.lists.Orders.{kinds}
use Rattle.ep_theory.proofs.lists.Lists.{at_All, not_below_itself, equal_from_test, test_itself}
use Rattle.ep_theory.proofs.kinds.FromKinds.{kinds_from_bisimilar, less_from_test, test_from_less, three, three_back}
use Rattle.ep_theory.proofs.states.Unique.{unique, links_within}
use Rattle.ep_theory.proofs.lists.Diagonal.{Tri, below, level, above, tri}

-- no two worlds of a canonical state are bisimilar
pub apart_in_canonical : (S : Kripke) → IsState S → IsCanonical S → (w v : ℕ) → w < S.worlds → v < S.worlds → BisimilarWorlds S w S v → w ≡ v
apart_in_canonical S s c w v a b z = split (tri w v)
  where
    equal : kind S S.worlds w ≡ kind S S.worlds v
    equal = kinds_from_bisimilar S S s s w v z S.worlds

    split : Tri w v → w ≡ v
    split (below l) = absurd (not_below_itself (kind_cmp S.worlds) (kinds S.worlds) (kind S S.worlds v) (subst (λ x. kind_cmp S.worlds x (kind S S.worlds v) ≡ Less) equal (c.rising w v l b)))
    split (level q) = q
    split (above g) = absurd (not_below_itself (kind_cmp S.worlds) (kinds S.worlds) (kind S S.worlds w) (subst (λ x. kind_cmp S.worlds x (kind S S.worlds w) ≡ Less) (sym equal) (c.rising v w g a)))

same_world : Kripke → ℕ → ℕ → Bool
same_world S w v = nat_lt w S.worlds && true && (w == v)

to_same_world : (S : Kripke) (w : ℕ) → w < S.worlds → IsTrue (same_world S w w)
unfolding same_world
to_same_world S w a = three_back (nat_lt w S.worlds) true (w == w) (test_from_less w S.worlds a) refl (test_itself w)

from_same_world : (S : Kripke) (w v : ℕ) → IsTrue (same_world S w v) → (w < S.worlds) × (w ≡ v)
unfolding same_world
from_same_world S w v h =
    let t = three (nat_lt w S.worlds) true (w == v) h in
    (less_from_test w S.worlds t.0, equal_from_test w v t.2)

itself : (S : Kripke) → IsState S → IsBisimulation (same_world S) S S
itself S s = record {
  agents = refl;
  atoms = refl;
  within = λ w v h. let t = from_same_world S w v h in (t.0, subst (λ x. x < S.worlds) t.1 t.0);
  truth = λ w v h. ap (truth_of S) (from_same_world S w v h).1;
  forth = λ a w v u h i. (u, subst (λ x. IsIn (x, u) (links_of S a)) (from_same_world S w v h).1 i, to_same_world S u (links_within S s a w u i).1);
  back = λ a w v x h i. (x, subst (λ y. IsIn (y, x) (links_of S a)) (sym (from_same_world S w v h).1) i, to_same_world S x (links_within S s a v x i).1);
}

pub worlds_refl : (S : Kripke) → IsState S → (w : ℕ) → w < S.worlds → BisimilarWorlds S w S w
worlds_refl S s w l = (same_world S, itself S s, to_same_world S w l)

pub bisimilar_refl : (S : Kripke) → IsState S → Bisimilar S S
bisimilar_refl S s = (
  same_world S,
  itself S s,
  λ w i. (w, i, to_same_world S w (at_All (λ x. x < S.worlds) w S.designated s.designated_within i)),
  λ v i. (v, i, to_same_world S v (at_All (λ x. x < S.worlds) v S.designated s.designated_within i)),
)

-- a state is canonical exactly if it is its contraction
pub canonical_is_own_contraction : (S C : Kripke) → IsState S → Contracts S C → IsCanonical S ↔ (C ≡ S)
canonical_is_own_contraction S C s f = (
  λ h. sym (unique S C s f.valid h f.canonical f.bisimilar),
  λ e. subst IsCanonical e f.canonical,
)
