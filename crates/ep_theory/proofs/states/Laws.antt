-- What the laws of the crate say, put together.
use Rattle.std.proofs.Common.{◌≡◌, ℕ, ◌<◌, ◌+◌, ◌↔◌, sym, ap, subst, ◌∙◌, Less, Equal, Greater}
use Rattle.ep_theory.specs.Kripke.{Kripke, IsState}
use Rattle.ep_theory.specs.Kind.{Kind, kind, kind_cmp}
use Rattle.ep_theory.specs.Bisimulation.{Bisimilar, BisimilarWorlds}
use Rattle.ep_theory.specs.Canonical.{Contracts}
use Rattle.ep_theory.specs.Ranks.{RanksAt}
use Rattle.ep_theory.specs.Contraction.{contraction}
use Rattle.ep_theory.proofs.states.Unique.{unique, numbers}
use Rattle.ep_theory.proofs.states.Equivalence.{bisimilar_sym, bisimilar_trans}
use Rattle.ep_theory.proofs.states.Exists.{contraction-contracts}
use Rattle.ep_theory.proofs.kinds.FromKinds.{bisimilar-from_kinds, bisimilar-from_kinds_of_two, kinds_from_bisimilar}
use Rattle.ep_theory.proofs.lists.Orders.{kinds}
use Rattle.std.proofs.lemmas.Cmp.{tied_itself}
use Rattle.std.specs.Ordering.{nat_cmp, ordering_reverse}

pub equal_contractions : (S R C D : Kripke) → Contracts S C → Contracts R D → (C ≡ D) ↔ Bisimilar S R
equal_contractions S R C D f g = (
  λ e. bisimilar_trans f.bisimilar (subst (λ T. Bisimilar T R) (sym e) (bisimilar_sym g.bisimilar)),
  λ b. unique C D f.valid g.valid f.canonical g.canonical (bisimilar_trans (bisimilar_sym f.bisimilar) (bisimilar_trans b g.bisimilar)),
)

pub kinds_decide : (S R : Kripke) → IsState S → IsState R → S.agents ≡ R.agents → S.atoms ≡ R.atoms → (w v : ℕ) → w < S.worlds → v < R.worlds →
    (kind S (S.worlds + R.worlds) w ≡ kind R (S.worlds + R.worlds) v) ↔ BisimilarWorlds S w R v
kinds_decide S R s r g m w v a b = (bisimilar-from_kinds_of_two S R s r g m w v a b, λ z. kinds_from_bisimilar S R s r w v z (S.worlds + R.worlds))

-- numbers that order the worlds as their kinds do are equal exactly at bisimilar worlds
pub classes_decide : (S : Kripke) (class : ℕ → ℕ) → IsState S → RanksAt S S.worlds class → (w v : ℕ) → w < S.worlds → v < S.worlds → (class w ≡ class v) ↔ BisimilarWorlds S w S v
classes_decide S class s r w v a b = (
  λ e. bisimilar-from_kinds S s w v a b ((kinds S.worlds).same (kind S S.worlds w) (kind S S.worlds v)
      (sym (r w v a b) ∙ subst (λ t. nat_cmp (class w) t ≡ Equal) e (tied_itself numbers.total (class w)))),
  λ z. numbers.same (class w) (class v)
      (r w v a b ∙ subst (λ t. kind_cmp S.worlds (kind S S.worlds w) t ≡ Equal) (kinds_from_bisimilar S S s s w v z S.worlds) (tied_itself (kinds S.worlds).total (kind S S.worlds w))),
)

-- worlds of one state are bisimilar exactly if their kinds are equal at the level of the number of worlds
pub one_state_decides : (S : Kripke) → IsState S → (w v : ℕ) → w < S.worlds → v < S.worlds → (kind S S.worlds w ≡ kind S S.worlds v) ↔ BisimilarWorlds S w S v
one_state_decides S s w v a b = (bisimilar-from_kinds S s w v a b, λ z. kinds_from_bisimilar S S s s w v z S.worlds)

-- a state has one contraction
pub one_contraction : (S C D : Kripke) → Contracts S C → Contracts S D → C ≡ D
one_contraction S C D f g = unique C D f.valid g.valid f.canonical g.canonical (bisimilar_trans (bisimilar_sym f.bisimilar) g.bisimilar)

-- it is the one that the definition makes
pub only_contraction : (S C : Kripke) → IsState S → Contracts S C → C ≡ contraction S
only_contraction S C s f = one_contraction S C (contraction S) f (contraction-contracts S s)

-- the contraction of a contraction is that contraction
pub contraction_once : (S : Kripke) → IsState S → contraction (contraction S) ≡ contraction S
contraction_once S s =
    let g = contraction-contracts S s in
    let h = contraction-contracts (contraction S) g.valid in
    unique (contraction (contraction S)) (contraction S) h.valid g.valid h.canonical g.canonical (bisimilar_sym h.bisimilar)

-- the order of the kinds of one level is strict and total
pub kinds_turned : (k : ℕ) (x y : Kind k) → (kind_cmp k x y ≡ Less) ↔ (kind_cmp k y x ≡ Greater)
kinds_turned k x y = (
  λ h. (kinds k).total.antisymm y x ∙ ap ordering_reverse h,
  λ h. (kinds k).total.antisymm x y ∙ ap ordering_reverse h,
)

pub kinds_same : (k : ℕ) (x y : Kind k) → (kind_cmp k x y ≡ Equal) ↔ (x ≡ y)
kinds_same k x y = (
  (kinds k).same x y,
  λ e. subst (λ t. kind_cmp k x t ≡ Equal) e (tied_itself (kinds k).total x),
)

pub kinds_transitive : (k : ℕ) (x y z : Kind k) → kind_cmp k x y ≡ Less → kind_cmp k y z ≡ Less → kind_cmp k x z ≡ Less
kinds_transitive k x y z = (kinds k).total.trans x y z
