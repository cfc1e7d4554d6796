-- Two canonical states that are bisimilar are equal.
use Rattle.std.proofs.Common.{◌≡◌, ℕ, zero, suc, ◌<◌, ◌+◌, List, [], ◌∷◌, refl, sym, ap₂, subst, ◌∙◌, Less, Equal, arith, IsTrue, length, get_or}
use Rattle.std.specs.Ordering.{nat_cmp}
use Rattle.std.specs.Cmp.{nat_cmp_total}
use Rattle.std.specs.List.{AllByRecursion}
use Rattle.std.proofs.lemmas.Cmp.{on_total, then_total, ranked, by_ranked}
use Rattle.ep_theory.specs.Rising.{IsIn, IsRising}
use Rattle.ep_theory.specs.Kripke.{Kripke, IsState, pair_cmp, links_of}
use Rattle.ep_theory.specs.Kind.{kind_cmp, kind}
use Rattle.ep_theory.specs.Bisimulation.{Bisimilar}
use Rattle.ep_theory.specs.Canonical.{Reached, start, step, IsCanonical}
use Rattle.ep_theory.proofs.lists.Orders.{IsExact, kinds, then-equal}
use Rattle.ep_theory.proofs.lists.Lists.{at_All, same_rising}
use Rattle.ep_theory.proofs.kinds.Alike.{alike}
use Rattle.ep_theory.proofs.kinds.Levels.{less_later}
use Rattle.ep_theory.proofs.lists.Diagonal.{diagonal, same_count, only_diagonal}

numbers_same : (x y : ℕ) → nat_cmp x y ≡ Equal → x ≡ y
numbers_same x y h = by_ranked (x < y) (x ≡ y) (y < x) (nat_cmp x y) (ranked x y (nat_cmp x y) refl) (λ l _. cc) (λ _ q. q) (λ g _. cc)

pub numbers : IsExact nat_cmp
numbers = record { total = nat_cmp_total; same = numbers_same }

pairs_same : (p q : ℕ × ℕ) → pair_cmp p q ≡ Equal → p ≡ q
pairs_same p q h =
    let both = then-equal (nat_cmp p.0 q.0) (nat_cmp p.1 q.1) h in
    λ i. (numbers_same p.0 q.0 both.0 i, numbers_same p.1 q.1 both.1 i)

pub pairs : IsExact pair_cmp
pairs = record {
  total = then_total (on_total (λ (p : ℕ × ℕ). p.0) nat_cmp_total) (on_total (λ (p : ℕ × ℕ). p.1) nat_cmp_total);
  same = pairs_same;
}

-- a default for the places past the end
pub same_places : {A : Type 0} (d : A) (xs ys : List A) → length xs ≡ length ys → ((i : ℕ) → i < length xs → get_or xs i d ≡ get_or ys i d) → xs ≡ ys
same_places d [] [] n h = refl
same_places d [] (y ∷ ys) n h = cc
same_places d (x ∷ xs) [] n h = cc
same_places d (x ∷ xs) (y ∷ ys) n h = ap₂ (λ a as'. a ∷ as') (h 0 (omega arith)) (same_places d xs ys (cc) (λ i l. h (suc i) (omega arith)))

at_place : {A : Type 0} (P : A → Type 0) (d : A) (xs : List A) (i : ℕ) → P d → AllByRecursion P xs → P (get_or xs i d)
at_place P d [] i h a = h
at_place P d (x ∷ xs) zero h a = a.0
at_place P d (x ∷ xs) (suc i) h a = at_place P d xs i h a.1

pub links_within : (S : Kripke) → IsState S → (a w u : ℕ) → IsIn (w, u) (links_of S a) → (w < S.worlds) × (u < S.worlds)
links_within S s a w u i =
    at_All (λ p. (p.0 < S.worlds) × (p.1 < S.worlds)) (w, u) (links_of S a)
    (at_place (λ (ps : List (ℕ × ℕ)). AllByRecursion (λ p. (p.0 < S.worlds) × (p.1 < S.worlds)) ps) [] S.links a tt s.within) i

pub links_rising : (S : Kripke) → IsState S → (a : ℕ) → IsRising pair_cmp (links_of S a)
links_rising S s a = at_place (λ ps. IsRising pair_cmp ps) [] S.links a tt s.rising

module _ (C D : Kripke) (c : IsState C) (d : IsState D) (cc' : IsCanonical C) (dc : IsCanonical D) (b : Bisimilar C D) where
  met_c : (w : ℕ) → Reached C w → (v : ℕ) × IsTrue (b.0 w v)
  met_c w (start i) = let v = b.2 w i in (v.0, v.2)
  met_c w (step a u r i) =
      let v = met_c u r in
      let x = b.1.forth a u v.0 w v.1 i in
      (x.0, x.2)

  met_d : (v : ℕ) → Reached D v → (w : ℕ) × IsTrue (b.0 w v)
  met_d v (start i) = let w = b.3 v i in (w.0, w.2)
  met_d v (step a x r i) =
      let w = met_d x r in
      let u = b.1.back a w.0 x v w.1 i in
      (u.0, u.2)

  kinds_equal : (w v : ℕ) → IsTrue (b.0 w v) → kind C (C.worlds + D.worlds) w ≡ kind D (C.worlds + D.worlds) v
  kinds_equal w v z = alike b.0 C D c d b.1 (C.worlds + D.worlds) w v z

  rises_c : (w v : ℕ) → w < v → v < C.worlds → kind_cmp (C.worlds + D.worlds) (kind C (C.worlds + D.worlds) w) (kind C (C.worlds + D.worlds) v) ≡ Less
  rises_c w v l h = less_later C C C.worlds (C.worlds + D.worlds) w v (omega arith) (cc'.rising w v l h)

  rises_d : (w v : ℕ) → w < v → v < D.worlds → kind_cmp (C.worlds + D.worlds) (kind D (C.worlds + D.worlds) w) (kind D (C.worlds + D.worlds) v) ≡ Less
  rises_d w v l h = less_later D D D.worlds (C.worlds + D.worlds) w v (omega arith) (dc.rising w v l h)

  own : (w : ℕ) → w < C.worlds → IsTrue (b.0 w w)
  own = diagonal (kind_cmp (C.worlds + D.worlds)) (kinds (C.worlds + D.worlds)) C.worlds D.worlds (kind C (C.worlds + D.worlds)) (kind D (C.worlds + D.worlds)) b.0 b.1.within kinds_equal rises_c rises_d (λ w h. met_c w (cc'.reached w h)) (λ v h. met_d v (dc.reached v h))

  worlds : C.worlds ≡ D.worlds
  worlds = same_count (kind_cmp (C.worlds + D.worlds)) (kinds (C.worlds + D.worlds)) C.worlds D.worlds (kind C (C.worlds + D.worlds)) (kind D (C.worlds + D.worlds)) b.0 b.1.within kinds_equal rises_c rises_d (λ w h. met_c w (cc'.reached w h)) (λ v h. met_d v (dc.reached v h))

  itself : (w v : ℕ) → IsTrue (b.0 w v) → w ≡ v
  itself = only_diagonal (kind_cmp (C.worlds + D.worlds)) (kinds (C.worlds + D.worlds)) C.worlds D.worlds (kind C (C.worlds + D.worlds)) (kind D (C.worlds + D.worlds)) b.0 b.1.within kinds_equal rises_c rises_d (λ w h. met_c w (cc'.reached w h)) (λ v h. met_d v (dc.reached v h))

  truths : C.truth ≡ D.truth
  truths = same_places [] C.truth D.truth (c.truths ∙ worlds ∙ sym d.truths)
      (λ i h. b.1.truth i i (own i (subst (λ n. i < n) c.truths h)))

  -- a link of C is a link of D, and the other way round
  link_forth : (a w u : ℕ) → IsIn (w, u) (links_of C a) → IsIn (w, u) (links_of D a)
  link_forth a w u i =
      let x = b.1.forth a w w u (own w (links_within C c a w u i).0) i in
      subst (λ t. IsIn (w, t) (links_of D a)) (sym (itself u x.0 x.2)) x.1

  link_back : (a w u : ℕ) → IsIn (w, u) (links_of D a) → IsIn (w, u) (links_of C a)
  link_back a w u i =
      let x = b.1.back a w w u (own w (subst (λ n. w < n) (sym worlds) (links_within D d a w u i).0)) i in
      subst (λ t. IsIn (w, t) (links_of C a)) (itself x.0 u x.2) x.1

  links : C.links ≡ D.links
  links = same_places [] C.links D.links (c.relations ∙ b.1.agents ∙ sym d.relations)
      (λ a _. same_rising pair_cmp pairs (links_of C a) (links_of D a) (links_rising C c a) (links_rising D d a)
      (λ p i. link_forth a p.0 p.1 i) (λ p i. link_back a p.0 p.1 i))

  designated : C.designated ≡ D.designated
  designated = same_rising nat_cmp numbers C.designated D.designated c.designated_rising d.designated_rising
      (λ w i. let v = b.2 w i in subst (λ t. IsIn t D.designated) (sym (itself w v.0 v.2)) v.1)
      (λ v i. let w = b.3 v i in subst (λ t. IsIn t C.designated) (itself w.0 v w.2) w.1)

  pub unique : C ≡ D
  unique = λ i. record { worlds = worlds i; agents = b.1.agents i; atoms = b.1.atoms i; truth = truths i; links = links i; designated = designated i }
