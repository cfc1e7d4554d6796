-- The reached part of a state, and the quotient by kinds, are bisimilar to it; the quotient of a state whose worlds are all reached is its contraction.
use Rattle.std.proofs.Common.{◌≡◌, ℕ, ◌<◌, Bool, true, ◌&&◌, refl, sym, ap, ap₂, subst, ◌∙◌, Less, Equal, IsTrue, nat_lt, ◌==◌, lt_trans}
use Rattle.std.specs.Ordering.{nat_cmp}
use Rattle.std.specs.Cmp.{nat_cmp_is}
use Rattle.std.proofs.lemmas.Cmp.{tied_itself}
use Rattle.ep_theory.specs.Rising.{IsIn}
use Rattle.ep_theory.specs.Kripke.{Kripke, IsState, links_of, truth_of}
use Rattle.ep_theory.specs.Kind.{kind_cmp, kind}
use Rattle.ep_theory.specs.Bisimulation.{IsBisimulation, Bisimilar}
use Rattle.ep_theory.specs.Canonical.{Reached, start, step, Contracts}
use Rattle.ep_theory.specs.Ranks.{RanksAt}
use Rattle.ep_theory.specs.Image.{IsImage}
use Rattle.ep_theory.proofs.lists.Orders.{kinds}
use Rattle.ep_theory.proofs.kinds.Alike.{alike, answered}
use Rattle.ep_theory.proofs.states.Unique.{links_within, numbers}
use Rattle.ep_theory.proofs.lists.Lists.{at_All, equal_from_test, test_itself}
use Rattle.ep_theory.proofs.kinds.FromKinds.{less_from_test, test_from_less, one_settled, three, three_back}
use Rattle.ep_theory.proofs.kinds.Later.{order_at_worlds}

module _ (S Q : Kripke) (keep : ℕ → Bool) (number : ℕ → ℕ) (s : IsState S) (q : IsState Q) (m : IsImage S keep number Q)
    (closed : (a w u : ℕ) → IsIn (w, u) (links_of S a) → IsTrue (keep w) → IsTrue (keep u))
    (kept : (w : ℕ) → IsIn w S.designated → IsTrue (keep w))
    (answers : (a w v u : ℕ) → v < S.worlds → IsTrue (keep w) → IsTrue (keep v) → number w ≡ number v → IsIn (w, u) (links_of S a) → (x : ℕ) × IsIn (v, x) (links_of S a) × (number u ≡ number x)) where
  -- each kept world is related to its number
  abbrev pub graph : ℕ → ℕ → Bool
  graph w c = nat_lt w S.worlds && keep w && (number w == c)

  pub to_graph : (w : ℕ) → w < S.worlds → IsTrue (keep w) → IsTrue (graph w (number w))
  to_graph w a k = three_back (nat_lt w S.worlds) (keep w) (number w == number w) (test_from_less w S.worlds a) k (test_itself (number w))

  from_graph : (w c : ℕ) → IsTrue (graph w c) → (w < S.worlds) × IsTrue (keep w) × (number w ≡ c)
  from_graph w c h =
      let t = three (nat_lt w S.worlds) (keep w) (number w == c) h in
      (less_from_test w S.worlds t.0, t.1, equal_from_test (number w) c t.2)

  pub image_bisimulation : IsBisimulation graph S Q
  image_bisimulation = record {
    agents = m.agents;
    atoms = m.atoms;
    within = λ w c h. let t = from_graph w c h in (t.0, subst (λ x. x < Q.worlds) t.2 (m.within w t.0 t.1));
    truth = λ w c h. let t = from_graph w c h in m.truth w t.0 t.1 ∙ ap (truth_of Q) t.2;
    forth = λ a w c u h i.
        let t = from_graph w c h in
        let k : IsTrue (keep u) = closed a w u i t.1 in
        (number u, subst (λ x. IsIn (x, number u) (links_of Q a)) t.2 (m.link a w u i t.1 k), to_graph u (links_within S s a w u i).1 k);
    back = λ a w c d h i.
        let t = from_graph w c h in
        let l = m.linked a c d i in
        let x = answers a l.0 w l.1 t.0 l.3 t.1 (l.5 ∙ sym t.2) l.2 in
        (x.0, x.1, subst (λ e. IsTrue (graph x.0 e)) (sym x.2 ∙ l.6) (to_graph x.0 (links_within S s a w x.0 x.1).1 (closed a w x.0 x.1 t.1)));
  }

  pub image_bisimilar : Bisimilar S Q
  image_bisimilar = (
    graph,
    image_bisimulation,
    λ w i. (number w, m.designated w i (kept w i), to_graph w (at_All (λ x. x < S.worlds) w S.designated s.designated_within i) (kept w i)),
    λ c i. let w = m.from_designated c i in
        (w.0, w.1, subst (λ e. IsTrue (graph w.0 e)) w.3 (to_graph w.0 (at_All (λ x. x < S.worlds) w.0 S.designated s.designated_within w.1) w.2)),
  )

  -- a walk of S is a walk of Q
  walk : (w : ℕ) → Reached S w → Reached Q (number w) × IsTrue (keep w)
  walk w (start i) = (start (m.designated w i (kept w i)), kept w i)
  walk w (step a u r i) =
      let t = walk u r in
      let k : IsTrue (keep w) = closed a u w i t.1 in
      (step a (number u) t.0 (m.link a u w i t.1 k), k)

  pub image_reached : ((w : ℕ) → w < S.worlds → IsTrue (keep w) → Reached S w) → (c : ℕ) → c < Q.worlds → Reached Q c
  image_reached f c h =
      let w = m.onto c h in
      subst (Reached Q) w.3 (walk w.0 (f w.0 w.1 w.2)).0

-- the reached part: the numbers of two worlds differ
module _ (S Q : Kripke) (keep : ℕ → Bool) (number : ℕ → ℕ) (s : IsState S) (q : IsState Q) (m : IsImage S keep number Q)
    (reached : (w : ℕ) → w < S.worlds → IsTrue (keep w) → Reached S w)
    (unreached : (w : ℕ) → Reached S w → IsTrue (keep w))
    (apart : (w v : ℕ) → w < S.worlds → v < S.worlds → IsTrue (keep w) → IsTrue (keep v) → number w ≡ number v → w ≡ v) where
  part_closed : (a w u : ℕ) → IsIn (w, u) (links_of S a) → IsTrue (keep w) → IsTrue (keep u)
  part_closed a w u i k = unreached u (step a w (reached w (links_within S s a w u i).0 k) i)

  part_answers : (a w v u : ℕ) → v < S.worlds → IsTrue (keep w) → IsTrue (keep v) → number w ≡ number v → IsIn (w, u) (links_of S a) → (x : ℕ) × IsIn (v, x) (links_of S a) × (number u ≡ number x)
  part_answers a w v u b k l e i = (u, subst (λ x. IsIn (x, u) (links_of S a)) (apart w v (links_within S s a w u i).0 b k l e) i, refl)

  pub part_bisimilar : Bisimilar S Q
  part_bisimilar = image_bisimilar S Q keep number s q m part_closed (λ w i. unreached w (start i)) part_answers

  pub part_reached : (c : ℕ) → c < Q.worlds → Reached Q c
  part_reached = image_reached S Q keep number s q m part_closed (λ w i. unreached w (start i)) part_answers reached

-- the quotient of the worlds that are kept by the order of kinds
module _ (S Q : Kripke) (keep : ℕ → Bool) (class : ℕ → ℕ) (s : IsState S) (q : IsState Q) (m : IsImage S keep class Q)
    (closed : (a w u : ℕ) → IsIn (w, u) (links_of S a) → IsTrue (keep w) → IsTrue (keep u))
    (kept : (w : ℕ) → IsIn w S.designated → IsTrue (keep w))
    (ranks : (w v : ℕ) → w < S.worlds → v < S.worlds → IsTrue (keep w) → IsTrue (keep v) → nat_cmp (class w) (class v) ≡ kind_cmp S.worlds (kind S S.worlds w) (kind S S.worlds v)) where
  kind_from_class : (w v : ℕ) → w < S.worlds → v < S.worlds → IsTrue (keep w) → IsTrue (keep v) → class w ≡ class v → kind S S.worlds w ≡ kind S S.worlds v
  kind_from_class w v a b k l e = (kinds S.worlds).same (kind S S.worlds w) (kind S S.worlds v)
      (sym (ranks w v a b k l) ∙ subst (λ t. nat_cmp (class w) t ≡ Equal) e (tied_itself numbers.total (class w)))

  class_from_kind : (w v : ℕ) → w < S.worlds → v < S.worlds → IsTrue (keep w) → IsTrue (keep v) → kind S S.worlds w ≡ kind S S.worlds v → class w ≡ class v
  class_from_kind w v a b k l e = numbers.same (class w) (class v)
      (ranks w v a b k l ∙ subst (λ t. kind_cmp S.worlds (kind S S.worlds w) t ≡ Equal) e (tied_itself (kinds S.worlds).total (kind S S.worlds w)))

  quotient_answers : (a w v u : ℕ) → v < S.worlds → IsTrue (keep w) → IsTrue (keep v) → class w ≡ class v → IsIn (w, u) (links_of S a) → (x : ℕ) × IsIn (v, x) (links_of S a) × (class u ≡ class x)
  quotient_answers a w v u b k l e i =
      let wu = links_within S s a w u i in
      let x = answered S S S.worlds w v (one_settled S s w v wu.0 b (kind_from_class w v wu.0 b k l e)) a u i in
      (x.0, x.1, class_from_kind u x.0 wu.1 (links_within S s a v x.0 x.1).1 (closed a w u i k) (closed a v x.0 x.1 l) x.2)

  pub quotient_bisimilar : Bisimilar S Q
  quotient_bisimilar = image_bisimilar S Q keep class s q m closed kept quotient_answers

  same_kinds : (k w : ℕ) → w < S.worlds → IsTrue (keep w) → kind S k w ≡ kind Q k (class w)
  same_kinds k w a h = alike (graph S Q keep class s q m closed kept quotient_answers) S Q s q
      (image_bisimulation S Q keep class s q m closed kept quotient_answers) k w (class w)
      (to_graph S Q keep class s q m closed kept quotient_answers w a h)

  quotient_rising : (c d : ℕ) → c < d → d < Q.worlds → kind_cmp Q.worlds (kind Q Q.worlds c) (kind Q Q.worlds d) ≡ Less
  quotient_rising c d l h =
      let w = m.onto c (lt_trans l h) in
      let v = m.onto d h in
      let less : nat_cmp (class w.0) (class v.0) ≡ Less = ap₂ nat_cmp w.3 v.3 ∙ sym (nat_cmp_is c d Less l) in
      let f : kind S S.worlds w.0 ≡ kind Q S.worlds c = same_kinds S.worlds w.0 w.1 w.2 ∙ ap (kind Q S.worlds) w.3 in
      let g : kind S S.worlds v.0 ≡ kind Q S.worlds d = same_kinds S.worlds v.0 v.1 v.2 ∙ ap (kind Q S.worlds) v.3 in
      order_at_worlds Q q S.worlds c d (lt_trans l h) h
      (ap₂ (kind_cmp S.worlds) (sym f) (sym g) ∙ sym (ranks w.0 v.0 w.1 v.1 w.2 v.2) ∙ less)

  pub quotient_contracts : ((w : ℕ) → w < S.worlds → IsTrue (keep w) → Reached S w) → Contracts S Q
  quotient_contracts reached = record {
    valid = q;
    canonical = record {
      reached = image_reached S Q keep class s q m closed kept quotient_answers reached;
      rising = quotient_rising;
    };
    bisimilar = quotient_bisimilar;
  }

-- the same where every world is reached, as it is in the reached part of a state
pub contracts_from_ranks : (S Q : Kripke) (class : ℕ → ℕ) → IsState S → IsState Q → ((w : ℕ) → w < S.worlds → Reached S w) → RanksAt S S.worlds class → IsImage S (λ _. true) class Q → Contracts S Q
contracts_from_ranks S Q class s q reached ranks m =
    quotient_contracts S Q (λ _. true) class s q m (λ _ _ _ _ _. refl) (λ _ _. refl) (λ w v a b _ _. ranks w v a b) (λ w h _. reached w h)
