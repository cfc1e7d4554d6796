-- The product of a state and an action is a state, and bisimilar states have bisimilar products.
use Rattle.std.proofs.Common.{◌≡◌, ℕ, ◌<◌, Bool, false, ◌&&◌, ◌==◌, nat_lt, List, [], length, get_or, IsTrue, sym, ◌∙◌, ap, subst, arith, ◌↔◌, Option, Some, None}
use Rattle.std.specs.List.{AllByRecursion, find}
use Rattle.ep_logic.specs.declared.formula.Node.{Node}
use Rattle.ep_theory.specs.Rising.{IsIn, IsRising}
use Rattle.ep_logic.specs.Numbers.{pairs_where, has_number, has_pair, table}
use Rattle.ep_theory.specs.Kripke.{Kripke, IsState, pair_cmp, links_of, truth_of}
use Rattle.ep_theory.specs.Truth.{Truth}
use Rattle.ep_theory.specs.Tested.{is_true}
use Rattle.ep_theory.specs.Events.{EventModel, IsAction, event_at, event_links}
use Rattle.ep_theory.specs.Product.{IsApplicable, applies, places, place_at, atom_by, atom_after, truth_after, links_both, is_designated, product_of}
use Rattle.ep_theory.specs.Bisimulation.{IsBisimulation, Bisimilar}
use Rattle.ep_theory.proofs.lists.Bools.{and_parts, and_whole}
use Rattle.ep_theory.proofs.lists.Lists.{at_All, All-from_each, equal_from_test, test_itself}
use Rattle.ep_theory.proofs.lists.Filters.{All-map, IsIn-at}
use Rattle.ep_theory.proofs.states.Exists.{length-map, get_or-map_within, not_empty, some_element}
use Rattle.ep_theory.proofs.kinds.FromKinds.{less_from_test, test_from_less}
use Rattle.ep_theory.proofs.lists.NumbersLemmas.{in_numbers, from_numbers, rising_numbers, in_pairs, from_pairs, rising_pairs, to_has_number, from_has_number, to_has_pair, from_has_pair, from_table, from_rows, place_of}
use Rattle.ep_logic.proofs.CallerLemmas.{length-table, get_or-table}
use Rattle.ep_theory.proofs.formulas.Decided.{is_true_decides, same_test}
use Rattle.ep_theory.proofs.formulas.SameTruth.{agree}
use Rattle.ep_theory.proofs.states.Equivalence.{bisimilar_sym}

-- the places are the pairs of a world and an event that applies there
pub in_places : (S : Kripke) (A : EventModel) (w e : ℕ) → w < S.worlds → e < length A.events → IsTrue (applies S A w e) → IsIn (w, e) (places S A)
unfolding places
in_places S A w e l k h = in_pairs (applies S A) (length A.events) S.worlds w e l k h

-- what is known of a place
pub record IsPlace (S : Kripke) (A : EventModel) (p : ℕ × ℕ) : Type 0 where
  pub world : p.0 < S.worlds
  pub event : p.1 < length A.events
  pub applies_there : IsTrue (applies S A p.0 p.1)

pub from_places : (S : Kripke) (A : EventModel) (p : ℕ × ℕ) → IsIn p (places S A) → IsPlace S A p
unfolding places
from_places S A p i =
    let c = from_pairs (applies S A) (length A.events) S.worlds p i in
    record { world = c.0; event = c.1; applies_there = c.2 }

pub rising_places : (S : Kripke) (A : EventModel) → IsRising pair_cmp (places S A)
unfolding places
rising_places S A = rising_pairs (applies S A) (length A.events) S.worlds

pub is_place : (S : Kripke) (A : EventModel) (i : ℕ) → i < length (places S A) → IsPlace S A (place_at S A i)
is_place S A i l = from_places S A (place_at S A i) (IsIn-at (places S A) i (0, 0) l)

-- the number of a place
pub number_of : (S : Kripke) (A : EventModel) (w e : ℕ) → w < S.worlds → e < length A.events → IsTrue (applies S A w e) → (i : ℕ) × (i < length (places S A)) × (place_at S A i ≡ (w, e))
number_of S A w e l k h = place_of (w, e) (places S A) (0, 0) (in_places S A w e l k h)

module _ (S : Kripke) (A : EventModel) where
  -- a link of the product is a link of the worlds and of the events
  pub from_link : (a i j : ℕ) → IsIn (i, j) (links_of (product_of S A) a) →
      (a < S.agents) × (i < length (places S A)) × (j < length (places S A)) × IsIn ((place_at S A i).0, (place_at S A j).0) (links_of S a) × IsIn ((place_at S A i).1, (place_at S A j).1) (event_links A a)
  from_link a i j h =
      let r = from_rows (λ a. pairs_where (λ i j. links_both S A a (place_at S A i) (place_at S A j)) (length (places S A))) S.agents a (i, j) h in
      let c = from_pairs (λ i j. links_both S A a (place_at S A i) (place_at S A j)) (length (places S A)) (length (places S A)) (i, j) r.1 in
      let b = and_parts (has_pair (links_of S a) (place_at S A i).0 (place_at S A j).0) (has_pair (event_links A a) (place_at S A i).1 (place_at S A j).1) c.2 in
      (r.0, c.0, c.1, from_has_pair (links_of S a) (place_at S A i).0 (place_at S A j).0 b.0, from_has_pair (event_links A a) (place_at S A i).1 (place_at S A j).1 b.1)

  pub to_link : (a i j : ℕ) → a < S.agents → i < length (places S A) → j < length (places S A) → IsIn ((place_at S A i).0, (place_at S A j).0) (links_of S a) → IsIn ((place_at S A i).1, (place_at S A j).1) (event_links A a) →
      IsIn (i, j) (links_of (product_of S A) a)
  to_link a i j l m n h k =
      let f : ℕ → List (ℕ × ℕ) = λ a. pairs_where (λ i j. links_both S A a (place_at S A i) (place_at S A j)) (length (places S A)) in
      subst (λ r. IsIn {A = ℕ × ℕ} (i, j) r) (sym (get_or-table f S.agents a [] l))
      (in_pairs (λ i j. links_both S A a (place_at S A i) (place_at S A j)) (length (places S A)) (length (places S A)) i j m n
      (and_whole (has_pair (links_of S a) (place_at S A i).0 (place_at S A j).0) (has_pair (event_links A a) (place_at S A i).1 (place_at S A j).1)
      (to_has_pair (links_of S a) (place_at S A i).0 (place_at S A j).0 h) (to_has_pair (event_links A a) (place_at S A i).1 (place_at S A j).1 k)))

  -- a designated world of the product has a designated world and a designated event
  pub from_designated : (i : ℕ) → IsIn i (product_of S A).designated → (i < length (places S A)) × IsIn (place_at S A i).0 S.designated × IsIn (place_at S A i).1 A.designated
  from_designated i h =
      let c = from_numbers (λ i. is_designated S A (place_at S A i)) (length (places S A)) i h in
      let b = and_parts (has_number S.designated (place_at S A i).0) (has_number A.designated (place_at S A i).1) c.1 in
      (c.0, from_has_number S.designated (place_at S A i).0 b.0, from_has_number A.designated (place_at S A i).1 b.1)

  pub to_designated : (i : ℕ) → i < length (places S A) → IsIn (place_at S A i).0 S.designated → IsIn (place_at S A i).1 A.designated → IsIn i (product_of S A).designated
  to_designated i l h k = in_numbers (λ i. is_designated S A (place_at S A i)) (length (places S A)) i l
      (and_whole (has_number S.designated (place_at S A i).0) (has_number A.designated (place_at S A i).1) (to_has_number S.designated (place_at S A i).0 h) (to_has_number A.designated (place_at S A i).1 k))

  -- the truth list of a world of the product
  pub truth_at : (i : ℕ) → i < length (places S A) → truth_of (product_of S A) i ≡ truth_after S A (place_at S A i)
  truth_at i l = get_or-map_within (truth_after S A) (places S A) i (0, 0) [] l

  -- a designated world where a designated event applies is a designated world of the product
  pub designated_place : IsState S → IsAction A → (w e : ℕ) → IsIn w S.designated → IsIn e A.designated → Truth S w (event_at A e).pre →
      (i : ℕ) × (place_at S A i ≡ (w, e)) × IsIn i (product_of S A).designated
  designated_place s m w e h k t =
      let l : w < S.worlds = at_All (λ x. x < S.worlds) w S.designated s.designated_within h in
      let b : e < length A.events = at_All (λ x. x < length A.events) e A.designated m.designated_within k in
      let r = number_of S A w e l b ((is_true_decides S s w l (event_at A e).pre).1 t) in (
        r.0,
        r.2,
        to_designated r.0 r.1
            (subst (λ (p : ℕ × ℕ). IsIn p.0 S.designated) (sym r.2) h)
            (subst (λ (p : ℕ × ℕ). IsIn p.1 A.designated) (sym r.2) k),
      )

  some_world_of : IsState S → IsAction A → IsApplicable S A → (i : ℕ) × IsIn i (product_of S A).designated
  some_world_of s m fits =
      let w = some_element S.designated s.some_designated in
      let e = fits w.0 w.1 in
      let r = designated_place s m w.0 e.0 w.1 e.1 e.2 in
      (r.0, r.2)

  -- the product is a state
  pub product-is_state : IsState S → IsAction A → IsApplicable S A → IsState (product_of S A)
  product-is_state s m fits =
      let one = some_world_of s m fits in
      let f : ℕ → List (ℕ × ℕ) = λ a. pairs_where (λ i j. links_both S A a (place_at S A i) (place_at S A j)) (length (places S A)) in
      record {
        some_world = let l = (from_designated one.0 one.1).0 in omega arith;
        truths = length-map (truth_after S A) (places S A);
        each_truth = All-map (λ t. length t ≡ S.atoms) (truth_after S A) (places S A) (λ p i. length-table (atom_after S p.0 (event_at A p.1)) S.atoms);
        relations = length-table f S.agents;
        rising = All-from_each (λ pairs. IsRising pair_cmp pairs) (table f S.agents) (λ y i.
            let r = from_table f S.agents y i in
            subst (λ pairs. IsRising pair_cmp pairs) (sym r.2) (rising_pairs (λ i j. links_both S A r.0 (place_at S A i) (place_at S A j)) (length (places S A)) (length (places S A))));
        within = All-from_each (λ pairs. AllByRecursion (λ (p : ℕ × ℕ). (p.0 < length (places S A)) × (p.1 < length (places S A))) pairs) (table f S.agents) (λ y i.
            let r = from_table f S.agents y i in
            subst (λ pairs. AllByRecursion (λ (p : ℕ × ℕ). (p.0 < length (places S A)) × (p.1 < length (places S A))) pairs) (sym r.2)
            (All-from_each (λ (p : ℕ × ℕ). (p.0 < length (places S A)) × (p.1 < length (places S A))) (f r.0) (λ p j.
            let c = from_pairs (λ i j. links_both S A r.0 (place_at S A i) (place_at S A j)) (length (places S A)) (length (places S A)) p j in (c.0, c.1))));
        designated_rising = rising_numbers (λ i. is_designated S A (place_at S A i)) (length (places S A));
        designated_within = All-from_each (λ i. i < length (places S A)) (product_of S A).designated (λ i h. (from_designated i h).0);
        some_designated = not_empty one.0 (product_of S A).designated one.1;
      }

-- an action is applicable in both of two bisimilar states or in neither
pub applicable_alike : (S R : Kripke) (A : EventModel) → Bisimilar S R → IsApplicable S A → IsApplicable R A
applicable_alike S R A b fits v i =
    let w = b.3 v i in
    let e = fits w.0 w.1 in
    (e.0, e.1, (agree b.0 S R b.1 (event_at A e.0).pre w.0 v w.2).0 e.2)

pub applicability_alike : (S R : Kripke) (A : EventModel) → Bisimilar S R → IsApplicable S A ↔ IsApplicable R A
applicability_alike S R A b = (applicable_alike S R A b, applicable_alike R S A (bisimilar_sym b))

module _ (S R : Kripke) (A : EventModel) (s : IsState S) (r : IsState R) (m : IsAction A) (Z : ℕ → ℕ → Bool) (b : IsBisimulation Z S R) where
  -- the test answers the same at related worlds
  same : (w v : ℕ) → IsTrue (Z w v) → (f : Node) → is_true S w f ≡ is_true R v f
  same w v z f = same_test S R s r w v (Z, b, z) f

  same_atom : (w v : ℕ) → IsTrue (Z w v) → (p : ℕ) (set : Option (ℕ × Node)) → atom_by S w p set ≡ atom_by R v p set
  same_atom w v z p None = ap (λ t. get_or t p false) (b.truth w v z)
  same_atom w v z p (Some set) = same w v z set.1

  table_alike : {X : Type 0} (f g : ℕ → X) (n : ℕ) → ((i : ℕ) → f i ≡ g i) → table f n ≡ table g n
  table_alike f g n h = ap (λ f. table f n) (λ i k. h k i)

  same_truth : (p q : ℕ × ℕ) → IsTrue (Z p.0 q.0) → p.1 ≡ q.1 → truth_after S A p ≡ truth_after R A q
  same_truth p q z e =
      table_alike (atom_after S p.0 (event_at A p.1)) (atom_after R q.0 (event_at A q.1)) S.atoms
      (λ x. same_atom p.0 q.0 z x (find (λ set. set.0 == x) (event_at A p.1).sets) ∙ ap (λ e. atom_by R q.0 x (find (λ set. set.0 == x) (event_at A e).sets)) e)
      ∙ ap (table (atom_after R q.0 (event_at A q.1))) b.atoms

  -- places of related worlds and one event
  pub record ArePaired (i j : ℕ) : Type 0 where
    pub left : i < length (places S A)
    pub right : j < length (places R A)
    pub worlds : IsTrue (Z (place_at S A i).0 (place_at R A j).0)
    pub events : (place_at S A i).1 ≡ (place_at R A j).1

  abbrev pub paired : ℕ → ℕ → Bool
  paired i j = (nat_lt i (length (places S A)) && nat_lt j (length (places R A))) && (Z (place_at S A i).0 (place_at R A j).0 && ((place_at S A i).1 == (place_at R A j).1))

  pub to_paired : (i j : ℕ) → ArePaired i j → IsTrue (paired i j)
  to_paired i j p = and_whole (nat_lt i (length (places S A)) && nat_lt j (length (places R A))) (Z (place_at S A i).0 (place_at R A j).0 && ((place_at S A i).1 == (place_at R A j).1))
      (and_whole (nat_lt i (length (places S A))) (nat_lt j (length (places R A))) (test_from_less i (length (places S A)) p.left) (test_from_less j (length (places R A)) p.right))
      (and_whole (Z (place_at S A i).0 (place_at R A j).0) ((place_at S A i).1 == (place_at R A j).1) p.worlds
      (subst (λ e. IsTrue ((place_at S A i).1 == e)) p.events (test_itself (place_at S A i).1)))

  pub from_paired : (i j : ℕ) → IsTrue (paired i j) → ArePaired i j
  from_paired i j h =
      let t = and_parts (nat_lt i (length (places S A)) && nat_lt j (length (places R A))) (Z (place_at S A i).0 (place_at R A j).0 && ((place_at S A i).1 == (place_at R A j).1)) h in
      let l = and_parts (nat_lt i (length (places S A))) (nat_lt j (length (places R A))) t.0 in
      let e = and_parts (Z (place_at S A i).0 (place_at R A j).0) ((place_at S A i).1 == (place_at R A j).1) t.1 in
      record {
        left = less_from_test i (length (places S A)) l.0;
        right = less_from_test j (length (places R A)) l.1;
        worlds = e.0;
        events = equal_from_test (place_at S A i).1 (place_at R A j).1 e.1;
      }

  -- where a world of S has a place with an event, a related world of R has one with it
  answer : (p : ℕ × ℕ) (v : ℕ) → IsPlace S A p → IsTrue (Z p.0 v) → (j : ℕ) × (j < length (places R A)) × (place_at R A j ≡ (v, p.1))
  answer p v h z = number_of R A v p.1 (b.within p.0 v z).1 h.event (sym (same p.0 v z (event_at A p.1).pre) ∙ h.applies_there)

  -- and the other way round
  answer_back : (w : ℕ) (q : ℕ × ℕ) → IsPlace R A q → IsTrue (Z w q.0) → (i : ℕ) × (i < length (places S A)) × (place_at S A i ≡ (w, q.1))
  answer_back w q h z = number_of S A w q.1 (b.within w q.0 z).0 h.event (same w q.0 z (event_at A q.1).pre ∙ h.applies_there)

  product_forth : (a i j x : ℕ) → IsTrue (paired i j) → IsIn (i, x) (links_of (product_of S A) a) → (y : ℕ) × IsIn (j, y) (links_of (product_of R A) a) × IsTrue (paired x y)
  product_forth a i j x h k =
      let p = from_paired i j h in
      let l = from_link S A a i x k in
      let v = b.forth a (place_at S A i).0 (place_at R A j).0 (place_at S A x).0 p.worlds l.3 in
      let y = answer (place_at S A x) v.0 (is_place S A x l.2) v.2 in
      let world : (place_at R A y.0).0 ≡ v.0 = ap (λ (q : ℕ × ℕ). q.0) y.2 in
      let event : (place_at R A y.0).1 ≡ (place_at S A x).1 = ap (λ (q : ℕ × ℕ). q.1) y.2 in (
        y.0,
        to_link R A a j y.0 (subst (λ n. a < n) b.agents l.0) p.right y.1
            (subst (λ u. IsIn ((place_at R A j).0, u) (links_of R a)) (sym world) v.1)
            (subst (λ e. IsIn ((place_at R A j).1, e) (event_links A a)) (sym event) (subst (λ e. IsIn (e, (place_at S A x).1) (event_links A a)) p.events l.4)),
        to_paired x y.0 (record { left = l.2; right = y.1; worlds = subst (λ u. IsTrue (Z (place_at S A x).0 u)) (sym world) v.2; events = sym event }),
      )

  product_back : (a i j y : ℕ) → IsTrue (paired i j) → IsIn (j, y) (links_of (product_of R A) a) → (x : ℕ) × IsIn (i, x) (links_of (product_of S A) a) × IsTrue (paired x y)
  product_back a i j y h k =
      let p = from_paired i j h in
      let l = from_link R A a j y k in
      let w = b.back a (place_at S A i).0 (place_at R A j).0 (place_at R A y).0 p.worlds l.3 in
      let x = answer_back w.0 (place_at R A y) (is_place R A y l.2) w.2 in
      let world : (place_at S A x.0).0 ≡ w.0 = ap (λ (q : ℕ × ℕ). q.0) x.2 in
      let event : (place_at S A x.0).1 ≡ (place_at R A y).1 = ap (λ (q : ℕ × ℕ). q.1) x.2 in (
        x.0,
        to_link S A a i x.0 (subst (λ n. a < n) (sym b.agents) l.0) p.left x.1
            (subst (λ u. IsIn ((place_at S A i).0, u) (links_of S a)) (sym world) w.1)
            (subst (λ e. IsIn ((place_at S A i).1, e) (event_links A a)) (sym event) (subst (λ e. IsIn (e, (place_at R A y).1) (event_links A a)) (sym p.events) l.4)),
        to_paired x.0 y (record { left = x.1; right = l.2; worlds = subst (λ u. IsTrue (Z u (place_at R A y).0)) (sym world) w.2; events = event }),
      )

  pub product_bisimulation : IsBisimulation paired (product_of S A) (product_of R A)
  product_bisimulation = record {
    agents = b.agents;
    atoms = b.atoms;
    within = λ i j h. let p = from_paired i j h in (p.left, p.right);
    truth = λ i j h. let p = from_paired i j h in
        truth_at S A i p.left ∙ same_truth (place_at S A i) (place_at R A j) p.worlds p.events ∙ sym (truth_at R A j p.right);
    forth = product_forth;
    back = product_back;
  }

  product_designated : (i : ℕ) → ((w : ℕ) → IsIn w S.designated → (v : ℕ) × IsIn v R.designated × IsTrue (Z w v)) → IsIn i (product_of S A).designated → (j : ℕ) × IsIn j (product_of R A).designated × IsTrue (paired i j)
  product_designated i f h =
      let d = from_designated S A i h in
      let v = f (place_at S A i).0 d.1 in
      let j = answer (place_at S A i) v.0 (is_place S A i d.0) v.2 in
      let world : (place_at R A j.0).0 ≡ v.0 = ap (λ (q : ℕ × ℕ). q.0) j.2 in
      let event : (place_at R A j.0).1 ≡ (place_at S A i).1 = ap (λ (q : ℕ × ℕ). q.1) j.2 in (
        j.0,
        to_designated R A j.0 j.1 (subst (λ u. IsIn u R.designated) (sym world) v.1) (subst (λ e. IsIn e A.designated) (sym event) d.2),
        to_paired i j.0 (record { left = d.0; right = j.1; worlds = subst (λ u. IsTrue (Z (place_at S A i).0 u)) (sym world) v.2; events = sym event }),
      )

  product_designated_back : (j : ℕ) → ((v : ℕ) → IsIn v R.designated → (w : ℕ) × IsIn w S.designated × IsTrue (Z w v)) → IsIn j (product_of R A).designated → (i : ℕ) × IsIn i (product_of S A).designated × IsTrue (paired i j)
  product_designated_back j f h =
      let d = from_designated R A j h in
      let w = f (place_at R A j).0 d.1 in
      let i = answer_back w.0 (place_at R A j) (is_place R A j d.0) w.2 in
      let world : (place_at S A i.0).0 ≡ w.0 = ap (λ (q : ℕ × ℕ). q.0) i.2 in
      let event : (place_at S A i.0).1 ≡ (place_at R A j).1 = ap (λ (q : ℕ × ℕ). q.1) i.2 in (
        i.0,
        to_designated S A i.0 i.1 (subst (λ u. IsIn u S.designated) (sym world) w.1) (subst (λ e. IsIn e A.designated) (sym event) d.2),
        to_paired i.0 j (record { left = i.1; right = d.0; worlds = subst (λ u. IsTrue (Z u (place_at R A j).0)) (sym world) w.2; events = event }),
      )

-- the products of bisimilar states are bisimilar
pub products_bisimilar : (S R : Kripke) (A : EventModel) → IsState S → IsState R → IsAction A → Bisimilar S R → Bisimilar (product_of S A) (product_of R A)
products_bisimilar S R A s r m b = (
  paired S R A s r m b.0 b.1,
  product_bisimulation S R A s r m b.0 b.1,
  λ i h. product_designated S R A s r m b.0 b.1 i b.2 h,
  λ j h. product_designated_back S R A s r m b.0 b.1 j b.3 h,
)
