-- The product with a composed action is the products with the two actions in turn.
use Rattle.std.proofs.Common.{◌≡◌, ◌≢◌, ℕ, zero, suc, ◌+◌, ◌*◌, ◌<◌, ◌≤◌, Bool, true, false, ◌&&◌, ◌==◌, cond, List, [], ◌∷◌, ◌++◌, map, length, get_or, slice_get, IsTrue, refl, sym, ◌∙◌, ap, subst, arith, ◌⊎◌, inl, inr, ⊎_elim, ◌↔◌, Option, Some, None, Ordering, Less}
use Rattle.std.specs.List.{AllByRecursion, find, list_all}
use Rattle.std.specs.Ordering.{nat_cmp, ordering_then}
use Rattle.std.specs.Cmp.{nat_cmp_total}
use Rattle.std.proofs.lemmas.Cmp.{tied_itself}
use Rattle.std.proofs.lemmas.Option.{same_Some}
use Rattle.ep_logic.specs.declared.formula.Node.{Node}
use Rattle.ep_theory.specs.Rising.{IsIn, IsRising}
use Rattle.ep_logic.specs.Numbers.{numbers_where, pairs_within, pairs_where, has_number, has_pair, table}
use Rattle.ep_theory.specs.Ranks.{rank_in}
use Rattle.ep_theory.specs.Kripke.{Kripke, IsState, pair_cmp, atom_at, links_of}
use Rattle.ep_theory.specs.Truth.{Truth}
use Rattle.ep_theory.specs.Events.{Event, EventModel, IsAction, AreDistinct, no_event, event_at, event_links}
use Rattle.ep_theory.specs.Fits.{ActionFits, EventFits, SetFits}
use Rattle.ep_theory.specs.Product.{IsApplicable, IsProduct, places, place_at, atom_by, atom_after, product_of}
use Rattle.ep_theory.proofs.lists.Bools.{and_parts, and_whole, all_at, decided}
use Rattle.ep_theory.proofs.lists.Lists.{at_All, All-from_each, IsIn-map, from_map, IsIn-rising, IsRising-rising, equal_from_test, not_below_itself, not_both_below}
use Rattle.ep_theory.proofs.lists.Filters.{All-at, All-map, IsIn-at}
use Rattle.ep_theory.proofs.states.Exists.{length-map, get_or-map_within, not_empty, some_element}
use Rattle.ep_theory.proofs.lists.Diagonal.{Tri, below, level, above, tri}
use Rattle.ep_theory.proofs.states.Unique.{numbers, pairs}
use Rattle.ep_theory.proofs.kinds.Places.{place-order, at_own_place, place-at}
use Rattle.ep_theory.proofs.lists.Bridges.{rises_at}
use Rattle.ep_theory.proofs.lists.Bools.{in_left, in_right}
use Rattle.ep_theory.proofs.lists.NumbersLemmas.{in_numbers, from_numbers, rising_numbers, in_pairs, from_pairs, rising_pairs, below as below_is_less, to_has_number, from_has_number, to_has_pair, from_has_pair, from_table, from_rows}
use Rattle.ep_logic.proofs.CallerLemmas.{get_or-table}
use Rattle.ep_theory.proofs.formulas.Decided.{is_true_decides}
use Rattle.ep_theory.proofs.formulas.TruthLemmas.{truth-And, along}
use Rattle.ep_theory.proofs.actions.ProductLemmas.{IsPlace, in_places, from_places, rising_places, is_place, number_of, from_link, to_link, from_designated, to_designated, truth_at, product-is_state, designated_place}
use Rattle.ep_theory.proofs.actions.ProductLaws.{from_get, find_none}
use Rattle.ep_theory.proofs.actions.ProductUnique.{product_is_one}
use Rattle.ep_dynamic.specs.Reduction.{is_reducible, reduce}
use Rattle.ep_dynamic.specs.Composition.{event_pairs, pair_at, assigned_atoms, value_in_turn, events_in_turn, links_in_turn, composed, is_reducible_event, IsReducible}
use Rattle.ep_dynamic.proofs.Reducing.{reduction, atom_reduced}

-- pairs in order
as_less : (x y : ℕ) → x < y → nat_cmp x y ≡ Less
as_less x y l = below_is_less x y l

first_less : (p q : ℕ × ℕ) → p.0 < q.0 → pair_cmp p q ≡ Less
first_less p q l = ap (λ o. ordering_then o (nat_cmp p.1 q.1)) (as_less p.0 q.0 l)

second_less : (p q : ℕ × ℕ) → p.0 ≡ q.0 → p.1 < q.1 → pair_cmp p q ≡ Less
second_less p q e l =
    ap (λ x. ordering_then (nat_cmp x q.0) (nat_cmp p.1 q.1)) e
    ∙ ap (λ o. ordering_then o (nat_cmp p.1 q.1)) (tied_itself nat_cmp_total q.0) ∙ as_less p.1 q.1 l

from_pair_less : (p q : ℕ × ℕ) → pair_cmp p q ≡ Less → (p.0 < q.0) ⊎ ((p.0 ≡ q.0) × (p.1 < q.1))
from_pair_less p q h = go (tri p.0 q.0) (tri p.1 q.1)
  where
    go : Tri p.0 q.0 → Tri p.1 q.1 → (p.0 < q.0) ⊎ ((p.0 ≡ q.0) × (p.1 < q.1))
    go (below l) t = inl l
    go (level e) (below l) = inr (e, l)
    go (level e) (level d) = absurd (not_below_itself pair_cmp pairs q (subst (λ x. pair_cmp x q ≡ Less) (λ i. (e i, d i)) h))
    go (level e) (above g) = absurd (not_both_below pair_cmp pairs p q h (second_less q p (sym e) g))
    go (above g) t = absurd (not_both_below pair_cmp pairs p q h (first_less q p g))

rising_map : {A B : Type 0} (R : A → A → Ordering) (Q : B → B → Ordering) (f : A → B) (xs : List A) → IsRising R xs →
    ((x y : A) → IsIn x xs → IsIn y xs → R x y ≡ Less → Q (f x) (f y) ≡ Less) → IsRising Q (map f xs)
rising_map R Q f [] h g = tt
rising_map R Q f (x ∷ xs) h g = (
  All-map (λ y. Q (f x) y ≡ Less) f xs (λ y i. g x y (inl refl) (inr i) (at_All (λ y. R x y ≡ Less) y xs h.0 i)),
  rising_map R Q f xs h.1 (λ y z i j. g y z (inr i) (inr j)),
)

-- a search finds an element
found_in : {A : Type 0} (p : A → Bool) (xs : List A) (x : A) → find p xs ≡ Some x → IsIn x xs
found_in p [] x h = absurd (cc)
found_in p (y ∷ ys) x h = ⊎_elim
    (λ (t : IsTrue (p y)). let e : cond true (Some y) (find p ys) ≡ Some x = rw t at h in inl (sym (same_Some y x e)))
    (λ (f : p y ≡ false). let e : find p ys ≡ Some x = rw f at h in inr (found_in p ys x e))
    (decided (p y))

-- the events of a composed action
module _ (A B : EventModel) where
  pub rising_event_pairs : IsRising pair_cmp (event_pairs A B)
  rising_event_pairs = rising_pairs (λ e f. true) (length B.events) (length A.events)

  pub in_event_pairs : (e f : ℕ) → e < length A.events → f < length B.events → IsIn (e, f) (event_pairs A B)
  in_event_pairs e f l k = in_pairs (λ e f. true) (length B.events) (length A.events) e f l k refl

  -- the number of a pair of events
  abbrev pub number : ℕ × ℕ → ℕ
  number at = rank_in pair_cmp at (event_pairs A B)

  pub numbered : (e f : ℕ) → e < length A.events → f < length B.events → (number (e, f) < length (event_pairs A B)) × (pair_at A B (number (e, f)) ≡ (e, f))
  numbered e f l k = at_own_place pair_cmp pairs (e, f) (event_pairs A B) (0, 0) rising_event_pairs (in_event_pairs e f l k)

  pub number_at : (k : ℕ) → k < length (event_pairs A B) → number (pair_at A B k) ≡ k
  number_at k l = place-at pair_cmp pairs (event_pairs A B) k (0, 0) rising_event_pairs l

  pub pair_within : (k : ℕ) → k < length (event_pairs A B) → ((pair_at A B k).0 < length A.events) × ((pair_at A B k).1 < length B.events)
  pair_within k l =
      let c = from_pairs (λ e f. true) (length B.events) (length A.events) (pair_at A B k) (IsIn-at (event_pairs A B) k (0, 0) l) in
      (c.0, c.1)

  pub event_count : length (composed A B).events ≡ length (event_pairs A B)
  event_count = length-map (events_in_turn A B) (event_pairs A B)

  pub event_is : (k : ℕ) → k < length (event_pairs A B) → event_at (composed A B) k ≡ events_in_turn A B (pair_at A B k)
  event_is k l = get_or-map_within (events_in_turn A B) (event_pairs A B) k (0, 0) no_event l

  -- links of events
  pub to_event_link : (a k l : ℕ) → a < length A.links → k < length (event_pairs A B) → l < length (event_pairs A B) →
      IsIn ((pair_at A B k).0, (pair_at A B l).0) (event_links A a) → IsIn ((pair_at A B k).1, (pair_at A B l).1) (event_links B a) → IsIn (k, l) (event_links (composed A B) a)
  to_event_link a k l i m n h g =
      let f : ℕ → List (ℕ × ℕ) = λ a. pairs_where (λ k l. links_in_turn A B a (pair_at A B k) (pair_at A B l)) (length (event_pairs A B)) in
      subst (λ r. IsIn {A = ℕ × ℕ} (k, l) r) (sym (get_or-table f (length A.links) a [] i))
      (in_pairs (λ k l. links_in_turn A B a (pair_at A B k) (pair_at A B l)) (length (event_pairs A B)) (length (event_pairs A B)) k l m n
      (and_whole (has_pair (event_links A a) (pair_at A B k).0 (pair_at A B l).0) (has_pair (event_links B a) (pair_at A B k).1 (pair_at A B l).1)
      (to_has_pair (event_links A a) (pair_at A B k).0 (pair_at A B l).0 h) (to_has_pair (event_links B a) (pair_at A B k).1 (pair_at A B l).1 g)))

  pub from_event_link : (a k l : ℕ) → IsIn (k, l) (event_links (composed A B) a) →
      (k < length (event_pairs A B)) × (l < length (event_pairs A B)) × IsIn ((pair_at A B k).0, (pair_at A B l).0) (event_links A a) × IsIn ((pair_at A B k).1, (pair_at A B l).1) (event_links B a)
  from_event_link a k l h =
      let r = from_rows (λ a. pairs_where (λ k l. links_in_turn A B a (pair_at A B k) (pair_at A B l)) (length (event_pairs A B))) (length A.links) a (k, l) h in
      let c = from_pairs (λ k l. links_in_turn A B a (pair_at A B k) (pair_at A B l)) (length (event_pairs A B)) (length (event_pairs A B)) (k, l) r.1 in
      let b = and_parts (has_pair (event_links A a) (pair_at A B k).0 (pair_at A B l).0) (has_pair (event_links B a) (pair_at A B k).1 (pair_at A B l).1) c.2 in
      (c.0, c.1, from_has_pair (event_links A a) (pair_at A B k).0 (pair_at A B l).0 b.0, from_has_pair (event_links B a) (pair_at A B k).1 (pair_at A B l).1 b.1)

  abbrev both_designated : ℕ → Bool
  both_designated k = has_number A.designated (pair_at A B k).0 && has_number B.designated (pair_at A B k).1

  pub to_designated_event : (k : ℕ) → k < length (event_pairs A B) → IsIn (pair_at A B k).0 A.designated → IsIn (pair_at A B k).1 B.designated → IsIn k (composed A B).designated
  to_designated_event k l h g = in_numbers both_designated (length (event_pairs A B)) k l
      (and_whole (has_number A.designated (pair_at A B k).0) (has_number B.designated (pair_at A B k).1) (to_has_number A.designated (pair_at A B k).0 h) (to_has_number B.designated (pair_at A B k).1 g))

  pub from_designated_event : (k : ℕ) → IsIn k (composed A B).designated → (k < length (event_pairs A B)) × IsIn (pair_at A B k).0 A.designated × IsIn (pair_at A B k).1 B.designated
  from_designated_event k h =
      let c = from_numbers both_designated (length (event_pairs A B)) k h in
      let b = and_parts (has_number A.designated (pair_at A B k).0) (has_number B.designated (pair_at A B k).1) c.1 in
      (c.0, from_has_number A.designated (pair_at A B k).0 b.0, from_has_number B.designated (pair_at A B k).1 b.1)

-- assignments to atoms that rise are to distinct atoms
rising_distinct : (value : ℕ → Node) (xs : List ℕ) → IsRising nat_cmp xs → AreDistinct (map (λ p. (p, value p)) xs)
rising_distinct value [] h = tt
rising_distinct value (x ∷ xs) h = (
  All-map {A = ℕ} {B = ℕ × Node} (λ y. x ≢ y.0) (λ p. (p, value p)) xs (λ y i e.
      not_below_itself nat_cmp numbers y (subst (λ z. nat_cmp z y ≡ Less) e (at_All (λ y. nat_cmp x y ≡ Less) y xs h.0 i))),
  rising_distinct value xs h.1,
)

-- the composed action is an action
pub composed-is_action : (A B : EventModel) → IsAction A → IsAction B → length (event_pairs A B) ≤ 16 → IsAction (composed A B)
composed-is_action A B m n few =
    let d = some_element A.designated m.some_designated in
    let e = some_element B.designated n.some_designated in
    let one = numbered A B d.0 e.0 (at_All (λ x. x < length A.events) d.0 A.designated m.designated_within d.1) (at_All (λ x. x < length B.events) e.0 B.designated n.designated_within e.1) in
    let f : ℕ → List (ℕ × ℕ) = λ a. pairs_where (λ k l. links_in_turn A B a (pair_at A B k) (pair_at A B l)) (length (event_pairs A B)) in
    let count = event_count A B in
    record {
      some_event = let l = one.0 in omega arith;
      few_events = omega arith;
      distinct = All-map {B = Event} (λ event. AreDistinct event.sets) (events_in_turn A B) (event_pairs A B) (λ at i.
          rising_distinct (λ p. value_in_turn A at.0 p (find (λ set. set.0 == p) (event_at B at.1).sets)) (assigned_atoms (event_at A at.0) (event_at B at.1))
          (IsRising-rising nat_cmp numbers (map {A = ℕ × Node} (λ set. set.0) ((event_at A at.0).sets ++ (event_at B at.1).sets))));
      rising = All-from_each (λ pairs. IsRising pair_cmp pairs) (table f (length A.links)) (λ y i.
          let r = from_table f (length A.links) y i in
          subst (λ pairs. IsRising pair_cmp pairs) (sym r.2) (rising_pairs (λ k l. links_in_turn A B r.0 (pair_at A B k) (pair_at A B l)) (length (event_pairs A B)) (length (event_pairs A B))));
      within = All-from_each (λ pairs. AllByRecursion (λ (p : ℕ × ℕ). (p.0 < length (composed A B).events) × (p.1 < length (composed A B).events)) pairs) (table f (length A.links)) (λ y i.
          let r = from_table f (length A.links) y i in
          subst (λ pairs. AllByRecursion (λ (p : ℕ × ℕ). (p.0 < length (composed A B).events) × (p.1 < length (composed A B).events)) pairs) (sym r.2)
          (All-from_each (λ (p : ℕ × ℕ). (p.0 < length (composed A B).events) × (p.1 < length (composed A B).events)) (f r.0) (λ p j.
          let c = from_pairs (λ k l. links_in_turn A B r.0 (pair_at A B k) (pair_at A B l)) (length (event_pairs A B)) (length (event_pairs A B)) p j in
          (subst (λ n. p.0 < n) (sym count) c.0, subst (λ n. p.1 < n) (sym count) c.1))));
      designated_rising = rising_numbers (both_designated A B) (length (event_pairs A B));
      designated_within = All-from_each (λ k. k < length (composed A B).events) (composed A B).designated (λ k h. subst (λ n. k < n) (sym count) (from_designated_event A B k h).0);
      some_designated = not_empty (number A B (d.0, e.0)) (composed A B).designated (to_designated_event A B (number A B (d.0, e.0)) one.0
          (subst (λ (p : ℕ × ℕ). IsIn p.0 A.designated) (sym one.1) d.1) (subst (λ (p : ℕ × ℕ). IsIn p.1 B.designated) (sym one.1) e.1));
    }

-- the events of an action are without `common`
reducible_at : (B : EventModel) → IsReducible B → (f : ℕ) → f < length B.events → IsTrue (is_reducible_event (event_at B f))
reducible_at B plain f l = All-at (λ (event : Event). IsTrue (is_reducible_event event)) B.events f no_event l plain

reducible_pre : (event : Event) → IsTrue (is_reducible_event event) → IsTrue (is_reducible event.pre)
reducible_pre event h = (and_parts (is_reducible event.pre) (list_all (λ (set : ℕ × Node). is_reducible set.1) event.sets) h).0

reducible_set : (event : Event) (set : ℕ × Node) → IsTrue (is_reducible_event event) → IsIn set event.sets → IsTrue (is_reducible set.1)
reducible_set event set h i = all_at (λ (set : ℕ × Node). is_reducible set.1) set event.sets
    (and_parts (is_reducible event.pre) (list_all (λ (set : ℕ × Node). is_reducible set.1) event.sets) h).1 i

-- an event that fits the state fits its product
fits_product : (S : Kripke) (A B : EventModel) → ActionFits S B → ActionFits (product_of S A) B
fits_product S A B fit = record {
  agents = fit.agents;
  events = All-from_each (EventFits (product_of S A)) B.events (λ event i.
      let f = at_All (EventFits S) event B.events fit.events i in
      record { pre = f.pre; sets = All-from_each (SetFits (product_of S A)) event.sets (λ set j. at_All (SetFits S) set event.sets f.sets j) });
}

module _ (S : Kripke) (A B : EventModel) (s : IsState S) (m : IsAction A) (n : IsAction B) (fit : ActionFits S A) (plain : IsReducible B)
    (fits : IsApplicable S A) (then_fits : IsApplicable (product_of S A) B) where
  first_is : IsState (product_of S A)
  first_is = product-is_state S A s m fits

  -- a place of the second product, as a place of the one product
  abbrev spot : ℕ × ℕ → ℕ × ℕ
  spot at = ((place_at S A at.0).0, number A B ((place_at S A at.0).1, at.1))

  abbrev spots : List (ℕ × ℕ)
  spots = map spot (places (product_of S A) B)

  -- what is known of a place of the second product
  record IsSpot (at : ℕ × ℕ) : Type 0 where
    first : at.0 < length (places S A)
    place : IsPlace S A (place_at S A at.0)
    event : at.1 < length B.events
    count : number A B ((place_at S A at.0).1, at.1) < length (event_pairs A B)
    pair : pair_at A B (number A B ((place_at S A at.0).1, at.1)) ≡ ((place_at S A at.0).1, at.1)
    pre : Truth S (place_at S A at.0).0 (event_at A (place_at S A at.0).1).pre
    then_pre : Truth (product_of S A) at.0 (event_at B at.1).pre

  spot_is : (at : ℕ × ℕ) → IsPlace (product_of S A) B at → IsSpot at
  spot_is at h =
      let place = is_place S A at.0 h.world in
      let k = numbered A B (place_at S A at.0).1 at.1 place.event h.event in
      record {
        first = h.world;
        place = place;
        event = h.event;
        count = k.0;
        pair = k.1;
        pre = (is_true_decides S s (place_at S A at.0).0 place.world (event_at A (place_at S A at.0).1).pre).0 place.applies_there;
        then_pre = (is_true_decides (product_of S A) first_is at.0 h.world (event_at B at.1).pre).0 h.applies_there;
      }

  event_at_spot : (at : ℕ × ℕ) → IsSpot at → event_at (composed A B) (spot at).1 ≡ events_in_turn A B ((place_at S A at.0).1, at.1)
  event_at_spot at h = event_is A B (spot at).1 h.count ∙ ap (events_in_turn A B) h.pair

  -- the precondition of an event of the composed action
  pre_in_turn : (w e f i : ℕ) → place_at S A i ≡ (w, e) → i < length (places S A) → f < length B.events →
      Truth S w (event_at A e).pre → Truth (product_of S A) i (event_at B f).pre → Truth S w (events_in_turn A B (e, f)).pre
  pre_in_turn w e f i q l k t u =
      along (sym (truth-And S w ((event_at A e).pre ∷ reduce A e (event_at B f).pre ∷ []))) (
        t,
        (
          subst (λ (p : ℕ × ℕ). Truth S p.0 (reduce A p.1 (event_at B f).pre)) q
              ((reduction S A s m fit (event_at B f).pre (reducible_pre (event_at B f) (reducible_at B plain f k)) i l).0 u),
          tt,
        ),
      )

  listed_forth : (w k : ℕ) → IsIn (w, k) spots → (w < S.worlds) × (k < length (composed A B).events) × Truth S w (event_at (composed A B) k).pre
  listed_forth w k i =
      let at = from_map spot (w, k) (places (product_of S A) B) i in
      let h = spot_is at.0 (from_places (product_of S A) B at.0 at.1) in
      subst (λ (p : ℕ × ℕ). (p.0 < S.worlds) × (p.1 < length (composed A B).events) × Truth S p.0 (event_at (composed A B) p.1).pre) (sym at.2) (
        h.place.world,
        subst (λ n. (spot at.0).1 < n) (sym (event_count A B)) h.count,
        subst (λ (event : Event). Truth S (spot at.0).0 event.pre) (sym (event_at_spot at.0 h))
            (pre_in_turn (place_at S A at.0.0).0 (place_at S A at.0.0).1 at.0.1 at.0.0 refl h.first h.event h.pre h.then_pre),
      )

  listed_back : (w k : ℕ) → w < S.worlds → k < length (composed A B).events → Truth S w (event_at (composed A B) k).pre → IsIn (w, k) spots
  listed_back w k l g t =
      let b : k < length (event_pairs A B) = subst (λ n. k < n) (event_count A B) g in
      let p = pair_within A B k b in
      let parts = along (truth-And S w _) (subst (λ (event : Event). Truth S w event.pre) (event_is A B k b) t) in
      let i = number_of S A w (pair_at A B k).0 l p.0 ((is_true_decides S s w l (event_at A (pair_at A B k).0).pre).1 parts.0) in
      let u = (reduction S A s m fit (event_at B (pair_at A B k).1).pre (reducible_pre (event_at B (pair_at A B k).1) (reducible_at B plain (pair_at A B k).1 p.1)) i.0 i.1).1
      (subst (λ (q : ℕ × ℕ). Truth S q.0 (reduce A q.1 (event_at B (pair_at A B k).1).pre)) (sym i.2) parts.1.0) in
      let there = in_places (product_of S A) B i.0 (pair_at A B k).1 i.1 p.1 ((is_true_decides (product_of S A) first_is i.0 i.1 (event_at B (pair_at A B k).1).pre).1 u) in
      subst (λ (q : ℕ × ℕ). IsIn q spots)
      (λ j. ((i.2 j).0, (ap (λ (q : ℕ × ℕ). number A B (q.1, (pair_at A B k).1)) i.2 ∙ number_at A B k b) j))
      (IsIn-map spot (i.0, (pair_at A B k).1) (places (product_of S A) B) there)

  spots_rise : IsRising pair_cmp spots
  spots_rise = rising_map pair_cmp pair_cmp spot (places (product_of S A) B) (rising_places (product_of S A) B) (λ x y i j h.
      rise x y (spot_is x (from_places (product_of S A) B x i)) (spot_is y (from_places (product_of S A) B y j)) (from_pair_less x y h))
    where
      -- two places of one world
      by_events : (x y : ℕ × ℕ) → IsSpot x → IsSpot y → (place_at S A x.0).0 ≡ (place_at S A y.0).0 →
          pair_cmp ((place_at S A x.0).1, x.1) ((place_at S A y.0).1, y.1) ≡ Less → pair_cmp (spot x) (spot y) ≡ Less
      by_events x y a b e h =
          ap (λ z. ordering_then (nat_cmp z (spot y).0) (nat_cmp (spot x).1 (spot y).1)) e
          ∙ ap (λ o. ordering_then o (nat_cmp (spot x).1 (spot y).1)) (tied_itself nat_cmp_total (spot y).0)
          ∙ place-order pair_cmp pairs ((place_at S A x.0).1, x.1) ((place_at S A y.0).1, y.1) (event_pairs A B) (rising_event_pairs A B)
          (in_event_pairs A B (place_at S A x.0).1 x.1 a.place.event a.event) (in_event_pairs A B (place_at S A y.0).1 y.1 b.place.event b.event)
          ∙ h

      by_worlds : (x y : ℕ × ℕ) → IsSpot x → IsSpot y → ((place_at S A x.0).0 < (place_at S A y.0).0) ⊎ (((place_at S A x.0).0 ≡ (place_at S A y.0).0) × ((place_at S A x.0).1 < (place_at S A y.0).1)) → pair_cmp (spot x) (spot y) ≡ Less
      by_worlds x y a b (inl l) = first_less (spot x) (spot y) l
      by_worlds x y a b (inr l) = by_events x y a b l.0 (first_less ((place_at S A x.0).1, x.1) ((place_at S A y.0).1, y.1) l.1)

      rise : (x y : ℕ × ℕ) → IsSpot x → IsSpot y → (x.0 < y.0) ⊎ ((x.0 ≡ y.0) × (x.1 < y.1)) → pair_cmp (spot x) (spot y) ≡ Less
      rise x y a b (inl l) = by_worlds x y a b (from_pair_less (place_at S A x.0) (place_at S A y.0) (rises_at pair_cmp (places S A) (rising_places S A) x.0 y.0 (0, 0) l b.first))
      rise x y a b (inr l) =
          by_events x y a b (ap (λ i. (place_at S A i).0) l.0)
          (second_less ((place_at S A x.0).1, x.1) ((place_at S A y.0).1, y.1) (ap (λ i. (place_at S A i).1) l.0) l.1)

  -- an atom after both events, by the formula that it gets
  atom_in_turn : (i : ℕ) → i < length (places S A) → (p : ℕ) (o : Option (ℕ × Node)) → ((set : ℕ × Node) → o ≡ Some set → IsTrue (is_reducible set.1)) →
      IsTrue (atom_by (product_of S A) i p o) ↔ Truth S (place_at S A i).0 (value_in_turn A (place_at S A i).1 p o)
  atom_in_turn i l p None h = atom_reduced S A s m fit i l (record { n = p })
  atom_in_turn i l p (Some set) h =
      let d = is_true_decides (product_of S A) first_is i l set.1 in
      let r = reduction S A s m fit set.1 (h set refl) i l in
      (λ t. r.0 (d.0 t), λ t. d.1 (r.1 t))

  spot_at : (i : ℕ) → i < length (places (product_of S A) B) → get_or spots i (0, 0) ≡ spot (place_at (product_of S A) B i)
  spot_at i l = get_or-map_within spot (places (product_of S A) B) i (0, 0) (0, 0) l

  -- place i of the second product, whose spot is the given pair
  found : (i w k : ℕ) → slice_get spots i ≡ Some (w, k) → (i < length (places (product_of S A) B)) × (spot (place_at (product_of S A) B i) ≡ (w, k))
  found i w k h =
      let r = from_get spots i (w, k) (0, 0) h in
      let l : i < length (places (product_of S A) B) = subst (λ n. i < n) (length-map spot (places (product_of S A) B)) r.0 in
      (l, sym (spot_at i l) ∙ r.1)

  place_is : (i : ℕ) → i < length (places (product_of S A) B) → IsSpot (place_at (product_of S A) B i)
  place_is i l = spot_is (place_at (product_of S A) B i) (is_place (product_of S A) B i l)

  -- what the second event assigns to an atom
  set_of : ℕ → ℕ → Option (ℕ × Node)
  set_of f p = find (λ set. set.0 == p) (event_at B f).sets

  set_reducible : (f p : ℕ) → f < length B.events → (set : ℕ × Node) → find (λ set. set.0 == p) (event_at B f).sets ≡ Some set → IsTrue (is_reducible set.1)
  set_reducible f p l set h = reducible_set (event_at B f) set (reducible_at B plain f l) (found_in {A = ℕ × Node} (λ set. set.0 == p) (event_at B f).sets set h)

  atom_at_place : (i p : ℕ) → i < length (places (product_of S A) B) → p < S.atoms →
      atom_at (product_of (product_of S A) B) i p ≡ atom_by (product_of S A) (place_at (product_of S A) B i).0 p (find (λ set. set.0 == p) (event_at B (place_at (product_of S A) B i).1).sets)
  atom_at_place i p l k =
      ap (λ t. get_or t p false) (truth_at (product_of S A) B i l)
      ∙ get_or-table (atom_after (product_of S A) (place_at (product_of S A) B i).0 (event_at B (place_at (product_of S A) B i).1)) S.atoms p false k

  assigned_at : (i p : ℕ) (f : Node) → i < length (places (product_of S A) B) → p < S.atoms →
      IsIn (p, f) (event_at (composed A B) (spot (place_at (product_of S A) B i)).1).sets →
      IsTrue (atom_at (product_of (product_of S A) B) i p) ↔ Truth S (spot (place_at (product_of S A) B i)).0 f
  assigned_at i p f l k h =
      let at = place_at (product_of S A) B i in
      let spotted = place_is i l in
      let here = subst (λ (event : Event). IsIn (p, f) event.sets) (event_at_spot (place_at (product_of S A) B i) spotted) h in
      let value : ℕ → Node = λ p. value_in_turn A (place_at S A (place_at (product_of S A) B i).0).1 p (find (λ set. set.0 == p) (event_at B (place_at (product_of S A) B i).1).sets) in
      let r = from_map {B = ℕ × Node} (λ p. (p, value p)) (p, f) (assigned_atoms (event_at A (place_at S A (place_at (product_of S A) B i).0).1) (event_at B (place_at (product_of S A) B i).1)) here in
      let is : f ≡ value p = ap (λ (x : ℕ × Node). x.1) r.2 ∙ ap value (sym (ap (λ (x : ℕ × Node). x.0) r.2)) in
      let e = atom_at_place i p l k in
      let both = atom_in_turn (place_at (product_of S A) B i).0 spotted.first p (find (λ set. set.0 == p) (event_at B (place_at (product_of S A) B i).1).sets)
      (λ set g. set_reducible (place_at (product_of S A) B i).1 p spotted.event set g) in (
        λ t. subst (Truth S (place_at S A (place_at (product_of S A) B i).0).0) (sym is) (both.0 (sym e ∙ t)),
        λ t. e ∙ both.1 (subst (Truth S (place_at S A (place_at (product_of S A) B i).0).0) is t),
      )

  -- an atom that neither event assigns to
  not_assigned : (d e : Event) (value : ℕ → Node) (p : ℕ) → ((f : Node) → IsIn {A = ℕ × Node} (p, f) (map (λ p. (p, value p)) (assigned_atoms d e)) → ⊥) →
      (find (λ set. set.0 == p) d.sets ≡ None) × (find (λ set. set.0 == p) e.sets ≡ None)
  not_assigned d e value p none = (
    find_none {A = ℕ × Node} (λ set. set.0 == p) d.sets (λ x i t. never x (in_left x d.sets e.sets i) t),
    find_none {A = ℕ × Node} (λ set. set.0 == p) e.sets (λ x i t. never x (in_right x d.sets e.sets i) t),
  )
    where
      never : (x : ℕ × Node) → IsIn x (d.sets ++ e.sets) → IsTrue (x.0 == p) → ⊥
      never x i t =
          let q : x.0 ≡ p = equal_from_test x.0 p t in
          let j = IsIn-rising nat_cmp numbers x.0 (map {A = ℕ × Node} (λ set. set.0) (d.sets ++ e.sets)) (IsIn-map {A = ℕ × Node} (λ set. set.0) x (d.sets ++ e.sets) i) in
          none (value p) (subst (λ y. IsIn {A = ℕ × Node} (y, value y) (map (λ p. (p, value p)) (assigned_atoms d e))) q
          (IsIn-map {B = ℕ × Node} (λ p. (p, value p)) x.0 (assigned_atoms d e) j))

  kept_at : (i p : ℕ) → i < length (places (product_of S A) B) → p < S.atoms →
      ((f : Node) → ¬ IsIn (p, f) (event_at (composed A B) (spot (place_at (product_of S A) B i)).1).sets) →
      atom_at (product_of (product_of S A) B) i p ≡ atom_at S (spot (place_at (product_of S A) B i)).0 p
  kept_at i p l k none =
      let spotted = place_is i l in
      let value : ℕ → Node = λ p. value_in_turn A (place_at S A (place_at (product_of S A) B i).0).1 p (find (λ set. set.0 == p) (event_at B (place_at (product_of S A) B i).1).sets) in
      let free = not_assigned (event_at A (place_at S A (place_at (product_of S A) B i).0).1) (event_at B (place_at (product_of S A) B i).1) value p
      (λ f h. none f (subst (λ (event : Event). IsIn (p, f) event.sets) (sym (event_at_spot (place_at (product_of S A) B i) spotted)) h)) in
      atom_at_place i p l k
      ∙ ap (atom_by (product_of S A) (place_at (product_of S A) B i).0 p) free.1
      ∙ ap (λ t. get_or t p false) (truth_at S A (place_at (product_of S A) B i).0 spotted.first)
      ∙ get_or-table (atom_after S (place_at S A (place_at (product_of S A) B i).0).0 (event_at A (place_at S A (place_at (product_of S A) B i).0).1)) S.atoms p false k
      ∙ ap (atom_by S (place_at S A (place_at (product_of S A) B i).0).0 p) free.0

  links_at : (a i j : ℕ) → a < S.agents → i < length (places (product_of S A) B) → j < length (places (product_of S A) B) →
      IsIn (i, j) (links_of (product_of (product_of S A) B) a)
      ↔ (IsIn ((spot (place_at (product_of S A) B i)).0, (spot (place_at (product_of S A) B j)).0) (links_of S a)
      × IsIn ((spot (place_at (product_of S A) B i)).1, (spot (place_at (product_of S A) B j)).1) (event_links (composed A B) a))
  links_at a i j b l k =
      let x = place_is i l in
      let y = place_is j k in (
        λ h.
            let u = from_link (product_of S A) B a i j h in
            let v = from_link S A a (place_at (product_of S A) B i).0 (place_at (product_of S A) B j).0 u.3 in (
              v.3,
              to_event_link A B a (spot (place_at (product_of S A) B i)).1 (spot (place_at (product_of S A) B j)).1 (subst (λ n. a < n) (sym fit.agents) b) x.count y.count
                  (subst (λ (p : ℕ × ℕ). IsIn (p.0, (pair_at A B (spot (place_at (product_of S A) B j)).1).0) (event_links A a)) (sym x.pair)
                  (subst (λ (p : ℕ × ℕ). IsIn ((place_at S A (place_at (product_of S A) B i).0).1, p.0) (event_links A a)) (sym y.pair) v.4))
                  (subst (λ (p : ℕ × ℕ). IsIn (p.1, (pair_at A B (spot (place_at (product_of S A) B j)).1).1) (event_links B a)) (sym x.pair)
                  (subst (λ (p : ℕ × ℕ). IsIn ((place_at (product_of S A) B i).1, p.1) (event_links B a)) (sym y.pair) u.4)),
            ),
        λ h.
            let g = from_event_link A B a (spot (place_at (product_of S A) B i)).1 (spot (place_at (product_of S A) B j)).1 h.1 in
            to_link (product_of S A) B a i j b l k
            (to_link S A a (place_at (product_of S A) B i).0 (place_at (product_of S A) B j).0 b x.first y.first h.0
            (subst (λ (p : ℕ × ℕ). IsIn ((place_at S A (place_at (product_of S A) B i).0).1, p.0) (event_links A a)) y.pair
            (subst (λ (p : ℕ × ℕ). IsIn (p.0, (pair_at A B (spot (place_at (product_of S A) B j)).1).0) (event_links A a)) x.pair g.2)))
            (subst (λ (p : ℕ × ℕ). IsIn ((place_at (product_of S A) B i).1, p.1) (event_links B a)) y.pair
            (subst (λ (p : ℕ × ℕ). IsIn (p.1, (pair_at A B (spot (place_at (product_of S A) B j)).1).1) (event_links B a)) x.pair g.3)),
      )

  designated_at : (i : ℕ) → i < length (places (product_of S A) B) →
      IsIn i (product_of (product_of S A) B).designated
      ↔ (IsIn (spot (place_at (product_of S A) B i)).0 S.designated × IsIn (spot (place_at (product_of S A) B i)).1 (composed A B).designated)
  designated_at i l =
      let x = place_is i l in (
        λ h.
            let u = from_designated (product_of S A) B i h in
            let v = from_designated S A (place_at (product_of S A) B i).0 u.1 in (
              v.1,
              to_designated_event A B (spot (place_at (product_of S A) B i)).1 x.count
                  (subst (λ (p : ℕ × ℕ). IsIn p.0 A.designated) (sym x.pair) v.2) (subst (λ (p : ℕ × ℕ). IsIn p.1 B.designated) (sym x.pair) u.2),
            ),
        λ h.
            let g = from_designated_event A B (spot (place_at (product_of S A) B i)).1 h.1 in
            to_designated (product_of S A) B i l
            (to_designated S A (place_at (product_of S A) B i).0 x.first h.0 (subst (λ (p : ℕ × ℕ). IsIn p.0 A.designated) x.pair g.1))
            (subst (λ (p : ℕ × ℕ). IsIn p.1 B.designated) x.pair g.2),
      )

  -- the second product is a product with the composed action
  is_product : IsProduct S (composed A B) spots (product_of (product_of S A) B)
  is_product = record {
    listed = λ w k. (λ i. listed_forth w k i, λ h. listed_back w k h.0 h.1 h.2);
    in_order = spots_rise;
    worlds = sym (length-map spot (places (product_of S A) B));
    agents = refl;
    atoms = refl;
    assigned = λ i w k p f h l.
        let r = found i w k h in
        subst (λ (at : ℕ × ℕ). IsIn (p, f) (event_at (composed A B) at.1).sets → IsTrue (atom_at (product_of (product_of S A) B) i p) ↔ Truth S at.0 f) r.1 (assigned_at i p f r.0 l);
    kept = λ i w k p h l.
        let r = found i w k h in
        subst (λ (at : ℕ × ℕ). ((f : Node) → ¬ IsIn (p, f) (event_at (composed A B) at.1).sets) → atom_at (product_of (product_of S A) B) i p ≡ atom_at S at.0 p) r.1 (kept_at i p r.0 l);
    links = λ a i j w k v l b h g.
        let x = found i w k h in
        let y = found j v l g in
        subst (λ (at : ℕ × ℕ). IsIn (i, j) (links_of (product_of (product_of S A) B) a) ↔ (IsIn (w, at.0) (links_of S a) × IsIn (k, at.1) (event_links (composed A B) a))) y.1
        (subst (λ (at : ℕ × ℕ). IsIn (i, j) (links_of (product_of (product_of S A) B) a)
        ↔ (IsIn (at.0, (spot (place_at (product_of S A) B j)).0) (links_of S a) × IsIn (at.1, (spot (place_at (product_of S A) B j)).1) (event_links (composed A B) a))) x.1 (links_at a i j b x.0 y.0));
    designated = λ i w k h.
        let r = found i w k h in
        subst (λ (at : ℕ × ℕ). IsIn i (product_of (product_of S A) B).designated ↔ (IsIn at.0 S.designated × IsIn at.1 (composed A B).designated)) r.1 (designated_at i r.0);
  }

  -- where the actions apply in turn, the composed action applies
  pub composed_applies : IsApplicable S (composed A B)
  composed_applies w i =
      let e = fits w i in
      let j = designated_place S A s m w e.0 i e.1 e.2 in
      let f = then_fits j.0 j.2 in
      let first = (from_designated S A j.0 j.2).0 in
      let within : e.0 < length A.events = at_All (λ x. x < length A.events) e.0 A.designated m.designated_within e.1 in
      let then_within : f.0 < length B.events = at_All (λ x. x < length B.events) f.0 B.designated n.designated_within f.1 in
      let k = numbered A B e.0 f.0 within then_within in (
        number A B (e.0, f.0),
        to_designated_event A B (number A B (e.0, f.0)) k.0 (subst (λ (p : ℕ × ℕ). IsIn p.0 A.designated) (sym k.1) e.1) (subst (λ (p : ℕ × ℕ). IsIn p.1 B.designated) (sym k.1) f.1),
        subst (λ (event : Event). Truth S w event.pre) (sym (event_is A B (number A B (e.0, f.0)) k.0 ∙ ap (events_in_turn A B) k.1))
            (pre_in_turn w e.0 f.0 j.0 j.1 first then_within e.2 f.2),
      )

  pub product_in_turn : length (event_pairs A B) ≤ 16 → product_of S (composed A B) ≡ product_of (product_of S A) B
  product_in_turn few = sym (product_is_one S (composed A B) spots (product_of (product_of S A) B) s (composed-is_action A B m n few) composed_applies
      (product-is_state (product_of S A) B first_is n then_fits) is_product)

-- all pairs below two bounds
length-append : {A : Type 0} (xs ys : List A) → length (xs ++ ys) ≡ length xs + length ys
length-append [] ys = omega arith
length-append (x ∷ xs) ys = let e = length-append xs ys in omega arith

length-numbers : (n : ℕ) → length (numbers_where (λ _. true) n) ≡ n
length-numbers zero = refl
length-numbers (suc n) =
    let e = length-append (numbers_where (λ _. true) n) (n ∷ []) in
    let f = length-numbers n in
    omega arith

length-pairs : (n m : ℕ) → length (pairs_within (λ _ _. true) n m) ≡ m * n
length-pairs n zero = omega arith
length-pairs n (suc m) =
    let e = length-append (pairs_within (λ _ _. true) n m) (map (λ j. (m, j)) (numbers_where (λ _. true) n)) in
    let f = length-map {B = ℕ × ℕ} (λ j. (m, j)) (numbers_where (λ _. true) n) in
    let g = length-numbers n in
    let h = length-pairs n m in
    omega arith

pub pair_count : (A B : EventModel) → length (event_pairs A B) ≡ length A.events * length B.events
pair_count A B = length-pairs (length B.events) (length A.events)

pub composition : (A B : EventModel) → IsAction A → IsAction B → length A.events * length B.events ≤ 16 → IsAction (composed A B)
composition A B m n few = composed-is_action A B m n (subst (λ k. k ≤ 16) (sym (pair_count A B)) few)

pub in_turn : (S : Kripke) (A B : EventModel) → IsState S → IsAction A → IsAction B → ActionFits S A →
    IsReducible B → length A.events * length B.events ≤ 16 → IsApplicable S A → IsApplicable (product_of S A) B →
    IsApplicable S (composed A B) × (product_of S (composed A B) ≡ product_of (product_of S A) B)
in_turn S A B s m n fit plain few fits then_fits = (
  composed_applies S A B s m n fit plain fits then_fits,
  product_in_turn S A B s m n fit plain fits then_fits (subst (λ k. k ≤ 16) (sym (pair_count A B)) few),
)
