-- Laws of the places of a product, world by world.
use Rattle.std.proofs.Common.{◌≡◌, ℕ, zero, suc, ◌<◌, ◌≤◌, Bool, true, false, cond, ◌&&◌, List, [], ◌∷◌, ◌++◌, flat_map, length, get_or, leb, refl, sym, ◌∙◌, ap, arith, append-nil, inl, inr}
use Rattle.std.proofs.lemmas.Bool.{cases_lt, lt-leb, le-leb}
use Rattle.std.proofs.lemmas.List.{length-map}
use Rattle.std.proofs.lemmas.List.Concat.{flat_map-append}
use Rattle.ep_logic.specs.Numbers.{numbers_where, pairs_within, has_pair}
use Rattle.ep_theory.specs.Kripke.{Kripke, IsState, links_of, successors}
use Rattle.ep_theory.specs.Events.{Event, EventModel, event_at, event_links, no_event}
use Rattle.ep_theory.specs.Product.{applies, places, place_at, links_both}
use Rattle.ep_theory.specs.Tested.{is_true}
use Rattle.ep_theory.proofs.CallerLemmas.{get_or-map_within, successors_are_numbers}
use Rattle.ep_logic.proofs.CallerLemmas.{get_or-table}
use Rattle.ep_update.specs.Places.{label_of, precondition_labels, is_labelled, labelled_pairs, first_place, is_linked_from, block, place_row}
use Rattle.ep_update.proofs.NumbersWhere.{numbers_where-same, numbers_where-none, numbers_where-split, pairs_within-same, first-up, pair_at}

-- what a label says at a world
pub label_at : (S : Kripke) (A : EventModel) (w e : ℕ) → w < S.worlds → e < length A.events → is_labelled (precondition_labels S A) w e ≡ applies S A w e
label_at S A w e l k =
    ap (λ row. get_or row w false) (get_or-map_within (λ (event : Event). label_of S event.pre) A.events e no_event [] k)
    ∙ get_or-table (λ w. is_true S w (event_at A e).pre) S.worlds w false l

-- the labels give the places of the first worlds
pub labelled_are : (S : Kripke) (A : EventModel) (m : ℕ) → m ≤ S.worlds → labelled_pairs (precondition_labels S A) m ≡ pairs_within (applies S A) (length A.events) m
labelled_are S A m l =
    ap (λ n. pairs_within (is_labelled (precondition_labels S A)) n m) (length-map A.events (λ (event : Event). label_of S event.pre))
    ∙ pairs_within-same (is_labelled (precondition_labels S A)) (applies S A) (length A.events) m (λ w e a b. label_at S A w e (omega arith) b)

pub labelled_places : (S : Kripke) (A : EventModel) → labelled_pairs (precondition_labels S A) S.worlds ≡ places S A
unfolding places
labelled_places S A = labelled_are S A S.worlds (omega arith)

pub places-end : (S : Kripke) (A : EventModel) → length (places S A) ≡ first_place S A S.worlds
unfolding places
places-end S A = refl

pub first_place-up : (S : Kripke) (A : EventModel) (v w : ℕ) → v ≤ w → first_place S A v ≤ first_place S A w
first_place-up S A v w h = first-up (applies S A) (length A.events) v w h

-- the world at a place
pub place_world : (S : Kripke) (A : EventModel) (w i : ℕ) → w < S.worlds → first_place S A w ≤ i → i < first_place S A (suc w) → (place_at S A i).0 ≡ w
unfolding places
place_world S A w i h a b = pair_at (applies S A) (length A.events) S.worlds w i h a b

-- no place is at `from` or later and below it
pub no_block : (from : ℕ) (A : EventModel) (a e : ℕ) (list : List (ℕ × ℕ)) → numbers_where (is_linked_from from A a e list) from ≡ []
no_block from A a e list = numbers_where-none (is_linked_from from A a e list) from (λ j l. rw (lt-leb from j l) refl)

module _ (S : Kripke) (A : EventModel) (a i : ℕ) where
  -- the places of one world to which a place leads
  here_is : (w : ℕ) → w < S.worlds → numbers_where (λ j. leb (first_place S A w) j && links_both S A a (place_at S A i) (place_at S A j)) (first_place S A (suc w))
      ≡ cond (has_pair (links_of S a) (place_at S A i).0 w) (block S A a (place_at S A i).1 w) []
  here_is w h = by_link (has_pair (links_of S a) (place_at S A i).0 w) refl
    where
      by_link : (b : Bool) → has_pair (links_of S a) (place_at S A i).0 w ≡ b → numbers_where (λ j. leb (first_place S A w) j && links_both S A a (place_at S A i) (place_at S A j)) (first_place S A (suc w)) ≡ cond b (block S A a (place_at S A i).1 w) []
      by_link true e = numbers_where-same (λ j. leb (first_place S A w) j && links_both S A a (place_at S A i) (place_at S A j)) (is_linked_from (first_place S A w) A a (place_at S A i).1 (places S A)) (first_place S A (suc w))
          (λ j l. elim (cases_lt j (first_place S A w)) [
            | inl o ↦ rw (lt-leb (first_place S A w) j o) refl
            | inr g ↦ rw (le-leb (first_place S A w) j g) (ap (λ v. has_pair (links_of S a) (place_at S A i).0 v && has_pair (event_links A a) (place_at S A i).1 (place_at S A j).1) (place_world S A w j h g l) ∙ rw e refl)
          ])
      by_link false e = numbers_where-none (λ j. leb (first_place S A w) j && links_both S A a (place_at S A i) (place_at S A j)) (first_place S A (suc w))
          (λ j l. elim (cases_lt j (first_place S A w)) [
            | inl o ↦ rw (lt-leb (first_place S A w) j o) refl
            | inr g ↦ rw (le-leb (first_place S A w) j g) (ap (λ v. has_pair (links_of S a) (place_at S A i).0 v && has_pair (event_links A a) (place_at S A i).1 (place_at S A j).1) (place_world S A w j h g l) ∙ rw e refl)
          ])

  one_block : (b : Bool) (w : ℕ) → flat_map (block S A a (place_at S A i).1) (cond b (w ∷ []) []) ≡ cond b (block S A a (place_at S A i).1 w) []
  one_block true w = append-nil (block S A a (place_at S A i).1 w)
  one_block false w = refl

  -- the places below those of a world to which a place leads, block by block
  row_below : (w : ℕ) → w ≤ S.worlds → flat_map (block S A a (place_at S A i).1) (numbers_where (has_pair (links_of S a) (place_at S A i).0) w)
      ≡ numbers_where (λ j. links_both S A a (place_at S A i) (place_at S A j)) (first_place S A w)
  row_below zero h = refl
  row_below (suc w) h =
      flat_map-append (block S A a (place_at S A i).1) (numbers_where (has_pair (links_of S a) (place_at S A i).0) w) (cond (has_pair (links_of S a) (place_at S A i).0 w) (w ∷ []) [])
      ∙ ap (λ ys. ys ++ flat_map (block S A a (place_at S A i).1) (cond (has_pair (links_of S a) (place_at S A i).0 w) (w ∷ []) [])) (row_below w (omega arith))
      ∙ ap (λ ys. numbers_where (λ j. links_both S A a (place_at S A i) (place_at S A j)) (first_place S A w) ++ ys) (one_block (has_pair (links_of S a) (place_at S A i).0 w) w ∙ sym (here_is w h))
      ∙ sym (numbers_where-split (λ j. links_both S A a (place_at S A i) (place_at S A j)) (first_place S A w) (first_place S A (suc w)) (first_place-up S A w (suc w) (omega arith)))

  -- the places to which a place leads: those of each successor of its world
  pub row_is : IsState S → flat_map (block S A a (place_at S A i).1) (successors (links_of S a) (place_at S A i).0) ≡ place_row S A a i
  row_is s =
      ap (flat_map (block S A a (place_at S A i).1)) (successors_are_numbers S s a (place_at S A i).0)
      ∙ row_below S.worlds (omega arith)
      ∙ ap (numbers_where (λ j. links_both S A a (place_at S A i) (place_at S A j))) (sym (places-end S A))
