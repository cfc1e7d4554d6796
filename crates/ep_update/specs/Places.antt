-- The places of a product by rows of truth values, and the links between them world by world.
use Rattle.std.specs.Prelude.{◌≡◌, ℕ, suc, ◌+◌, ◌<◌, ◌≤◌, Bool, false, ◌&&◌, nat_le, List, [], length, map, slice_index_or}
use Rattle.ep_logic.specs.declared.formula.Node.{Node}
use Rattle.ep_logic.specs.Numbers.{numbers_where, pairs_within, has_pair, table}
use Rattle.ep_theory.specs.Kripke.{Kripke}
use Rattle.ep_theory.specs.Tested.{is_true}
use Rattle.ep_theory.specs.Events.{EventModel, event_links}
use Rattle.ep_theory.specs.Product.{applies, places, place_at, links_both}
use Rattle.ep_update.specs.declared.places.Places.{Places}

-- the truth of a formula at each world
abbrev pub label_of : Kripke → Node → List Bool
label_of S f = table (λ w. is_true S w f) S.worlds

-- for each event, the truth of its precondition at each world
abbrev pub precondition_labels : Kripke → EventModel → List (List Bool)
precondition_labels S A = map (λ event. label_of S event.pre) A.events

-- for each event, for each of its assignments, the truth of its formula at each world
abbrev pub value_labels : Kripke → EventModel → List (List (List Bool))
value_labels S A = map (λ event. map (λ set. label_of S set.1) event.sets) A.events

-- for each event, for each of its assignments, the atom and the truth of its formula at each world
abbrev pub assignment_labels : Kripke → EventModel → List (List (ℕ × List Bool))
assignment_labels S A = map (λ event. map {A = ℕ × Node} {B = ℕ × List Bool} (λ set. (set.0, label_of S set.1)) event.sets) A.events

-- whether the label of the event is true at the world
abbrev pub is_labelled : List (List Bool) → ℕ → ℕ → Bool
is_labelled rows w e = slice_index_or (slice_index_or rows e []) w false

-- the pairs of a world below m and an event whose label is true there
abbrev pub labelled_pairs : List (List Bool) → ℕ → List (ℕ × ℕ)
labelled_pairs rows m = pairs_within (is_labelled rows) (length rows) m

-- how many places have a world below w
abbrev pub first_place : Kripke → EventModel → ℕ → ℕ
first_place S A w = length (pairs_within (applies S A) (length A.events) w)

-- whether the place is at `from` or later, and its event is one to which the agent links the event e
abbrev pub is_linked_from : ℕ → EventModel → ℕ → ℕ → List (ℕ × ℕ) → ℕ → Bool
is_linked_from from A a e list j = nat_le from j && has_pair (event_links A a) e (slice_index_or list j (0, 0)).1

-- the places of world v to whose events the agent links the event e
abbrev pub block : Kripke → EventModel → ℕ → ℕ → ℕ → List ℕ
block S A a e v = numbers_where (is_linked_from (first_place S A v) A a e (places S A)) (first_place S A (suc v))

-- the places to which the agent links place i
abbrev pub place_row : Kripke → EventModel → ℕ → ℕ → List ℕ
place_row S A a i = numbers_where (λ j. links_both S A a (place_at S A i) (place_at S A j)) (length (places S A))

-- those places for each place
abbrev pub place_rows : Kripke → EventModel → ℕ → List (List ℕ)
place_rows S A a = table (place_row S A a) (length (places S A))

-- the number of the old row of a place, by the names of the worlds' rows, and its event
abbrev pub pair_of : List ℕ → ℕ × ℕ → ℕ × ℕ
pair_of names at = (slice_index_or names at.0 0, at.1)

-- for each place a place, no later, whose row is equal
pub record AreOriginals (S : Kripke) (A : EventModel) (a : ℕ) (originals : List ℕ) : Type 0 where
  pub long : length originals ≡ length (places S A)
  pub no_later : (i : ℕ) → i < length (places S A) → slice_index_or originals i 0 ≤ i
  pub equal : (i : ℕ) → i < length (places S A) → place_row S A a (slice_index_or originals i 0) ≡ place_row S A a i

-- the places by the labels, and for each world, and for their number, how many have an earlier world
pub record AreLabelled (worlds : ℕ) (rows : List (List Bool)) (found : Places) : Type 0 where
  pub list : found.list.items ≡ labelled_pairs rows worlds
  pub firsts : found.firsts.items ≡ table (λ w. length (labelled_pairs rows w)) (worlds + 1)

-- the same of the product
pub record ArePlaces (S : Kripke) (A : EventModel) (found : Places) : Type 0 where
  pub list : found.list.items ≡ places S A
  pub firsts : found.firsts.items ≡ table (first_place S A) (S.worlds + 1)
