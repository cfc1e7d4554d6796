-- A row of the product from the places of the successors.
use Rattle.std.proofs.Common.{◌≡◌, ℕ, suc, ◌+◌, ◌<◌, ◌≤◌, Bool, List, flat_map, length, get_or, IsTrue, ◌↔◌, sym, ◌∙◌, ap, subst, arith, refl}
use Rattle.std.proofs.lemmas.List.{get_or_default}
use Rattle.std.specs.Cmp.{both_ways}
use Rattle.std.specs.List.{AllByRecursion}
use Rattle.std.specs.Ordering.{nat_cmp}
use Rattle.ep_theory.specs.Rising.{IsIn, IsRising}
use Rattle.ep_logic.specs.Numbers.{numbers_where, has_number, has_pair, table}
use Rattle.ep_theory.specs.Kripke.{Kripke, IsState, links_of, successors}
use Rattle.ep_theory.specs.Events.{EventModel}
use Rattle.ep_theory.specs.Product.{places, place_at, links_both}
use Rattle.ep_theory.proofs.CallerLemmas.{All-from_each, from_successors, to_has_number, from_has_number, to_has_pair, from_has_pair, is_place, from_numbers, links_within, rising_numbers}
use Rattle.ep_logic.proofs.CallerLemmas.{length-table, get_or-table}
use Rattle.ep_update.specs.Places.{block, place_row, first_place, is_linked_from, AreLabelled, ArePlaces, precondition_labels, labelled_pairs}
use Rattle.ep_update.specs.declared.places.Places.{Places}
use Rattle.ep_update.proofs.PlaceLemmas.{row_is, first_place-up, places-end, labelled_are, labelled_places}
use Rattle.ep_update.proofs.NumbersWhere.{table-same, length-numbers_where}

-- tests by membership
pub has_pair_is : (ps : List (ℕ × ℕ)) (e f : ℕ) (b : Bool) → IsTrue b ↔ IsIn (e, f) ps → has_pair ps e f ≡ b
has_pair_is ps e f b h = both_ways (has_pair ps e f) b (λ t. h.1 (from_has_pair ps e f t)) (λ t. to_has_pair ps e f (h.0 t))

pub has_number_is : (xs : List ℕ) (x : ℕ) (b : Bool) → IsTrue b ↔ IsIn x xs → has_number xs x ≡ b
has_number_is xs x b h = both_ways (has_number xs x) b (λ t. h.1 (from_has_number xs x t)) (λ t. to_has_number xs x (h.0 t))

-- a place has a world and an event
pub place_in : (S : Kripke) (A : EventModel) (list : List (ℕ × ℕ)) (i : ℕ) → list ≡ places S A → i < length list → ((get_or list i (0, 0)).0 < S.worlds) × ((get_or list i (0, 0)).1 < length A.events)
place_in S A list i e l =
    let p = is_place S A i (subst (λ (xs : List (ℕ × ℕ)). i < length xs) e l) in
    subst (λ (xs : List (ℕ × ℕ)). ((get_or xs i (0, 0)).0 < S.worlds) × ((get_or xs i (0, 0)).1 < length A.events)) (sym e) (p.world, p.event)

-- the successors are worlds
pub successors_within : (S : Kripke) → IsState S → (a w : ℕ) (targets : List ℕ) → targets ≡ successors (links_of S a) w → (n : ℕ) → n ≡ S.worlds → AllByRecursion (λ v. v < n) targets
successors_within S s a w targets e n m = All-from_each (λ v. v < n) targets (λ v i.
    subst (λ k. v < k) (sym m) (links_within S s a w v (from_successors w v (links_of S a) (subst (IsIn v) e i))).1)

pub block_is : (S : Kripke) (A : EventModel) (a e v from to : ℕ) (list : List (ℕ × ℕ)) → from ≡ first_place S A v → to ≡ first_place S A (suc v) → list ≡ places S A → numbers_where (is_linked_from from A a e list) to ≡ block S A a e v
block_is S A a e v from to list f t l = rw (f, t, l) refl

-- what reading the table of first places gives
module _ (S : Kripke) (A : EventModel) (found : Places) (are : ArePlaces S A found) where
  pub firsts_long : length found.firsts.items ≡ S.worlds + 1
  firsts_long = ap length are.firsts ∙ length-table (first_place S A) (S.worlds + 1)

  pub first_read : (v : ℕ) → v ≤ S.worlds → get_or found.firsts.items v 0 ≡ first_place S A v
  first_read v l = ap (λ xs. get_or xs v 0) are.firsts ∙ get_or-table (first_place S A) (S.worlds + 1) v 0 (omega arith)

  pub first_next : (v : ℕ) → v < S.worlds → get_or found.firsts.items (v + 1) 0 ≡ first_place S A (suc v)
  first_next v l = let one : v + 1 ≡ suc v = omega arith in ap (λ k. get_or found.firsts.items k 0) one ∙ first_read (suc v) (omega arith)

  pub first_order : (v : ℕ) → v < S.worlds → get_or found.firsts.items v 0 ≤ get_or found.firsts.items (v + 1) 0
  first_order v l = omega (arith, first_read v (omega arith), first_next v l, first_place-up S A v (suc v) (omega arith))

  pub first_within : (v : ℕ) → v < S.worlds → get_or found.firsts.items (v + 1) 0 ≤ length found.list.items
  first_within v l = omega (arith, first_next v l, first_place-up S A (suc v) S.worlds l, places-end S A, ap length are.list)

-- the two numbers that are read are where the places of a world begin and end
pub record IsRange (S : Kripke) (A : EventModel) (found : Places) (v from to : ℕ) : Type 0 where
  pub begin : from ≡ first_place S A v
  pub past : to ≡ first_place S A (suc v)
  pub order : from ≤ to
  pub within : to ≤ length found.list.items

pub range_of : (S : Kripke) (A : EventModel) (found : Places) (v from to : ℕ) → ArePlaces S A found → v < S.worlds → from ≡ get_or found.firsts.items v from → to ≡ get_or found.firsts.items (v + 1) to → IsRange S A found v from to
range_of S A found v from to are l f t =
    let long = firsts_long S A found are in
    let begin : from ≡ get_or found.firsts.items v 0 = f ∙ get_or_default found.firsts.items v from 0 (omega (arith, l, firsts_long S A found are)) in
    let past : to ≡ get_or found.firsts.items (v + 1) 0 = t ∙ get_or_default found.firsts.items (v + 1) to 0 (omega (arith, l, firsts_long S A found are)) in
    record {
      begin = begin ∙ first_read S A found are v (omega arith);
      past = past ∙ first_next S A found are v l;
      order = omega (arith, begin, past, first_order S A found are v l);
      within = omega (arith, past, first_within S A found are v l);
    }

-- the places by the labels of an action are those of the product
pub are_places : (S : Kripke) (A : EventModel) (n : ℕ) (rows : List (List Bool)) (found : Places) → n ≡ S.worlds → rows ≡ precondition_labels S A → AreLabelled n rows found → ArePlaces S A found
are_places S A n rows found e h are = record {
  list = are.list ∙ ap (λ k. labelled_pairs rows k) e ∙ ap (λ r. labelled_pairs r S.worlds) h ∙ labelled_places S A;
  firsts = are.firsts ∙ ap (λ k. table (λ w. length (labelled_pairs rows w)) (k + 1)) e ∙ ap (λ r. table (λ w. length (labelled_pairs r w)) (S.worlds + 1)) h
      ∙ table-same (λ w. length (labelled_pairs (precondition_labels S A) w)) (first_place S A) (S.worlds + 1) (λ w l. ap length (labelled_are S A w (omega arith)));
}

-- what is known of the row of a place: the places of the successors of its world
pub record IsRowOf (S : Kripke) (A : EventModel) (a i : ℕ) (at : ℕ × ℕ) (targets : List ℕ) : Type 0 where
  pub within : AllByRecursion (λ v. v < S.worlds) targets
  pub joined : flat_map (block S A a at.1) targets ≡ place_row S A a i
  pub short : length (flat_map (block S A a at.1) targets) ≤ length (places S A)

-- the pair of a place, as it is read
pub place_read : (S : Kripke) (A : EventModel) (found : Places) (i : ℕ) (at : ℕ × ℕ) → ArePlaces S A found → i < length (places S A) → at ≡ get_or found.list.items i at → at ≡ place_at S A i
place_read S A found i at are l e = e ∙ get_or_default found.list.items i at (0, 0) (omega (arith, l, ap length are.list)) ∙ ap (λ (xs : List (ℕ × ℕ)). get_or xs i (0, 0)) are.list

pub place_fits : (S : Kripke) (A : EventModel) (i : ℕ) (at : ℕ × ℕ) → i < length (places S A) → at ≡ place_at S A i → (at.0 < S.worlds) × (at.1 < length A.events)
place_fits S A i at l e =
    let p = is_place S A i l in
    (subst (λ (x : ℕ × ℕ). x.0 < S.worlds) (sym e) p.world, subst (λ (x : ℕ × ℕ). x.1 < length A.events) (sym e) p.event)

pub row_of : (S : Kripke) (A : EventModel) → IsState S → (a i : ℕ) (at : ℕ × ℕ) (targets : List ℕ) → i < length (places S A) → at ≡ place_at S A i → targets ≡ successors (links_of S a) at.0 → IsRowOf S A a i at targets
row_of S A s a i at targets l here t =
    let joined : flat_map (block S A a at.1) targets ≡ place_row S A a i =
    ap (flat_map (block S A a at.1)) t
    ∙ ap (λ (x : ℕ × ℕ). flat_map (block S A a x.1) (successors (links_of S a) x.0)) here
    ∙ row_is S A a i s in
    record {
      within = successors_within S s a at.0 targets t S.worlds refl;
      joined = joined;
      short = omega (arith, ap length joined, length-numbers_where (λ j. links_both S A a (place_at S A i) (place_at S A j)) (length (places S A)));
    }

-- the row as one of worlds
pub row_rises : (S : Kripke) (A : EventModel) (a i : ℕ) (row : List ℕ) → row ≡ place_row S A a i → IsRising nat_cmp row
row_rises S A a i row e = subst (IsRising nat_cmp) (sym e) (rising_numbers (λ j. links_both S A a (place_at S A i) (place_at S A j)) (length (places S A)))

pub row_within : (S : Kripke) (A : EventModel) (a i n : ℕ) (row : List ℕ) → row ≡ place_row S A a i → n ≡ length (places S A) → AllByRecursion (λ v. v < n) row
row_within S A a i n row e m = All-from_each (λ v. v < n) row (λ v k.
    subst (λ b. v < b) (sym m) (from_numbers (λ j. links_both S A a (place_at S A i) (place_at S A j)) (length (places S A)) v (subst (IsIn v) e k)).0)

pub row_short : (S : Kripke) (A : EventModel) (a i : ℕ) → length (place_row S A a i) ≤ length (places S A)
row_short S A a i = length-numbers_where (λ j. links_both S A a (place_at S A i) (place_at S A j)) (length (places S A))
