-- The places of rows in a table that grows.
use Rattle.std.proofs.Common.{◌≡◌, ℕ, zero, suc, ◌+◌, ◌<◌, ◌≤◌, Bool, List, [], ◌∷◌, ◌++◌, length, map, get_or, take, drop, slice_get, Some, refl, sym, ap, ap₂, subst, ◌∙◌, arith, append-nil}
use Rattle.std.specs.List.{AllByRecursion, flat_map}
use Rattle.std.proofs.lemmas.Grind.{flat_map-append}
use Rattle.std.proofs.lemmas.List.{same_lists, get_or-map, length-map, map-append, take_more, take_all}
use Rattle.ep_logic.specs.Numbers.{has_number}
use Rattle.ep_logic.specs.Rows.{value_at, true_places}
use Rattle.ep_logic.proofs.CallerLemmas.{length-table, get_or-table, row_is_table}
use Rattle.ep_theory.specs.Kripke.{successors}
use Rattle.ep_theory.specs.Relations.{all_pairs}
use Rattle.ep_theory.proofs.CallerLemmas.{successors-all_pairs, in_numbers, from_numbers, to_has_number, from_has_number}
use Rattle.ep_kripke.specs.Relations.{members, named_rows}
use Rattle.ep_kripke.specs.States.{state_of, HaveRows, AreRow}
use Rattle.ep_kripke.specs.RowTables.{Keeps}
use Rattle.ep_kripke.specs.Interning.{row_of, successor_rows, state_rows, ArePlaces}
use Rattle.ep_kripke.proofs.NamingLemmas.{marked}
use Rattle.ep_kripke.proofs.RelationLemmas.{same_truth}

pub first : {A : Type 0} (x y : A) (xs ys : List A) → x ∷ xs ≡ y ∷ ys → x ≡ y
first x y xs ys e = ap (λ zs. get_or zs 0 x) e

pub rest : {A : Type 0} (x y : A) (xs ys : List A) → x ∷ xs ≡ y ∷ ys → xs ≡ ys
rest x y xs ys e = ap (drop 1) e

-- a table that grows
pub keeps_itself : (rows : List (List Bool)) → Keeps rows rows
keeps_itself rows n row h = h

pub keeps_more : (a b c : List (List Bool)) → Keeps a b → Keeps b c → Keeps a c
keeps_more a b c f g n row h = g n row (f n row h)

pub places_kept : (old new : List (List Bool)) (ps : List ℕ) (rows : List (List Bool)) → Keeps old new → ArePlaces old ps rows → ArePlaces new ps rows
places_kept old new [] [] k e = refl
places_kept old new [] (r ∷ rows) k e = absurd (omega (arith, ap length e))
places_kept old new (p ∷ ps) [] k e = absurd (omega (arith, ap length e))
places_kept old new (p ∷ ps) (r ∷ rows) k e = ap₂ (λ x xs. x ∷ xs) (k p r (first _ _ _ _ e)) (places_kept old new ps rows k (rest _ _ _ _ e))

pub places_append : (all : List (List Bool)) (ps qs : List ℕ) (rows more : List (List Bool)) → ArePlaces all ps rows → ArePlaces all qs more → ArePlaces all (ps ++ qs) (rows ++ more)
places_append all ps qs rows more e f = map-append (slice_get all) ps qs ∙ ap₂ (λ x y. x ++ y) e f ∙ sym (map-append Some rows more)

-- one place more
pub places_more : (old new : List (List Bool)) (ps : List ℕ) (rows : List (List Bool)) (p : ℕ) (row : List Bool) → Keeps old new → ArePlaces old ps rows → slice_get new p ≡ Some row → ArePlaces new (ps ++ p ∷ []) (rows ++ row ∷ [])
places_more old new ps rows p row k e h = places_append new ps (p ∷ []) rows (row ∷ []) (places_kept old new ps rows k e) (ap (λ o. o ∷ []) h)

-- the next of some rows
pub places_next : (old new : List (List Bool)) (ps qs : List ℕ) (rows : List (List Bool)) (k p : ℕ) (row : List Bool) → Keeps old new → ArePlaces old ps (take k rows) → slice_get new p ≡ Some row →
    k < length rows → row ≡ get_or rows k [] → qs ≡ ps ++ p ∷ [] → ArePlaces new qs (take (k + 1) rows)
places_next old new ps qs rows k p row kept e h l is q =
    subst (λ xs. ArePlaces new xs (take (k + 1) rows)) (sym q)
    (subst (λ rs. ArePlaces new (ps ++ p ∷ []) rs) (sym (take_more rows k [] l)) (places_more old new ps (take k rows) p (get_or rows k []) kept e (h ∙ ap Some is)))

-- the places of all of them
pub places_all : (all : List (List Bool)) (ps : List ℕ) (rows : List (List Bool)) (k : ℕ) → ArePlaces all ps (take k rows) → length rows ≤ k → ArePlaces all ps rows
places_all all ps rows k e l = subst (λ rs. ArePlaces all ps rs) (take_all k rows l) e

place_at : (all : List (List Bool)) (ps : List ℕ) (rows : List (List Bool)) (i : ℕ) → ArePlaces all ps rows → i < length rows → slice_get all (get_or ps i 0) ≡ Some (get_or rows i [])
place_at all [] [] i e l = absurd (omega arith)
place_at all [] (r ∷ rows) i e l = absurd (omega (arith, ap length e))
place_at all (p ∷ ps) [] i e l = absurd (omega arith)
place_at all (p ∷ ps) (r ∷ rows) zero e l = first _ _ _ _ e
place_at all (p ∷ ps) (r ∷ rows) (suc i) e l = place_at all ps rows i (rest _ _ _ _ e) (omega arith)

-- the places of rows by their names
pub places_of_names : (all : List (List Bool)) (ps : List ℕ) (n : ℕ) (rows : List (List ℕ)) (names : List ℕ) → ArePlaces all ps (map (row_of n) rows) → AllByRecursion (λ i. i < length rows) names →
    ArePlaces all (map (λ i. get_or ps i 0) names) (map (row_of n) (named_rows names rows))
places_of_names all ps n rows [] e w = refl
places_of_names all ps n rows (i ∷ names) e w =
    let here : slice_get all (get_or ps i 0) ≡ Some (get_or (map (row_of n) rows) i []) = place_at all ps (map (row_of n) rows) i e (omega (arith, w.0, length-map rows (row_of n))) in
    ap₂ (λ x xs. x ∷ xs) (here ∙ ap Some (get_or-map (row_of n) rows i [] [] w.0)) (places_of_names all ps n rows names e w.1)

pub as_many : (all : List (List Bool)) (ps : List ℕ) (rows : List (List Bool)) → ArePlaces all ps rows → length ps ≡ length rows
as_many all ps rows e = sym (length-map ps (slice_get all)) ∙ ap length e ∙ length-map rows Some

-- the members of rows over the worlds are those of the rows
pub named_again : (n : ℕ) (rows : List (List ℕ)) (names : List ℕ) → AllByRecursion (λ i. i < length rows) names → AllByRecursion (AreRow n) (named_rows names rows) →
    named_rows names (map members (map (row_of n) rows)) ≡ named_rows names rows
named_again n rows [] w f = refl
named_again n rows (i ∷ names) w f =
    let one : get_or (map members (map (row_of n) rows)) i [] ≡ get_or rows i [] =
    get_or-map members (map (row_of n) rows) i [] [] (omega (arith, w.0, length-map rows (row_of n)))
    ∙ ap members (get_or-map (row_of n) rows i [] [] w.0)
    ∙ marked (get_or rows i []) n f.0.rising f.0.within in
    ap₂ (λ x xs. x ∷ xs) one (named_again n rows names w.1 f.1)

pub rows_again : (n : ℕ) (rows : List (List ℕ)) (names ns : List ℕ) (seen kept : List (List ℕ)) (shared : List (List Bool)) → AllByRecursion (λ i. i < length rows) names → named_rows names rows ≡ seen → AllByRecursion (AreRow n) seen →
    ns ≡ names → shared ≡ map (row_of n) rows → kept ≡ map members shared → named_rows ns kept ≡ seen
rows_again n rows names ns seen kept shared w e f q r k = ap₂ named_rows q (k ∙ ap (map members) r) ∙ named_again n rows names w (subst (AllByRecursion (AreRow n)) (sym e) f) ∙ e

-- the links of one agent more
pub links_next : (n : ℕ) (old new : List (List Bool)) (ps qs more : List ℕ) (relations : List (List (List ℕ))) (k : ℕ) (rows : List (List ℕ)) → Keeps old new → ArePlaces old ps (flat_map (map (row_of n)) (take k relations)) →
    ArePlaces new more (map (row_of n) rows) → k < length relations → rows ≡ get_or relations k [] → qs ≡ ps ++ more → ArePlaces new qs (flat_map (map (row_of n)) (take (k + 1) relations))
links_next n old new ps qs more relations k rows kept e h l is q =
    subst (λ xs. ArePlaces new xs (flat_map (map (row_of n)) (take (k + 1) relations))) (sym q)
    (subst (λ rs. ArePlaces new (ps ++ more) rs)
    (ap (λ r. flat_map (map (row_of n)) (take k relations) ++ r) (ap (map (row_of n)) is ∙ sym (append-nil (map (row_of n) (get_or relations k []))))
    ∙ sym (flat_map-append (map (row_of n)) (take k relations) (get_or relations k [] ∷ [])) ∙ ap (flat_map (map (row_of n))) (sym (take_more relations k [] l)))
    (places_append new ps more (flat_map (map (row_of n)) (take k relations)) (map (row_of n) rows) (places_kept old new ps (flat_map (map (row_of n)) (take k relations)) kept e) h))

-- a row of n values is the row of its members
pub row_again : (n : ℕ) (row : List Bool) → length row ≡ n → row ≡ row_of n (members row)
unfolding members
row_again n row long = row_is_table (has_number (true_places row)) n row long (λ i l. same_truth (value_at row i) (has_number (true_places row) i)
    (λ t. to_has_number (true_places row) i (in_numbers (value_at row) (length row) i (omega (arith, l, long)) t))
    (λ t. (from_numbers (value_at row) (length row) i (from_has_number (true_places row) i t)).1))

-- rows of successors, as they are kept
kept_rows : (n : ℕ) (rows : List (List ℕ)) → length rows ≡ n → successor_rows n (all_pairs rows) ≡ map (row_of n) rows
kept_rows n rows long = same_lists (successor_rows n (all_pairs rows)) (map (row_of n) rows) (length-table (λ w. row_of n (successors (all_pairs rows) w)) n ∙ sym long ∙ sym (length-map rows (row_of n))) (λ w d l.
    let m : w < n = omega (arith, l, length-table (λ w. row_of n (successors (all_pairs rows) w)) n) in
    get_or-table (λ w. row_of n (successors (all_pairs rows) w)) n w d m
    ∙ ap (row_of n) (successors-all_pairs rows w (omega (arith, m, long)))
    ∙ sym (get_or-map (row_of n) rows w [] d (omega (arith, m, long))))

pub links_kept : (n : ℕ) (relations : List (List (List ℕ))) → HaveRows n relations → flat_map (successor_rows n) (map all_pairs relations) ≡ flat_map (map (row_of n)) relations
links_kept n [] h = refl
links_kept n (rows ∷ relations) h = ap₂ (λ x y. x ++ y) (kept_rows n rows h.0) (links_kept n relations h.1)

-- the places of the rows of a state
pub state_stands : (all : List (List Bool)) (agents atoms : ℕ) (truth : List (List Bool)) (relations : List (List (List ℕ))) (designated ts ls : List ℕ) (d : ℕ) → HaveRows (length truth) relations →
    ArePlaces all ts truth → ArePlaces all ls (flat_map (map (row_of (length truth))) relations) → slice_get all d ≡ Some (row_of (length truth) designated) →
    ArePlaces all (ts ++ (ls ++ d ∷ [])) (state_rows (state_of agents atoms truth relations designated))
unfolding state_rows
state_stands all agents atoms truth relations designated ts ls d h e f g =
    places_append all ts (ls ++ d ∷ []) truth (flat_map (successor_rows (length truth)) (map all_pairs relations) ++ row_of (length truth) designated ∷ []) e
    (places_append all ls (d ∷ []) (flat_map (successor_rows (length truth)) (map all_pairs relations)) (row_of (length truth) designated ∷ [])
    (subst (λ rows. ArePlaces all ls rows) (sym (links_kept (length truth) relations h)) f) (ap (λ o. o ∷ []) g))
