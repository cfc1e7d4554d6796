-- The atoms, the assignments and the pairs of a composition.
use Rattle.std.proofs.Common.{◌≡◌, ℕ, ◌<◌, ◌≤◌, ◌==◌, Bool, true, false, cond, List, [], ◌∷◌, ◌++◌, map, drop, length, get_or, IsTrue, Option, Some, None, refl, sym, ◌∙◌, ap, ap₂, subst}
use Rattle.std.specs.List.{find}
use Rattle.ep_logic.specs.declared.ids.AtomId.{AtomId}
use Rattle.ep_logic.specs.declared.formula.Node.{Node}
use Rattle.ep_theory.specs.Rising.{IsIn}
use Rattle.ep_theory.specs.Events.{Event, EventModel, event_at}
use Rattle.ep_theory.proofs.lists.Lists.{test_itself}
use Rattle.ep_theory.proofs.lists.Filters.{IsIn-at}
use Rattle.ep_theory.proofs.lists.NumbersLemmas.{from_pairs}
use Rattle.ep_event.specs.declared.parts.Assign.{Assign}
use Rattle.ep_event.specs.Built.{set_of}
use Rattle.ep_dynamic.specs.Reduction.{value_of, reduce}
use Rattle.ep_dynamic.specs.Composition.{event_pairs, value_in_turn}
use Rattle.ep_dynamic.proofs.SizeLemmas.{value_is, kept_value, found_at, past_drop}

append : {X Y : Type 0} (f : X → Y) (xs ys : List X) → map f xs ++ map f ys ≡ map f (xs ++ ys)
append f [] ys = refl
append f (x ∷ xs) ys = ap (λ zs. f x ∷ zs) (append f xs ys)

firsts : (sets : List Assign) → map (λ (s : Assign). s.atom.n) sets ≡ map (λ (s : ℕ × Node). s.0) (map set_of sets)
firsts [] = refl
firsts (s ∷ sets) = ap (λ ns. s.atom.n ∷ ns) (firsts sets)

pub atoms_of_both : (d e : Event) (xs ys : List Assign) → map set_of xs ≡ d.sets → map set_of ys ≡ e.sets →
    ([] ++ map (λ (s : Assign). s.atom.n) xs) ++ map (λ (s : Assign). s.atom.n) ys ≡ map (λ (s : ℕ × Node). s.0) (d.sets ++ e.sets)
atoms_of_both d e xs ys p q =
    ap₂ (λ ns ms. ns ++ ms) (firsts xs ∙ ap (map (λ (s : ℕ × Node). s.0)) p) (firsts ys ∙ ap (map (λ (s : ℕ × Node). s.0)) q)
    ∙ append (λ (s : ℕ × Node). s.0) d.sets e.sets

-- the assignment that the code finds
pub value_found : (A : EventModel) (p : AtomId) (e : ℕ) (sets : List Assign) (i : ℕ) (set : Assign) → map set_of sets ≡ (event_at A e).sets →
    find (λ set. set.atom.n == p.n) sets ≡ find (λ set. set.atom.n == p.n) (drop i sets) → i < length sets → set ≡ get_or sets i set → set.atom.n ≡ p.n →
    set.value ≡ value_of (event_at A e) p
value_found A p e sets i set h g l at q =
    let test : IsTrue ((get_or sets i set).atom.n == p.n) = ap (λ (s : Assign). s.atom.n == p.n) (sym at) ∙ ap (λ n. n == p.n) q ∙ test_itself p.n in
    let value = value_is A p e sets (Some (get_or sets i set)) h (g ∙ found_at (λ (s : Assign). s.atom.n == p.n) sets i set l test) in
    ap (λ (s : Assign). s.value) at ∙ sym value

pub value_not_found : (A : EventModel) (p : AtomId) (e : ℕ) (sets : List Assign) (i : ℕ) → map set_of sets ≡ (event_at A e).sets →
    find (λ set. set.atom.n == p.n) sets ≡ find (λ set. set.atom.n == p.n) (drop i sets) → length sets ≤ i → kept_value p None ≡ value_of (event_at A e) p
value_not_found A p e sets i h g l = sym (value_is A p e sets None h (g ∙ ap (find (λ set. set.atom.n == p.n)) (past_drop sets i l)))

-- the same in turn
abbrev kept_in_turn : EventModel → ℕ → ℕ → Option Assign → Node
kept_in_turn A e p None = value_of (event_at A e) (record { n = p })
kept_in_turn A e p (Some set) = reduce A e set.value

turn_step : (A : EventModel) (e p : ℕ) (set : Assign) (b : Bool) (o : Option (ℕ × Node)) (u : Option Assign) → value_in_turn A e p o ≡ kept_in_turn A e p u →
    value_in_turn A e p (cond b (Some (set_of set)) o) ≡ kept_in_turn A e p (cond b (Some set) u)
turn_step A e p set true o u h = refl
turn_step A e p set false o u h = h

turn_set : (A : EventModel) (e p : ℕ) (sets : List Assign) → value_in_turn A e p (find (λ set. set.0 == p) (map set_of sets)) ≡ kept_in_turn A e p (find (λ set. set.atom.n == p) sets)
turn_set A e p [] = refl
turn_set A e p (set ∷ sets) = turn_step A e p set (set.atom.n == p) (find (λ set. set.0 == p) (map set_of sets)) (find (λ set. set.atom.n == p) sets) (turn_set A e p sets)

turn_is : (A B : EventModel) (e f p : ℕ) (sets : List Assign) (o : Option Assign) → map set_of sets ≡ (event_at B f).sets → find (λ set. set.atom.n == p) sets ≡ o →
    value_in_turn A e p (find (λ set. set.0 == p) (event_at B f).sets) ≡ kept_in_turn A e p o
turn_is A B e f p sets o h g = ap (λ (xs : List (ℕ × Node)). value_in_turn A e p (find (λ set. set.0 == p) xs)) (sym h) ∙ turn_set A e p sets ∙ ap (kept_in_turn A e p) g

pub turn_found : (A B : EventModel) (e f p : ℕ) (sets : List Assign) (i : ℕ) (set : Assign) → map set_of sets ≡ (event_at B f).sets →
    find (λ set. set.atom.n == p) sets ≡ find (λ set. set.atom.n == p) (drop i sets) → i < length sets → set ≡ get_or sets i set → set.atom.n ≡ p →
    reduce A e set.value ≡ value_in_turn A e p (find (λ set. set.0 == p) (event_at B f).sets)
turn_found A B e f p sets i set h g l at q =
    let test : IsTrue ((get_or sets i set).atom.n == p) = ap (λ (s : Assign). s.atom.n == p) (sym at) ∙ ap (λ n. n == p) q ∙ test_itself p in
    let value = turn_is A B e f p sets (Some (get_or sets i set)) h (g ∙ found_at (λ (s : Assign). s.atom.n == p) sets i set l test) in
    ap (λ (s : Assign). reduce A e s.value) at ∙ sym value

pub turn_not_found : (A B : EventModel) (e f p : ℕ) (sets : List Assign) (i : ℕ) → map set_of sets ≡ (event_at B f).sets →
    find (λ set. set.atom.n == p) sets ≡ find (λ set. set.atom.n == p) (drop i sets) → length sets ≤ i → value_of (event_at A e) (record { n = p }) ≡ value_in_turn A e p (find (λ set. set.0 == p) (event_at B f).sets)
turn_not_found A B e f p sets i h g l = sym (turn_is A B e f p sets None h (g ∙ ap (find (λ set. set.atom.n == p)) (past_drop sets i l)))

-- the events of a pair are events of the actions
pub pair_events : (A B : EventModel) (pairs : List (ℕ × ℕ)) (i : ℕ) → pairs ≡ event_pairs A B → i < length pairs → ((get_or pairs i (0, 0)).0 < length A.events) × ((get_or pairs i (0, 0)).1 < length B.events)
pair_events A B ps i q l =
    let c = from_pairs (λ e f. true) (length B.events) (length A.events) (get_or ps i (0, 0)) (subst (IsIn (get_or ps i (0, 0))) q (IsIn-at ps i (0, 0) l)) in
    (c.0, c.1)
