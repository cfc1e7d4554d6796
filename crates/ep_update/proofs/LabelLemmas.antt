-- What the labels of an action say.
use Rattle.std.proofs.Common.{◌≡◌, ◌↔◌, ℕ, ◌<◌, Bool, false, List, [], ◌∷◌, map, length, get_or, Option, Some, None, option_map, refl, sym, ◌∙◌, ap, subst, arith}
use Rattle.std.proofs.lemmas.List.{get_or_default, length-map}
use Rattle.std.proofs.lemmas.Option.{none-some}
use Rattle.ep_logic.specs.declared.formula.Node.{Node}
use Rattle.ep_logic.specs.declared.ids.WorldId.{WorldId}
use Rattle.std.specs.List.{AllByRecursion}
use Rattle.ep_event.specs.declared.parts.Assign.{Assign}
use Rattle.ep_event.specs.Built.{set_of}
use Rattle.ep_kripke.specs.Parts.{world}
use Rattle.ep_theory.specs.Kripke.{Kripke}
use Rattle.ep_theory.specs.Fits.{SetFits, EventFits, ActionFits}
use Rattle.ep_theory.specs.Events.{Event, EventModel, IsAction, event_at, no_event}
use Rattle.ep_theory.specs.Tested.{is_true}
use Rattle.ep_theory.proofs.CallerLemmas.{get_or-map_within, All-at, All-map}
use Rattle.ep_logic.proofs.CallerLemmas.{length-table, get_or-table}
use Rattle.ep_update.specs.Places.{label_of, precondition_labels, value_labels}
use Rattle.ep_update.proofs.AssignedLemmas.{no_set}
use Rattle.ep_update.proofs.FittingLemmas.{set_at, set_within}

-- the row of an event
pub label_row : (S : Kripke) (A : EventModel) (e : ℕ) (rows : List (List Bool)) (row : List Bool) → rows ≡ precondition_labels S A → e < length A.events → row ≡ get_or rows e row → row ≡ label_of S (event_at A e).pre
label_row S A e rows row h l r =
    let k : e < length rows = omega (arith, ap length h, length-map A.events (λ (event : Event). label_of S event.pre)) in
    r ∙ get_or_default rows e row [] k ∙ ap (λ xs. get_or xs e []) h ∙ get_or-map_within (λ (event : Event). label_of S event.pre) A.events e no_event [] l

pub label_long : (S : Kripke) (f : Node) (row : List Bool) → row ≡ label_of S f → length row ≡ S.worlds
label_long S f row h = ap length h ∙ length-table (λ w. is_true S w f) S.worlds

pub label_tells : (S : Kripke) (f : Node) (row : List Bool) (w : ℕ) → row ≡ label_of S f → w < S.worlds → get_or row w false ≡ is_true S w f
label_tells S f row w h l = ap (λ xs. get_or xs w false) h ∙ get_or-table (λ w. is_true S w f) S.worlds w false l

-- the row of an assignment
pub value_row : (S : Kripke) (A : EventModel) (e i : ℕ) (values : List (List (List Bool))) (here : List (List Bool)) (row : List Bool) → values ≡ value_labels S A → e < length A.events → here ≡ get_or values e here →
    i < length (event_at A e).sets → row ≡ get_or here i row → row ≡ label_of S (get_or (event_at A e).sets i no_set).1
value_row S A e i values here row h l r k t =
    let f : Event → List (List Bool) = λ event. map (λ (set : ℕ × Node). label_of S set.1) event.sets in
    let n : e < length values = omega (arith, ap length h, length-map A.events (λ (event : Event). map (λ (set : ℕ × Node). label_of S set.1) event.sets)) in
    let own : here ≡ map (λ (set : ℕ × Node). label_of S set.1) (event_at A e).sets =
    r ∙ get_or_default values e here [] n ∙ ap (λ xs. get_or xs e []) h ∙ get_or-map_within (λ (event : Event). map (λ (set : ℕ × Node). label_of S set.1) event.sets) A.events e no_event [] l in
    let m : i < length here = omega (arith, ap length own, length-map (event_at A e).sets (λ (set : ℕ × Node). label_of S set.1)) in
    t ∙ get_or_default here i row [] m ∙ ap (λ xs. get_or xs i []) own ∙ get_or-map_within (λ (set : ℕ × Node). label_of S set.1) (event_at A e).sets i no_set [] k

-- an answer that is none exactly where the world is
none_same : (o : Option ℕ) → (option_map world o ≡ None) ↔ (o ≡ None)
none_same None = (λ _. refl, λ _. refl)
none_same (Some w) = (λ h. absurd (none-some (world w) (sym h)), λ h. absurd (none-some w (sym h)))

pub none_exactly : (o : Option ℕ) (r : Option WorldId) (P : Type 0) → r ≡ option_map world o → (o ≡ None) ↔ P → (r ≡ None) ↔ P
none_exactly o r P e h = (λ n. h.0 ((none_same o).0 (sym e ∙ n)), λ p. e ∙ (none_same o).1 (h.1 p))

-- the row of a designated event
pub record IsDesignatedRow (S : Kripke) (A : EventModel) (i : ℕ) (row : List Bool) : Type 0 where
  pub place : i < length A.designated
  pub tells : row ≡ label_of S (event_at A (get_or A.designated i 0)).pre

pub designated_row : (S : Kripke) (A : EventModel) (rows : List (List Bool)) (items : List ℕ) (i : ℕ) (row : List Bool) → IsAction A → rows ≡ precondition_labels S A → items ≡ A.designated → i < length items → row ≡ get_or rows (get_or items i 0) row → IsDesignatedRow S A i row
designated_row S A rows items i row m h e l r =
    let place : i < length A.designated = omega (arith, ap length e) in
    let event : get_or A.designated i 0 < length A.events = All-at (λ e. e < length A.events) A.designated i 0 place m.designated_within in
    record { place = place; tells = label_row S A (get_or A.designated i 0) rows row h event (r ∙ ap (λ xs. get_or rows (get_or xs i 0) row) e) }

-- the labels of assignments as they are kept
map-map : {X Y Z : Type 0} (g : Y → Z) (f : X → Y) (xs : List X) → map g (map f xs) ≡ map (λ x. g (f x)) xs
map-map g f [] = refl
map-map g f (x ∷ xs) = ap (λ l. g (f x) ∷ l) (map-map g f xs)

pub kept_labels : (S : Kripke) (kept sets : List Assign) (listed : List (ℕ × Node)) → kept ≡ sets → map set_of sets ≡ listed → map (λ (set : Assign). label_of S set.value) kept ≡ map (λ (set : ℕ × Node). label_of S set.1) listed
kept_labels S kept sets listed k e =
    ap (map (λ (set : Assign). label_of S set.value)) k
    ∙ sym (map-map (λ (set : ℕ × Node). label_of S set.1) set_of sets)
    ∙ ap (map (λ (set : ℕ × Node). label_of S set.1)) e

-- the rows of labels
pub labels_long : (S : Kripke) (A : EventModel) (n : ℕ) (rows : List (List Bool)) → n ≡ S.worlds → rows ≡ precondition_labels S A → AllByRecursion (λ (row : List Bool). length row ≡ n) rows
labels_long S A n rows e h = subst (λ rs. AllByRecursion (λ (row : List Bool). length row ≡ n) rs) (sym h)
    (All-map (λ (row : List Bool). length row ≡ n) (λ (event : Event). label_of S event.pre) A.events (λ event i. label_long S event.pre (label_of S event.pre) refl ∙ sym e))

pub labels_count : (S : Kripke) (A : EventModel) (rows : List (List Bool)) → rows ≡ precondition_labels S A → length rows ≡ length A.events
labels_count S A rows h = ap length h ∙ length-map A.events (λ (event : Event). label_of S event.pre)

-- an assignment and its label, as they are read
pub record IsAssigned (S : Kripke) (A : EventModel) (e i : ℕ) (kept : Assign) (label : List Bool) : Type 0 where
  pub place : i < length (event_at A e).sets
  pub set : set_of kept ≡ get_or (event_at A e).sets i no_set
  pub tells : label ≡ label_of S (get_or (event_at A e).sets i no_set).1
  pub fits : (get_or (event_at A e).sets i no_set).0 < S.atoms

pub assigned_at : (S : Kripke) (A : EventModel) (e i : ℕ) (kept sets : List Assign) (d : Assign) (values : List (List (List Bool))) (here rows : List (List Bool)) (label : List Bool) → ActionFits S A → e < length A.events →
    kept ≡ sets → map set_of sets ≡ (event_at A e).sets → i < length kept → values ≡ value_labels S A → here ≡ get_or values e here → rows ≡ here → label ≡ get_or rows i label → IsAssigned S A e i (get_or kept i d) label
assigned_at S A e i kept sets d values here rows label f l k m n v h r t =
    let listed : map set_of kept ≡ (event_at A e).sets = ap (map set_of) k ∙ m in
    let place : i < length (event_at A e).sets = set_within kept (event_at A e).sets i (ap (map set_of) k ∙ m) n in
    let fits = All-at (EventFits S) A.events e no_event l f.events in
    record {
      place = place;
      set = set_at kept (event_at A e).sets i d (ap (map set_of) k ∙ m) n;
      tells = value_row S A e i values here label v l h place (t ∙ ap (λ (xs : List (List Bool)). get_or xs i label) r);
      fits = (All-at (SetFits S) (event_at A e).sets i no_set place fits.sets).0;
    }
