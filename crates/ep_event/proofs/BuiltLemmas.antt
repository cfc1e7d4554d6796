-- What no refusal says of parts, and the action that they give.
use Rattle.std.proofs.Common.{◌≡◌, ℕ, zero, suc, ◌<◌, ◌≤◌, Bool, true, false, not, cond, ◌&&◌, ◌==◌, List, [], ◌∷◌, map, length, get_or, eqb, ltb, refl, sym, ◌∙◌, ap, subst, arith, Option, Some, None, position, option_map, option_and_then, is_some, inl}
use Rattle.std.proofs.lemmas.Bool.{ltb-false, ltb-true}
use Rattle.std.proofs.lemmas.Option.{none-some}
use Rattle.std.proofs.lemmas.List.{length-map, get_or-map}
use Rattle.std.proofs.lemmas.List.Sums.{fails_before_first}
use Rattle.std.proofs.lemmas.List.Quantifiers.{position-Some}
use Rattle.std.specs.List.{position_or_len, AllByRecursion}
use Rattle.ep_base.specs.Refusals.{when, above}
use Rattle.ep_base.proofs.CallerLemmas.{no_place, none_first, not_above, not_when}
use Rattle.ep_logic.specs.declared.formula.Node.TheVariants.{True}
use Rattle.ep_logic.specs.declared.ids.EventId.{EventId}
use Rattle.ep_event.specs.declared.parts.EventParts.{EventParts}
use Rattle.ep_event.specs.declared.parts.EventLink.{EventLink}
use Rattle.ep_event.specs.declared.parts.ActionParts.{ActionParts}
use Rattle.ep_event.specs.declared.refusal.ActionError.TheVariants.{NoEvent, TooManyEvents, AgentOutOfRange, EventOutOfRange, DesignatedOutOfRange, AtomTwice, NoDesignated}
use Rattle.ep_event.specs.Built.{event_of, has_link, has_event, built}
use Rattle.ep_event.proofs.RepeatLemmas.{are_distinct}
use Rattle.ep_logic.proofs.CallerLemmas.{map-table, table-same, length-table, get_or-table}
use Rattle.ep_theory.specs.Rising.{IsIn, IsRising}
use Rattle.ep_logic.specs.Numbers.{numbers_where, pairs_where, table}
use Rattle.ep_theory.specs.Kripke.{pair_cmp}
use Rattle.ep_theory.specs.Events.{Event, IsAction, AreDistinct}
use Rattle.ep_theory.proofs.CallerLemmas.{from_map, at_All, All-from_each, test_itself, to_any, from_table, rising_numbers, rising_pairs, in_numbers, from_numbers, from_pairs, place_of, row_pairs-chosen}
use Rattle.ep_event.specs.Refusals.{refusal_of, atom_twice, repeated_atom, sets_at}
use Rattle.ep_event.specs.Relations.{action_of, linked_rows, IsSound}
use Rattle.ep_theory.specs.Relations.{all_pairs, row_pairs}

cond_none : {X : Type 0} (b : Bool) (x : X) → cond b (Some x) None ≡ None → b ≡ false
cond_none true x h = absurd (none-some x (sym h))
cond_none false x h = refl

-- where no place passes, each element fails
none_passes : {X : Type 0} (p : X → Bool) (xs : List X) → position p xs ≡ None → (x : X) → IsIn x xs → p x ≡ false
none_passes p xs h x i =
    let j = place_of x xs x i in
    ap p (sym j.2) ∙ fails_before_first p xs j.0 x (omega (arith, j.1, ltb-false (position_or_len p xs) (length xs) (cond_none (ltb (position_or_len p xs) (length xs)) (position_or_len p xs) h)))

not_false : (b : Bool) → not b ≡ false → b ≡ true
not_false true h = refl
not_false false h = cc

and_true : (a b : Bool) → (a && b) ≡ true → (a ≡ true) × (b ≡ true)
and_true true b h = (refl, h)
and_true false b h = cc

some_from_test : (a : ℕ) → (a == 0) ≡ false → 0 < a
some_from_test zero h = cc
some_from_test (suc a) h = omega arith

is_none : {X : Type 0} (o : Option X) → is_some o ≡ false → o ≡ None
is_none (Some x) h = cc
is_none None h = refl

is_there : {X : Type 0} (o : Option X) → is_some o ≡ true → o ≡ None → ⊥
is_there (Some x) h e = none-some x (sym e)
is_there None h e = cc

-- what parts without a refusal are
pub record AreFine (p : ActionParts) : Type 0 where
  pub some_event : 0 < length p.events
  pub few_events : length p.events ≤ 16
  pub agents : AllByRecursion (λ l. l.agent.n < p.agents) p.links
  pub links : AllByRecursion (λ l. (l.from.n < length p.events) × (l.to.n < length p.events)) p.links
  pub designated : AllByRecursion (λ d. d.n < length p.events) p.designated
  pub distinct : AllByRecursion (λ (x : EventParts). repeated_atom x.sets ≡ None) p.events
  pub some_designated : 0 < length p.designated

no_parts : EventParts
no_parts = record { pre = True; sets = [] }

no_first : (events : List EventParts) (o : Option ℕ) → position (λ x. is_some (repeated_atom x.sets)) events ≡ o →
    option_and_then (λ e. option_map (AtomTwice e) (repeated_atom (sets_at events e))) o ≡ None → o ≡ None
no_first events None h e = refl
no_first events (Some k) h e =
    let found = position-Some (λ (x : EventParts). is_some (repeated_atom x.sets)) events k no_parts h in
    let none : repeated_atom (sets_at events k) ≡ None = no_place (AtomTwice k) (repeated_atom (sets_at events k)) e in
    let here : sets_at events k ≡ (get_or events k no_parts).sets = get_or-map (λ (x : EventParts). x.sets) events k no_parts [] found.0 in
    absurd (is_there (repeated_atom (get_or events k no_parts).sets) found.1 (ap repeated_atom (sym here) ∙ none))

none_twice : (events : List EventParts) → atom_twice events ≡ None → AllByRecursion (λ (x : EventParts). repeated_atom x.sets ≡ None) events
none_twice events h =
    let none = no_first events (position (λ x. is_some (repeated_atom x.sets)) events) refl h in
    All-from_each (λ (x : EventParts). repeated_atom x.sets ≡ None) events (λ x i. is_none (repeated_atom x.sets) (none_passes (λ (x : EventParts). is_some (repeated_atom x.sets)) events none x i))

pub are_fine : (p : ActionParts) → refusal_of p ≡ None → AreFine p
are_fine p h =
    let agent = option_map AgentOutOfRange (position (λ (l : EventLink). not (ltb l.agent.n p.agents)) p.links) in
    let event = option_map EventOutOfRange (position (λ (l : EventLink). not (ltb l.from.n (length p.events) && ltb l.to.n (length p.events))) p.links) in
    let place = option_map DesignatedOutOfRange (position (λ (d : EventId). not (ltb d.n (length p.events))) p.designated) in
    let a = none_first (when (eqb (length p.events) 0) NoEvent) _ h in
    let b = none_first (above 16 TooManyEvents (length p.events)) _ a.1 in
    let c = none_first agent _ b.1 in
    let d = none_first event _ c.1 in
    let e = none_first place _ d.1 in
    let f = none_first (atom_twice p.events) _ e.1 in
    let g = none_first (when (eqb (length p.designated) 0) NoDesignated) _ f.1 in
    record {
      some_event = some_from_test (length p.events) (not_when (eqb (length p.events) 0) NoEvent a.0);
      few_events = not_above 16 TooManyEvents (length p.events) b.0;
      agents = All-from_each (λ (l : EventLink). l.agent.n < p.agents) p.links (λ l i. ltb-true l.agent.n p.agents (not_false (ltb l.agent.n p.agents)
          (none_passes (λ (l : EventLink). not (ltb l.agent.n p.agents)) p.links (no_place AgentOutOfRange (position (λ (l : EventLink). not (ltb l.agent.n p.agents)) p.links) c.0) l i)));
      links = All-from_each (λ (l : EventLink). (l.from.n < length p.events) × (l.to.n < length p.events)) p.links (λ l i.
          let both = and_true (ltb l.from.n (length p.events)) (ltb l.to.n (length p.events)) (not_false (ltb l.from.n (length p.events) && ltb l.to.n (length p.events))
          (none_passes (λ (l : EventLink). not (ltb l.from.n (length p.events) && ltb l.to.n (length p.events))) p.links (no_place EventOutOfRange (position (λ (l : EventLink). not (ltb l.from.n (length p.events) && ltb l.to.n (length p.events))) p.links) d.0) l i)) in
          (ltb-true l.from.n (length p.events) both.0, ltb-true l.to.n (length p.events) both.1));
      designated = All-from_each (λ (x : EventId). x.n < length p.events) p.designated (λ x i. ltb-true x.n (length p.events) (not_false (ltb x.n (length p.events))
          (none_passes (λ (x : EventId). not (ltb x.n (length p.events))) p.designated (no_place DesignatedOutOfRange (position (λ (x : EventId). not (ltb x.n (length p.events))) p.designated) e.0) x i)));
      distinct = none_twice p.events f.0;
      some_designated = some_from_test (length p.designated) (not_when (eqb (length p.designated) 0) NoDesignated g.0);
    }

all_rows : {A : Type 0} (P : A → Type 0) (f : ℕ → A) (n : ℕ) → ((a : ℕ) → P (f a)) → AllByRecursion P (table f n)
all_rows P f n h = All-from_each P (table f n) (λ y i. let r = from_table f n y i in subst P (sym r.2) (h r.0))

first_named : (ids : List EventId) (n : ℕ) → 0 < length ids → AllByRecursion (λ d. d.n < n) ids → (e : ℕ) × IsIn e (numbers_where (has_event ids) n)
first_named [] n h a = absurd (omega arith)
first_named (d ∷ ids) n h a = (d.n, in_numbers (has_event (d ∷ ids)) n d.n a.0 (to_any (λ (x : EventId). x.n == d.n) d (d ∷ ids) (inl refl) (test_itself d.n)))

pub built_is_action : (p : ActionParts) → AreFine p → IsAction (built p)
built_is_action p fine =
    let n = length p.events in
    let count : length (map event_of p.events) ≡ length p.events = length-map p.events event_of in
    record {
      some_event = omega (arith, count, fine.some_event);
      few_events = omega (arith, count, fine.few_events);
      distinct = All-from_each (λ (x : Event). AreDistinct x.sets) (map event_of p.events) (λ y i.
          let x = from_map event_of y p.events i in
          subst (λ (y : Event). AreDistinct y.sets) (sym x.2) (are_distinct x.0.sets (at_All (λ (x : EventParts). repeated_atom x.sets ≡ None) x.0 p.events fine.distinct x.1)));
      rising = all_rows (IsRising pair_cmp) (λ a. pairs_where (has_link p.links a) (length p.events)) p.agents (λ a. rising_pairs (has_link p.links a) (length p.events) (length p.events));
      within = all_rows (λ pairs. AllByRecursion (λ (q : ℕ × ℕ). (q.0 < length (map event_of p.events)) × (q.1 < length (map event_of p.events))) pairs)
          (λ a. pairs_where (has_link p.links a) (length p.events)) p.agents (λ a.
          All-from_each (λ (q : ℕ × ℕ). (q.0 < length (map event_of p.events)) × (q.1 < length (map event_of p.events))) (pairs_where (has_link p.links a) (length p.events)) (λ q i.
          let r = from_pairs (has_link p.links a) (length p.events) (length p.events) q i in
          (omega (arith, r.0, count), omega (arith, r.1, count))));
      designated_rising = rising_numbers (has_event p.designated) (length p.events);
      designated_within = All-from_each (λ e. e < length (map event_of p.events)) (numbers_where (has_event p.designated) (length p.events)) (λ e i.
          omega (arith, (from_numbers (has_event p.designated) (length p.events) e i).0, count));
      some_designated = λ none.
          let r = first_named p.designated (length p.events) fine.some_designated fine.designated in
          subst (IsIn r.0) none r.1;
    }

pairs_chosen : (links : List EventLink) (n a : ℕ) → all_pairs (linked_rows links n a) ≡ pairs_where (has_link links a) n
pairs_chosen links n a =
    ap (row_pairs (linked_rows links n a)) (length-table (λ e. numbers_where (has_link links a e) n) n)
    ∙ row_pairs-chosen (linked_rows links n a) (has_link links a) n n (λ i l. get_or-table (λ e. numbers_where (has_link links a e) n) n i [] l)

-- the action that was put together is the one that the parts give
pub put_together : (p : ActionParts) (relations : List (List (List ℕ))) (designated : List ℕ) → relations ≡ table (linked_rows p.links (length p.events)) p.agents → designated ≡ numbers_where (has_event p.designated) (length p.events) →
    action_of p.events relations designated ≡ built p
put_together p relations designated e d =
    let links : map all_pairs relations ≡ table (λ a. pairs_where (has_link p.links a) (length p.events)) p.agents =
    ap (map all_pairs) e ∙ map-table all_pairs (linked_rows p.links (length p.events)) p.agents
    ∙ table-same (λ a. all_pairs (linked_rows p.links (length p.events) a)) (λ a. pairs_where (has_link p.links a) (length p.events)) p.agents (λ a _. pairs_chosen p.links (length p.events) a) in
    rw (links, d) refl

pub built_is_sound : (p : ActionParts) (relations : List (List (List ℕ))) (designated : List ℕ) → relations ≡ table (linked_rows p.links (length p.events)) p.agents → designated ≡ numbers_where (has_event p.designated) (length p.events) →
    AreFine p → p.agents ≤ 8 → IsSound p.events relations designated
built_is_sound p relations designated e d fine few = record {
  action = subst IsAction (sym (put_together p relations designated e d)) (built_is_action p fine);
  few_agents = omega (arith, ap length e, length-table (linked_rows p.links (length p.events)) p.agents, few);
  rows = subst (AllByRecursion (λ rows. length rows ≡ length p.events)) (sym e)
      (all_rows (λ (rows : List (List ℕ)). length rows ≡ length p.events) (linked_rows p.links (length p.events)) p.agents (λ a. length-table (λ e. numbers_where (has_link p.links a e) (length p.events)) (length p.events)));
}
