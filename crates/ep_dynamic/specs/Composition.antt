-- One action in place of two in turn: the composition of van Ditmarsch, van der Hoek and Kooi, Dynamic Epistemic Logic,
-- chapter 6. The order of its events and the form of its assignments are this project's own.
use Rattle.std.specs.Prelude.{◌≡◌, ◌<◌, ℕ, Bool, true, ◌&&◌, ◌==◌, List, [], ◌∷◌, ◌++◌, length, map, slice_index_or, IsTrue, Option, Some, None}
use Rattle.std.specs.List.{AllByRecursion, find, list_all}
use Rattle.std.specs.Ordering.{nat_cmp}
use Rattle.ep_logic.specs.declared.formula.Node.{Node}
use Rattle.ep_logic.specs.declared.formula.Node.TheVariants.{And}
use Rattle.ep_theory.specs.Rising.{IsIn, rising}
use Rattle.ep_logic.specs.Numbers.{numbers_where, pairs_within, pairs_where, has_number, has_pair, table}
use Rattle.ep_theory.specs.Events.{Event, EventModel, event_at, event_links}
use Rattle.ep_event.specs.declared.parts.EventLink.{EventLink}
use Rattle.ep_dynamic.specs.Reduction.{is_reducible, value_of, reduce}

-- the pairs of an event of each action, by the first and then by the second
abbrev pub event_pairs : EventModel → EventModel → List (ℕ × ℕ)
event_pairs A B = pairs_within (λ e f. true) (length B.events) (length A.events)

-- the pair that becomes event k
abbrev pub pair_at : EventModel → EventModel → ℕ → ℕ × ℕ
pair_at A B k = slice_index_or (event_pairs A B) k (0, 0)

-- the atoms that either event assigns to, in rising order
abbrev pub assigned_atoms : Event → Event → List ℕ
assigned_atoms d e = rising nat_cmp (map (λ set. set.0) (d.sets ++ e.sets))

-- what an atom gets by event e of A and then by the assignment, or by e alone
abbrev pub value_in_turn : EventModel → ℕ → ℕ → Option (ℕ × Node) → Node
value_in_turn A e p (Some set) = reduce A e set.1
value_in_turn A e p None = value_of (event_at A e) (record { n = p })

-- an event of A and then one of B
abbrev pub events_in_turn : EventModel → EventModel → ℕ × ℕ → Event
events_in_turn A B at = record {
  pre = And ((event_at A at.0).pre ∷ reduce A at.0 (event_at B at.1).pre ∷ []);
  sets = map (λ p. (p, value_in_turn A at.0 p (find (λ set. set.0 == p) (event_at B at.1).sets))) (assigned_atoms (event_at A at.0) (event_at B at.1));
}

-- whether the agent links the first events and the second events of two pairs
abbrev pub links_in_turn : EventModel → EventModel → ℕ → ℕ × ℕ → ℕ × ℕ → Bool
links_in_turn A B a x y = has_pair (event_links A a) x.0 y.0 && has_pair (event_links B a) x.1 y.1

-- the action that does what A and then B do
abbrev pub composed : EventModel → EventModel → EventModel
composed A B = record {
  events = map (events_in_turn A B) (event_pairs A B);
  links = table (λ a. pairs_where (λ k l. links_in_turn A B a (pair_at A B k) (pair_at A B l)) (length (event_pairs A B))) (length A.links);
  designated = numbers_where (λ k. has_number A.designated (pair_at A B k).0 && has_number B.designated (pair_at A B k).1) (length (event_pairs A B));
}

-- a link of the composed action
pub record IsLinkInTurn (A B : EventModel) (x : EventLink) : Type 0 where
  pub agent : x.agent.n < length A.links
  pub from : x.from.n < length (event_pairs A B)
  pub to : x.to.n < length (event_pairs A B)
  pub first : IsIn ((pair_at A B x.from.n).0, (pair_at A B x.to.n).0) (event_links A x.agent.n)
  pub second : IsIn ((pair_at A B x.from.n).1, (pair_at A B x.to.n).1) (event_links B x.agent.n)

-- one between two events, of an agent below n
pub record IsLinkBetween (A B : EventModel) (n : ℕ) (ends : ℕ × ℕ) (x : EventLink) : Type 0 where
  pub agent : x.agent.n < n
  pub from : x.from.n ≡ ends.0
  pub to : x.to.n ≡ ends.1
  pub first : IsIn ((pair_at A B ends.0).0, (pair_at A B ends.1).0) (event_links A x.agent.n)
  pub second : IsIn ((pair_at A B ends.0).1, (pair_at A B ends.1).1) (event_links B x.agent.n)

-- a designated event of the composed action, below n
pub record IsDesignatedBefore (A B : EventModel) (n : ℕ) (k : ℕ) : Type 0 where
  pub number : k < n
  pub first : IsIn (pair_at A B k).0 A.designated
  pub second : IsIn (pair_at A B k).1 B.designated

abbrev pub IsDesignatedInTurn : EventModel → EventModel → ℕ → Type 0
IsDesignatedInTurn A B k = IsDesignatedBefore A B (length (event_pairs A B)) k

-- whether the precondition and the assignments of the event are without `common`
abbrev pub is_reducible_event : Event → Bool
is_reducible_event event = is_reducible event.pre && list_all (λ set. is_reducible set.1) event.sets

-- no event of the action has `common`
abbrev pub IsReducible : EventModel → Type 0
IsReducible B = AllByRecursion (λ event. IsTrue (is_reducible_event event)) B.events
