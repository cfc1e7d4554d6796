-- The action that parts give.
use Rattle.std.specs.Prelude.{◌≡◌, ◌↔◌, ℕ, Bool, ◌&&◌, ◌==◌, List, length, map}
use Rattle.std.specs.List.{list_any}
use Rattle.ep_logic.specs.declared.formula.Node.{Node}
use Rattle.ep_logic.specs.declared.ids.EventId.{EventId}
use Rattle.ep_event.specs.declared.parts.Assign.{Assign}
use Rattle.ep_event.specs.declared.parts.EventParts.{EventParts}
use Rattle.ep_event.specs.declared.parts.EventLink.{EventLink}
use Rattle.ep_event.specs.declared.parts.ActionParts.{ActionParts}
use Rattle.ep_logic.specs.Numbers.{numbers_where, pairs_where, table}
use Rattle.ep_theory.specs.Rising.{IsIn}
use Rattle.ep_theory.specs.Events.{Event, EventModel, event_links}

-- the number of an assignment's atom, and its formula
abbrev pub set_of : Assign → ℕ × Node
set_of s = (s.atom.n, s.value)

abbrev pub event_of : EventParts → Event
event_of p = record { pre = p.pre; sets = map set_of p.sets }

-- an agent's link from an event to an event
abbrev pub link : ℕ → ℕ → ℕ → EventLink
link a e f = record { agent = record { n = a }; from = record { n = e }; to = record { n = f } }

abbrev pub event : ℕ → EventId
event e = record { n = e }

-- The action has these events and agents; its links are those of the parts, and its designated events too, however
-- often the parts name one.
pub record IsMadeOf (p : ActionParts) (A : EventModel) : Type 0 where
  pub events : A.events ≡ map event_of p.events
  pub agents : length A.links ≡ p.agents
  pub links : (a e f : ℕ) → IsIn (e, f) (event_links A a) ↔ IsIn (link a e f) p.links
  pub designated : (e : ℕ) → IsIn e A.designated ↔ IsIn (event e) p.designated

-- whether a link of the agent leads from the first event to the second
abbrev pub has_link : List EventLink → ℕ → ℕ → ℕ → Bool
has_link links a e f = list_any (λ l. (l.agent.n == a) && ((l.from.n == e) && (l.to.n == f))) links

-- whether the event is named
abbrev pub has_event : List EventId → ℕ → Bool
has_event ids e = list_any (λ d. d.n == e) ids

-- the action with these parts, each link and designated event once and in rising order, as `parts_are_built` says of it
abbrev pub built : ActionParts → EventModel
built p = record {
  events = map event_of p.events;
  links = table (λ a. pairs_where (has_link p.links a) (length p.events)) p.agents;
  designated = numbers_where (has_event p.designated) (length p.events);
}
