-- Links kept as lists of successors.
use Rattle.std.specs.List.{AllByRecursion}
use Rattle.ep_event.specs.declared.parts.EventParts.{EventParts}
use Rattle.ep_event.specs.declared.parts.EventLink.{EventLink}
use Rattle.ep_event.specs.Built.{event_of, has_link}
use Rattle.ep_logic.specs.Numbers.{numbers_where, table}
use Rattle.ep_theory.specs.Relations.{all_pairs}
use Rattle.ep_theory.specs.Events.{EventModel, IsAction}
use Rattle.std.specs.Prelude.{◌≡◌, ℕ, ◌≤◌, Bool, List, [], ◌∷◌, length, map, slice_index_or, if◌then◌else◌}
use Rattle.ep_logic.specs.declared.limits.TheConstants.{MOST_AGENTS}

-- `relations` has for each agent the successors of each event
abbrev pub action_of : List EventParts → List (List (List ℕ)) → List ℕ → EventModel
action_of events relations designated = record {
  events = map event_of events;
  links = map all_pairs relations;
  designated = designated;
}

-- an action among at most 8 agents, each with one list for each event
pub record IsSound (events : List EventParts) (relations : List (List (List ℕ))) (designated : List ℕ) : Type 0 where
  pub action : IsAction (action_of events relations designated)
  pub few_agents : length relations ≤ MOST_AGENTS
  pub rows : AllByRecursion (λ rows. length rows ≡ length events) relations

-- for each event the events to which the agent's links lead
abbrev pub linked_rows : List EventLink → ℕ → ℕ → List (List ℕ)
linked_rows links n a = table (λ e. numbers_where (has_link links a e) n) n

-- two events: who tells them apart goes from each to itself, and who does not from each to all of `seen`
abbrev pub two_rows : Bool → List ℕ → List (List ℕ)
two_rows tells_apart seen = if tells_apart then (0 ∷ []) ∷ (1 ∷ []) ∷ [] else seen ∷ seen ∷ []
