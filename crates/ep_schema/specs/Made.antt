-- Links between events as they are made, agent by agent.
use Rattle.std.specs.Prelude.{ℕ, List}
use Rattle.ep_logic.specs.declared.ids.EventId.{EventId}
use Rattle.ep_event.specs.declared.parts.EventLink.{EventLink}
use Rattle.ep_universe.specs.Links.{made_links}

abbrev pub event : ℕ → EventId
event n = record { n = n }

abbrev pub event_link : ℕ → ℕ × ℕ → EventLink
event_link a p = record { agent = record { n = a }; from = record { n = p.0 }; to = record { n = p.1 } }

abbrev pub event_links : (ℕ → List (ℕ × ℕ)) → ℕ → List EventLink
event_links pairs n = made_links event_link pairs n
