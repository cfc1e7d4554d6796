-- Links between worlds as they are made, agent by agent.
use Rattle.std.specs.Prelude.{ℕ, List}
use Rattle.ep_kripke.specs.declared.parts.Link.{Link}
use Rattle.ep_kripke.specs.Parts.{link}
use Rattle.ep_universe.specs.Links.{made_links}

abbrev pub world_link : ℕ → ℕ × ℕ → Link
world_link a p = link a p.0 p.1

abbrev pub world_links : (ℕ → List (ℕ × ℕ)) → ℕ → List Link
world_links pairs n = made_links world_link pairs n
