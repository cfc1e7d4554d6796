use Rattle.std.proofs.Common.{[], map, ap, ◌∙◌}
use Rattle.ep_kripke.specs.Parts.{world}
use Rattle.ep_universe.specs.Links.{agent_count, agent_pairs, place_of}
use Rattle.ep_initial.specs.Made.{world_links}
use Rattle.ep_initial.proofs.explicit.parts.Goals as goal

pub returns : goal.returns
returns c =
    let d = c.args.universe.now.names in
    record {
      agents = c.agents.ensures.value;
      atoms = c.atoms.ensures.value;
      truth = c.in_ok-truth.ensures;
      links = c.in_ok-world_links.ensures ∙ ap (λ names. world_links (agent_pairs d [] names c.args.ends.now.links.now) (agent_count d)) c.in_ok-names.ensures;
      designated = c.in_ok-world_ids.ensures ∙ ap (λ names. map (λ x. world (place_of names x)) c.args.ends.now.designated.now) c.in_ok-names.ensures;
    }
