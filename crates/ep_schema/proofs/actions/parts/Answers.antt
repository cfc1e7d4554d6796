use Rattle.std.proofs.Common.{map, ap, ◌∙◌}
use Rattle.ep_universe.specs.Links.{agent_count, agent_pairs, place_of}
use Rattle.ep_schema.specs.Made.{event, event_links}
use Rattle.ep_schema.proofs.actions.parts.Goals as goal

pub returns : goal.returns
returns c =
    let d = c.args.universe.now.names in
    record {
      agents = c.agents.ensures.value;
      events = c.in_ok-all_events.ensures;
      links = c.in_ok-event_links.ensures ∙ ap (λ names. event_links (agent_pairs d c.args.binding.now names c.args.ends.now.links.now) (agent_count d)) c.in_ok-names.ensures;
      designated = c.in_ok-event_ids.ensures ∙ ap (λ names. map (λ x. event (place_of names x)) c.args.ends.now.designated.now) c.in_ok-names.ensures;
    }
