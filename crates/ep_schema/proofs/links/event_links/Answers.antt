use Rattle.std.proofs.Common.{◌≡◌, ◌++◌, map, ap, sym, ◌∙◌, add-one, arith}
use Rattle.ep_universe.specs.Links.{agent_count, agent_pairs, written_pairs}
use Rattle.ep_schema.specs.Made.{event_link, event_links}
use Rattle.ep_schema.proofs.links.event_links.Goals as goal

pub loop-n-preserved : goal.loop-n-preserved
loop-n-preserved c =
    let g = agent_pairs c.args.universe.now.names c.args.binding.now c.args.names.now c.args.items.now in
    let a = c.loop-n.n in
    let pairs : c.as_slice.result.now ≡ g a = c.as_slice.ensures ∙ c.in_ok-pairs.ensures ∙ ap (written_pairs c.args.names.now) c.find_last_pairs.ensures in
    c.in_ok-push_event_links.ensures ∙ (λ i. c.loop-n.invariant i ++ map (event_link a) (pairs i)) ∙ ap (event_links g) (sym (add-one a))

pub returns : goal.returns
returns c =
    let d = c.args.universe.now.names in
    let g = agent_pairs d c.args.binding.now c.args.names.now c.args.items.now in
    let end : c.loop-n.n ≡ agent_count d = omega (arith, c.agents-agents.ensures.value) in
    c.loop-n.invariant ∙ ap (event_links g) end
