use Rattle.std.proofs.Common.{◌≡◌, drop, length, map, IsTrue, ap, ◌∙◌, subst}
use Rattle.ep_logic.specs.AgentSets.{first_agents, is_nobody}
use Rattle.ep_logic.specs.Numbers.{has_number}
use Rattle.ep_universe.specs.Universe.{HasFewNames, NamedTask}
use Rattle.ep_universe.specs.Objects.{agent_at, agents_of, eight}
use Rattle.ep_universe.specs.Sizes.{has_member}
use Rattle.ep_universe.proofs.GroupLemmas.{all-within, members-some, members-within}
use Rattle.ep_universe.proofs.universe.Universe.group_of.Goals as goal

pub returns-in-Members-clause-some : goal.returns-in-Members-clause-some
returns-in-Members-clause-some c h =
    let within = subst (λ (u : NamedTask). HasFewNames u.names) c.self.view_is c.self.invariant.0.few in
    ap is_nobody (c.members.ensures ∙ ap (λ z. eight (has_number (map (agent_at c.args.self.now.names c.args.binding.now) z))) c.as_slice-in-Members.ensures)
    ∙ members-some c.args.self.now.names c.args.binding.now c.in-Members.token c.in-Members.names within (subst (λ g. IsTrue (has_member g)) c.in-Members.is h)

pub returns-in-Members-clause-within : goal.returns-in-Members-clause-within
returns-in-Members-clause-within c =
    let within = subst (λ (u : NamedTask). HasFewNames u.names) c.self.view_is c.self.invariant.0.few in
    ap (λ z. is_nobody (drop (length (agents_of c.args.self.now.names)) z)) c.members.ensures
    ∙ members-within c.args.self.now.names c.args.binding.now c.as_slice-in-Members.result.now within

pub returns-in-All-clause-within : goal.returns-in-All-clause-within
returns-in-All-clause-within c =
    let names = ap (λ (u : NamedTask). u.names) c.self.view_is in
    let many : length c.as_slice.result.now ≡ length (agents_of c.args.self.now.names) = ap length (c.as_slice.ensures ∙ c.self.invariant.1.agents_are ∙ ap agents_of names) in
    ap (λ g. is_nobody (drop (length (agents_of c.args.self.now.names)) g)) (c.first.ensures ∙ ap first_agents many) ∙ all-within (length (agents_of c.args.self.now.names))
