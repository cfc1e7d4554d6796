use Rattle.std.proofs.Common.{ap, ◌∙◌, position, unwrap_or}
use Rattle.std.specs.Prelude.{◌==◌}
use Rattle.ep_universe.specs.Objects.{agents_of, object_at}
use Rattle.ep_universe.specs.Universe.{NamedTask}
use Rattle.ep_universe.proofs.universe.Universe.agent_at.Goals as goal

pub returns-in-Some-clause-value : goal.returns-in-Some-clause-value
returns-in-Some-clause-value c =
    let names = ap (λ (u : NamedTask). u.names) c.self.view_is in
    let object = c.object_at-object.ensures ∙ (λ i. object_at (names i) c.args.binding.now (c.as_slice.ensures.value i)) in
    let agents = c.as_slice-2.ensures ∙ c.self.invariant.1.agents_are ∙ ap agents_of names in
    ap (λ o. unwrap_or o 0) c.in-Some.ensures.place ∙ (λ i. unwrap_or (position (λ x. x == object i) (agents i)) 0)

pub returns-in-None-clause-value : goal.returns-in-None-clause-value
returns-in-None-clause-value c =
    let names = ap (λ (u : NamedTask). u.names) c.self.view_is in
    let object = c.object_at-object.ensures ∙ (λ i. object_at (names i) c.args.binding.now (c.as_slice.ensures.value i)) in
    let agents = c.as_slice-2.ensures ∙ c.self.invariant.1.agents_are ∙ ap agents_of names in
    ap (λ o. unwrap_or o 0) c.in-None.ensures.place ∙ (λ i. unwrap_or (position (λ x. x == object i) (agents i)) 0)
