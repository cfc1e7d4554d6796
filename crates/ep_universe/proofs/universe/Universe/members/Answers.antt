use Rattle.std.proofs.Common.{◌≡◌, ◌<◌, true, set, get_or, ap, ◌∙◌, subst, arith}
use Rattle.ep_universe.specs.Objects.{agent_at}
use Rattle.ep_universe.proofs.GroupLemmas.{group-more}
use Rattle.ep_universe.proofs.universe.Universe.members.Goals as goal

pub loop-name-preserved : goal.loop-name-preserved
loop-name-preserved c =
    let f = agent_at c.args.self.now.names c.args.binding.now in
    let value : c.agent_at.result.n ≡ f (get_or c.args.names.now c.loop-name.name-index c.name-item.result) = c.agent_at.ensures.value ∙ ap f c.name-item.is in
    let small : f (get_or c.args.names.now c.loop-name.name-index c.name-item.result) < 8 = subst (λ n. n < 8) value c.agent_at.ensures.small in
    c.with-members.ensures ∙ (λ j. set (c.loop-name.invariant j) (value j) true)
    ∙ group-more f c.args.names.now c.loop-name.name-index c.name-item.result (omega arith) small
