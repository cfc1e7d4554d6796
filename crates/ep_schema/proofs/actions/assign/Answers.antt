use Rattle.std.proofs.Common.{◌≡◌, false, IfErr, OnOk, subst, sym, map}
use Rattle.ep_event.specs.Built.{set_of as built_set}
use Rattle.ep_theory.specs.Events.{EventModel}
use Rattle.ep_theory.specs.FourActions.{assign}
use Rattle.ep_universe.specs.Formulas.{ground_of}
use Rattle.ep_universe.specs.Links.{agent_count}
use Rattle.ep_schema.specs.Actions.{assigns_twice, set_of}
use Rattle.ep_schema.specs.Answers.{Refuses}
use Rattle.ep_schema.proofs.ActionLemmas.{IsReply, reply-assign}
use Rattle.ep_schema.proofs.actions.assign.Goals as goal

made : (c : goal.After-expect_action) → EventModel
made c = let d = c.args.universe.now.names in assign (agent_count d) (ground_of d c.args.guard.now c.args.binding.now) (map (set_of d c.args.binding.now) c.args.sets.now)

same : (c : goal.After-expect_action) → assign c.agents.result c.in_ok-f.f (map built_set c.in_ok-sets.sets) ≡ made c
unfolding made
same c = λ i. assign (c.agents.ensures.value i) (c.in_ok-f.ensures i) (c.in_ok-sets.ensures i)

reply : (c : goal.After-expect_action) → IsReply (made c) c.assign.result
reply c = subst (λ A. IsReply A c.assign.result) (same c) (reply-assign c.agents.result c.in_ok-f.f c.in_ok-sets.sets c.assign.result c.assign.ensures)

pub returns-clause-once : goal.returns-clause-once
unfolding made
returns-clause-once c = subst (λ r. OnOk r (assigns_twice (made c) ≡ false)) (sym c.expect_action.ensures) (reply c).once

pub returns-clause-err : goal.returns-clause-err
unfolding made
returns-clause-err c = subst (λ r. IfErr r (Refuses (made c))) (sym c.expect_action.ensures) (reply c).twice
