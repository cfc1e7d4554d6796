use Rattle.std.proofs.Common.{◌≡◌, false, IfErr, IfOk, OnOk, subst, sym}
use Rattle.ep_schema.specs.Actions.{assigns_twice, events_of}
use Rattle.ep_schema.specs.Answers.{Refuses}
use Rattle.ep_schema.proofs.ActionLemmas.{IsReply, general_reply, few_links, few_ids, few_parts}
use Rattle.ep_schema.proofs.actions.build_general.Goals as goal

pub build-requires-clause-links : goal.build-requires-clause-links
build-requires-clause-links c =
    few_links c.args.universe.now.names c.args.binding.now c.args.events.now c.args.ends.now.designated.now c.args.ends.now.links.now c.in_ok-parts.parts c.in_ok-parts.ensures c.requires c.known.ensures.few.few_agents

pub build-requires-clause-events : goal.build-requires-clause-events
build-requires-clause-events c =
    few_parts c.args.universe.now.names c.args.binding.now c.args.events.now c.args.ends.now.designated.now c.args.ends.now.links.now c.in_ok-parts.parts c.in_ok-parts.ensures c.requires

pub build-requires-clause-designated : goal.build-requires-clause-designated
build-requires-clause-designated c =
    few_ids c.args.universe.now.names c.args.binding.now c.args.events.now c.args.ends.now.designated.now c.args.ends.now.links.now c.in_ok-parts.parts c.in_ok-parts.ensures c.requires

reply : (c : goal.After-build) → IsReply (events_of c.args.universe.now.names c.args.binding.now c.args.events.now c.args.ends.now.designated.now c.args.ends.now.links.now) c.build.result
reply c = general_reply c.args.universe.now.names c.args.binding.now c.args.events.now c.args.ends.now.designated.now c.args.ends.now.links.now c.in_ok-parts.parts c.in_ok-parts.ensures c.requires c.build.result c.build.ensures

pub expect_action-requires : goal.expect_action-requires
expect_action-requires c = (reply c).error

pub returns-clause-value : goal.returns-clause-value
returns-clause-value c =
    let A = events_of c.args.universe.now.names c.args.binding.now c.args.events.now c.args.ends.now.designated.now c.args.ends.now.links.now in
    subst (λ r. IfOk r (λ a. a ≡ A)) (sym c.expect_action.ensures) (general_reply c.args.universe.now.names c.args.binding.now c.args.events.now c.args.ends.now.designated.now c.args.ends.now.links.now c.in_ok-parts.parts c.in_ok-parts.ensures c.requires c.build.result c.build.ensures).value

pub returns-clause-once : goal.returns-clause-once
returns-clause-once c =
    let A = events_of c.args.universe.now.names c.args.binding.now c.args.events.now c.args.ends.now.designated.now c.args.ends.now.links.now in
    subst (λ r. OnOk r (assigns_twice A ≡ false)) (sym c.expect_action.ensures) (general_reply c.args.universe.now.names c.args.binding.now c.args.events.now c.args.ends.now.designated.now c.args.ends.now.links.now c.in_ok-parts.parts c.in_ok-parts.ensures c.requires c.build.result c.build.ensures).once

pub returns-clause-err : goal.returns-clause-err
returns-clause-err c =
    let A = events_of c.args.universe.now.names c.args.binding.now c.args.events.now c.args.ends.now.designated.now c.args.ends.now.links.now in
    subst (λ r. IfErr r (Refuses A)) (sym c.expect_action.ensures) (general_reply c.args.universe.now.names c.args.binding.now c.args.events.now c.args.ends.now.designated.now c.args.ends.now.links.now c.in_ok-parts.parts c.in_ok-parts.ensures c.requires c.build.result c.build.ensures).twice
