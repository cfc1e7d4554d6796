-- The parts are those of the composition.
use Rattle.std.proofs.Common.{◌≡◌, ◌≤◌, ◌*◌, length, map, ◌∙◌, ap, subst}
use Rattle.ep_theory.specs.Events.{EventModel}
use Rattle.ep_event.specs.declared.parts.ActionParts.{ActionParts}
use Rattle.ep_dynamic.specs.declared.compose.ComposeError.TheVariants.{OutOfMemory}
use Rattle.ep_dynamic.specs.Composition.{composed, events_in_turn}
use Rattle.ep_dynamic.proofs.ComposedLemmas.{composed_is}
use Rattle.ep_dynamic.proofs.Composing.{composition, pair_count}
use Rattle.ep_dynamic.proofs.StepLemmas.{match_more}
use Rattle.ep_dynamic.proofs.compose.built_of_both.Goals as goal

pub returns-in-Ok : goal.returns-in-Ok
returns-in-Ok c =
    let A = c.args.a.now in
    let B = c.args.b.now in
    let parts : ActionParts = record { agents = c.agents.result; events = c.in-Ok.events; links = c.in_ok-links.links; designated = c.in_ok-designated.designated } in
    let few : length A.events * length B.events ≤ 16 = subst (λ n. n ≤ 16) (ap length c.requires.pairs ∙ pair_count A B) c.requires.few in
    match_more c.build.result _ (λ (C : EventModel). C ≡ composed A B) (λ e. e ≡ OutOfMemory)
    (λ C h. h.0 ∙ composed_is A B parts _ (c.parts_are_built.ensures.action parts h.1) (c.parts_are_built.ensures.made parts h.1)
    (composition A B c.agents.ensures.valid c.known.ensures.valid few) c.agents.ensures.value c.in_ok-links.ensures c.in_ok-designated.ensures
    (c.in-Ok.ensures ∙ ap (map (events_in_turn A B)) c.requires.pairs))
    c.build.ensures
