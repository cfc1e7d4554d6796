use Rattle.std.proofs.Common.{◌≡◌, ◌<◌, [], length, get_or, sym, ◌∙◌, arith}
use Rattle.std.proofs.lemmas.Option.{get_or_from_slice_get}
use Rattle.ep_ground.specs.Frames.{unequal_action}
use Rattle.ep_ground.proofs.FrameLemmas.{action_told, actions_told, equal_action, handed}
use Rattle.ep_ground.proofs.frames.check_actions.Goals as goal

pub returns-in_err-check_action : goal.returns-in_err-check_action
returns-in_err-check_action c =
    let names = c.args.parts.now.actions in
    let actions = c.args.parts.now.problem.actions in
    let k = c.loop-n.n in
    let t = c.loop-n-test.true in
    let v = c.actions-n-end.ensures.value in
    let e = c.loop-n.auto.n-end in
    let m : k < length actions = omega (arith, t, v, e) in
    let n : k < length names = omega (arith, m, c.requires.names) in
    let A = c.action-action.result.now in
    let name = c.text.result.now in
    let error = c.in_err-check_action.field-0.0 in
    let row = unequal_action c.args.agents.now (name, A) in
    let here : unequal_action c.args.agents.now (get_or names k [], get_or actions k A) ≡ row =
    (λ j. unequal_action c.args.agents.now (get_or_from_slice_get names k name [] c.text.ensures j, get_or_from_slice_get actions k A A c.action-action.ensures.value j)) in
    handed row (actions_told c.args.agents.now names actions) c.from_residual.result error c.from_residual.ensures.1 c.in_err-check_action.ensures
    (λ some. sym c.loop-n.invariant ∙ action_told c.args.agents.now names actions k n m A error (here ∙ some))

pub loop-n-preserved : goal.loop-n-preserved
loop-n-preserved c =
    let names = c.args.parts.now.actions in
    let actions = c.args.parts.now.problem.actions in
    let k = c.loop-n.n in
    let t = c.loop-n-test.true in
    let v = c.actions-n-end.ensures.value in
    let e = c.loop-n.auto.n-end in
    let m : k < length actions = omega (arith, t, v, e) in
    let n : k < length names = omega (arith, m, c.requires.names) in
    let A = c.action-action.result.now in
    let name = c.text.result.now in
    let here : unequal_action c.args.agents.now (get_or names k [], get_or actions k A) ≡ unequal_action c.args.agents.now (name, A) =
    (λ j. unequal_action c.args.agents.now (get_or_from_slice_get names k name [] c.text.ensures j, get_or_from_slice_get actions k A A c.action-action.ensures.value j)) in
    equal_action c.args.agents.now names actions k n m A (here ∙ c.in_ok-check_action.ensures) ∙ c.loop-n.invariant
