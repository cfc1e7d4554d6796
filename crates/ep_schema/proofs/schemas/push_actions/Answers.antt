use Rattle.std.proofs.Common.{◌≡◌, ◌++◌, ◌∷◌, [], ◌<◌, length, map, take, get_or, ap, sym, ◌∙◌, subst, arith, append_assoc}
use Rattle.std.proofs.lemmas.List.Elements.{All-get_or}
use Rattle.ep_schema.specs.Actions.{action_at, schema_bindings}
use Rattle.ep_schema.specs.Faults.{atom_twice}
use Rattle.ep_schema.specs.ActionNames.{action_name}
use Rattle.ep_universe.proofs.CallerLemmas.{map_more}
use Rattle.ep_schema.proofs.FaultLemmas.{none_more, some_here, reported}
use Rattle.ep_universe.proofs.CallerLemmas.{AreBelow}
use Rattle.ep_schema.proofs.CandidateLemmas.{schema-below}
use Rattle.ep_schema.proofs.schemas.push_actions.Goals as goal

pub ground_action-requires-clause-objects : goal.ground_action-requires-clause-objects
ground_action-requires-clause-objects c =
    let d = c.args.universe.now.names in
    let bs = schema_bindings d c.args.schema.now in
    let i = c.loop-objects.objects-index in
    let x = c.as_slice-objects.result.now in
    let items : c.as_slice-objects-items.result.now ≡ bs = c.as_slice-objects-items.ensures ∙ c.in_ok-all.ensures in
    let o = c.objects-item.result in
    let here : x ≡ get_or bs i o = c.as_slice-objects.ensures ∙ c.objects-item.is ∙ ap (λ z. get_or z i o) items in
    let long = ap length items in
    let test = c.loop-objects-test.true in
    subst (AreBelow (length d.objects)) (sym here) (All-get_or (AreBelow (length d.objects)) bs i o (omega arith) (schema-below d c.args.schema.now))

pub loop-objects-preserved : goal.loop-objects-preserved
loop-objects-preserved c =
    let d = c.args.universe.now.names in
    let s = c.args.schema.now in
    let bs = schema_bindings d s in
    let i = c.loop-objects.objects-index in
    let x = c.as_slice-objects.result.now in
    let items : c.as_slice-objects-items.result.now ≡ bs = c.as_slice-objects-items.ensures ∙ c.in_ok-all.ensures in
    let o = c.objects-item.result in
    let here : x ≡ get_or bs i x = c.as_slice-objects.ensures ∙ c.objects-item.is ∙ (λ j. get_or (items j) i (sym c.as_slice-objects.ensures j)) in
    let long = ap length items in
    let test = c.loop-objects-test.true in
    let l : i < length bs = omega arith in
    record {
      actions =
          c.in_ok-push.ensures.ok
          ∙ (λ j. c.loop-objects.invariant.actions j ++ c.in_ok-ground_action.ensures.value j ∷ [])
          ∙ append_assoc c.args.actions.now (map (action_at d s) (take i bs)) (action_at d s x ∷ [])
          ∙ ap (λ z. c.args.actions.now ++ z) (sym (map_more (action_at d s) bs i x l here));
      once = none_more (action_name d s) (action_at d s) bs i x l here c.loop-objects.invariant.once c.in_ok-ground_action.ensures.once;
    }

pub returns-in_err-ground_action-clause-err : goal.returns-in_err-ground_action-clause-err
returns-in_err-ground_action-clause-err c =
    let d = c.args.universe.now.names in
    let s = c.args.schema.now in
    let bs = schema_bindings d s in
    let i = c.loop-objects.objects-index in
    let x = c.as_slice-objects.result.now in
    let items : c.as_slice-objects-items.result.now ≡ bs = c.as_slice-objects-items.ensures ∙ c.in_ok-all.ensures in
    let here : x ≡ get_or bs i x = c.as_slice-objects.ensures ∙ c.objects-item.is ∙ (λ j. get_or (items j) i (sym c.as_slice-objects.ensures j)) in
    let long = ap length items in
    let test = c.loop-objects-test.true in
    let l : i < length bs = omega arith in
    let whole = atom_twice (map (action_name d s) bs) (map (action_at d s) bs) in
    let part = atom_twice (action_name d s x ∷ []) (action_at d s x ∷ []) in
    reported c.from_residual-in_err-ground_action.result part whole c.in_err-ground_action.field-0.0 c.from_residual-in_err-ground_action.ensures.1
    (λ h. some_here (action_name d s) (action_at d s) bs i x c.in_err-ground_action.field-0.0 l here c.loop-objects.invariant.once h) c.in_err-ground_action.ensures.err
