use Rattle.std.proofs.Common.{◌≡◌, ◌++◌, ◌∷◌, [], ◌<◌, length, map, take, get_or, ap, sym, ◌∙◌, subst, arith, append_assoc}
use Rattle.std.proofs.lemmas.List.{length-map}
use Rattle.std.proofs.lemmas.List.Elements.{All-get_or}
use Rattle.ep_name.specs.Names.{printed_at}
use Rattle.ep_schema.specs.Actions.{schema_bindings}
use Rattle.ep_schema.specs.ActionNames.{action_name}
use Rattle.ep_universe.proofs.CallerLemmas.{map_more}
use Rattle.ep_universe.proofs.CallerLemmas.{AreBelow}
use Rattle.ep_schema.proofs.CandidateLemmas.{schema-below}
use Rattle.ep_schema.proofs.tables.push_names.Goals as goal

pub print_name-requires : goal.print_name-requires
print_name-requires c =
    let d = c.args.universe.now.names in
    let bs = schema_bindings d c.args.schema.now in
    let i = c.loop-objects.objects-index in
    let x = c.as_slice-objects.result.now in
    let items : c.as_slice-objects-items.result.now ≡ bs = c.as_slice-objects-items.ensures ∙ c.in_ok-all.ensures in
    let o = c.objects-item.result in
    let here : x ≡ get_or bs i o = c.as_slice-objects.ensures ∙ c.objects-item.is ∙ ap (λ z. get_or z i o) items in
    let long = ap length items in
    let test = c.loop-objects-test.true in
    let many : length c.object_names-names.result.now ≡ length d.objects = ap length c.object_names-names.ensures.value ∙ length-map d.objects (λ e. e.0) in
    subst (λ n. AreBelow n x) (sym many)
    (subst (AreBelow (length d.objects)) (sym here) (All-get_or (AreBelow (length d.objects)) bs i o (omega arith) (schema-below d c.args.schema.now)))

pub loop-objects-preserved : goal.loop-objects-preserved
loop-objects-preserved c =
    let d = c.args.universe.now.names in
    let s = c.args.schema.now in
    let bs = schema_bindings d s in
    let i = c.loop-objects.objects-index in
    let x = c.as_slice-objects.result.now in
    let items : c.as_slice-objects-items.result.now ≡ bs = c.as_slice-objects-items.ensures ∙ c.in_ok-all.ensures in
    let here : x ≡ get_or bs i x = c.as_slice-objects.ensures ∙ c.objects-item.is ∙ (λ j. get_or (items j) i (sym c.as_slice-objects.ensures j)) in
    let long = ap length items in
    let test = c.loop-objects-test.true in
    let l : i < length bs = omega arith in
    let name : c.in_ok-print_name.field-0 ≡ action_name d s x = c.in_ok-print_name.ensures ∙ ap (λ ns. printed_at s.name.text ns x) c.object_names-names.ensures.value in
    c.in_ok-push.ensures.ok
    ∙ (λ j. c.loop-objects.invariant j ++ name j ∷ [])
    ∙ append_assoc c.args.actions.now (map (action_name d s) (take i bs)) (action_name d s x ∷ [])
    ∙ ap (λ z. c.args.actions.now ++ z) (sym (map_more (action_name d s) bs i x l here))
