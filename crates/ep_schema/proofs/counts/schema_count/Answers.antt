use Rattle.std.proofs.Common.{◌≤◌, All, length, sym, ◌∙◌, subst}
use Rattle.ep_binding.specs.declared.limits.TheConstants.{MOST_OBJECTS}
use Rattle.ep_binding.specs.Bindings.{IsObjects}
use Rattle.ep_binding.specs.Laminar.{IsLaminar}
use Rattle.ep_universe.specs.Objects.{candidates}
use Rattle.ep_universe.proofs.CallerLemmas.{params-are}
use Rattle.ep_schema.proofs.CandidateLemmas.{are_few}
use Rattle.ep_schema.proofs.counts.schema_count.Goals as goal

pub distinct_count-requires-clause-objects : goal.distinct_count-requires-clause-objects
distinct_count-requires-clause-objects c =
    let d = c.args.universe.now.names in
    subst (All IsObjects) (sym (c.as_slice-then-schema.ensures ∙ c.in_ok-lists.ensures.value))
    (subst (λ ps. All IsObjects (candidates d ps)) (sym c.as_slice.ensures) (params-are d c.args.schema.now.params c.known.ensures.few.few_objects))

pub distinct_count-requires-clause-laminar : goal.distinct_count-requires-clause-laminar
distinct_count-requires-clause-laminar c = subst IsLaminar (sym c.as_slice-then-schema.ensures) c.in_ok-lists.ensures.laminar

pub binding_count-requires-clause-objects : goal.binding_count-requires-clause-objects
binding_count-requires-clause-objects c =
    let d = c.args.universe.now.names in
    subst (All (λ os. length os ≤ MOST_OBJECTS)) (sym (c.as_slice-else-schema.ensures ∙ c.in_ok-lists.ensures.value))
    (subst (λ ps. All (λ os. length os ≤ MOST_OBJECTS) (candidates d ps)) (sym c.as_slice.ensures) (are_few d c.known.ensures.few.few_objects c.args.schema.now.params))
