use Rattle.std.proofs.Common.{◌≡◌, All, length, ap, sym, ◌∙◌, subst, arith}
use Rattle.std.proofs.lemmas.List.{length-map}
use Rattle.ep_binding.specs.Bindings.{IsObjects}
use Rattle.ep_binding.specs.Laminar.{IsLaminar}
use Rattle.ep_universe.specs.Objects.{objects_of, candidates}
use Rattle.ep_universe.proofs.CallerLemmas.{params-are}
use Rattle.ep_schema.proofs.schemas.schema_bindings.Goals as goal

pub list_distinct-requires-clause-few : goal.list_distinct-requires-clause-few
list_distinct-requires-clause-few c =
    let d = c.args.universe.now.names in
    let ps = c.args.schema.now.params in
    let same : c.as_slice-then-schema.result.now ≡ candidates d ps = c.as_slice-then-schema.ensures ∙ c.in_ok-candidates.ensures.value ∙ ap (candidates d) c.as_slice.ensures in
    let long = ap length same in
    let few = c.requires in
    omega (arith, long, length-map ps (λ p. objects_of d p.kind.text), few)

pub list_distinct-requires-clause-objects : goal.list_distinct-requires-clause-objects
list_distinct-requires-clause-objects c =
    let d = c.args.universe.now.names in
    let ps = c.args.schema.now.params in
    let same : c.as_slice-then-schema.result.now ≡ candidates d ps = c.as_slice-then-schema.ensures ∙ c.in_ok-candidates.ensures.value ∙ ap (candidates d) c.as_slice.ensures in
    subst (All IsObjects) (sym same) (params-are d ps c.known.ensures.few.few_objects)

pub list_distinct-requires-clause-laminar : goal.list_distinct-requires-clause-laminar
list_distinct-requires-clause-laminar c = subst IsLaminar (sym c.as_slice-then-schema.ensures) c.in_ok-candidates.ensures.laminar
