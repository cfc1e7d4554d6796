use Rattle.std.proofs.Common.{◌++◌, ap, sym, ◌∙◌}
use Rattle.ep_schema.specs.Actions.{schema_costs}
use Rattle.ep_universe.proofs.CallerLemmas.{flat_more}
use Rattle.ep_schema.proofs.costs.costs_of.Goals as goal

pub loop-schema-preserved : goal.loop-schema-preserved
loop-schema-preserved c =
    let d = c.args.universe.now.names in
    c.in_ok-push_costs.ensures
    ∙ ap (λ z. z ++ schema_costs d c.schema-item.result) c.loop-schema.invariant
    ∙ sym (flat_more (schema_costs d) c.args.schemas.now c.loop-schema.schema-index c.schema-item.result c.loop-schema-test.true c.schema-item.is)
