use Rattle.std.proofs.Common.{◌≡◌, ◌++◌, length, ap, sym, ◌∙◌}
use Rattle.std.specs.List.{flat_map}
use Rattle.std.proofs.lemmas.List.{length-map}
use Rattle.ep_tree.specs.declared.tree.SchemaTree.{SchemaTree}
use Rattle.ep_types.specs.declared.scope.Declared.{Declared}
use Rattle.ep_schema.specs.Actions.{action_at, schema_bindings, schema_actions}
use Rattle.ep_schema.specs.Faults.{atom_twice}
use Rattle.ep_schema.specs.ActionNames.{action_name, schema_names}
use Rattle.ep_schema.proofs.FaultLemmas.{none_block, some_block, reported}
use Rattle.ep_universe.proofs.CallerLemmas.{flat_more}
use Rattle.ep_schema.proofs.schemas.ground_actions.Goals as goal

even : (d : Declared) (s : SchemaTree) → length (schema_names d s) ≡ length (schema_actions d s)
even d s = length-map (schema_bindings d s) (action_name d s) ∙ sym (length-map (schema_bindings d s) (action_at d s))

pub loop-schema-preserved : goal.loop-schema-preserved
loop-schema-preserved c =
    let d = c.args.universe.now.names in
    let ss = c.args.schemas.now in
    let i = c.loop-schema.schema-index in
    let s = c.schema-item.result in
    record {
      actions =
          c.in_ok-push_actions.ensures.value
          ∙ ap (λ z. z ++ schema_actions d s) c.loop-schema.invariant.actions
          ∙ sym (flat_more (schema_actions d) ss i s c.loop-schema-test.true c.schema-item.is);
      once = none_block (schema_names d) (schema_actions d) (even d) ss i s c.loop-schema-test.true c.schema-item.is c.loop-schema.invariant.once c.in_ok-push_actions.ensures.once;
    }

pub returns-in_err-push_actions-clause-err : goal.returns-in_err-push_actions-clause-err
returns-in_err-push_actions-clause-err c =
    let d = c.args.universe.now.names in
    let ss = c.args.schemas.now in
    let i = c.loop-schema.schema-index in
    let s = c.schema-item.result in
    let whole = atom_twice (flat_map (schema_names d) ss) (flat_map (schema_actions d) ss) in
    let part = atom_twice (schema_names d s) (schema_actions d s) in
    reported c.from_residual.result part whole c.in_err-push_actions.field-0.0 c.from_residual.ensures.1
    (λ h. some_block (schema_names d) (schema_actions d) (even d) ss i s c.in_err-push_actions.field-0.0 c.loop-schema-test.true c.schema-item.is c.loop-schema.invariant.once h) c.in_err-push_actions.ensures.err
