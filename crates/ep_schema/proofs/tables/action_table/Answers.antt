use Rattle.std.proofs.Common.{◌≡◌, ◌≤◌, All, length, ap, sym, ◌∙◌, subst}
use Rattle.ep_logic.specs.declared.limits.TheConstants.{MOST_GROUND_ACTIONS}
use Rattle.ep_binding.specs.Bindings.{IsApart}
use Rattle.ep_types.specs.declared.scope.Declared.{Declared}
use Rattle.ep_schema.specs.ActionNames.{AreNames, action_names}
use Rattle.ep_schema.proofs.CandidateLemmas.{HasFewParams, few_params}
use Rattle.ep_schema.proofs.DifferLemmas.{names_differ}
use Rattle.ep_schema.proofs.WordLemmas.{names_are}
use Rattle.ep_schema.proofs.tables.action_table.Goals as goal

pub action_names-requires : goal.action_names-requires
action_names-requires c =
    let t = c.args.universe.now.tree in
    let same : c.as_slice.result.now ≡ t.schemas = c.as_slice.ensures ∙ ap (λ z. z.schemas) c.tree-tree.ensures.tree in
    subst (All HasFewParams) (sym same) (few_params t c.tree-tree.ensures.known.typed)

pub table_of-requires-clause-few : goal.table_of-requires-clause-few
table_of-requires-clause-few c =
    let u = c.args.universe.now in
    let same : c.as_slice.result.now ≡ u.tree.schemas = c.as_slice.ensures ∙ ap (λ z. z.schemas) c.tree-tree.ensures.tree in
    subst (λ ns. length ns ≤ MOST_GROUND_ACTIONS) (sym (c.as_slice-2.ensures ∙ c.in_ok-texts.ensures ∙ ap (action_names u.names) same)) c.requires

pub table_of-requires-clause-apart : goal.table_of-requires-clause-apart
table_of-requires-clause-apart c =
    let u = c.args.universe.now in
    let known = c.tree-tree.ensures.known in
    let same : c.as_slice.result.now ≡ u.tree.schemas = c.as_slice.ensures ∙ ap (λ z. z.schemas) c.tree-tree.ensures.tree in
    let are : AreNames u.names u.tree.schemas = subst (λ (d : Declared). AreNames d u.tree.schemas) (sym known.declared) (names_are u.tree known.typed known.read) in
    subst IsApart (sym (c.as_slice-2.ensures ∙ c.in_ok-texts.ensures ∙ ap (action_names u.names) same)) (names_differ u.names u.tree.schemas are)
