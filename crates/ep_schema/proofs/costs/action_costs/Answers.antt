use Rattle.std.proofs.Common.{◌≡◌, ℕ, ◌≤◌, List, All, IfOk, length, ap, sym, ◌∙◌, subst}
use Rattle.std.specs.List.{AllByRecursion}
use Rattle.ep_bounds.specs.declared.bounds.TheConstants.{MOST_COST}
use Rattle.ep_schema.specs.Actions.{actions_of, costs_of}
use Rattle.ep_schema.proofs.CandidateLemmas.{HasFewParams, few_params}
use Rattle.ep_schema.proofs.CostLemmas.{costs_counted, costs_least, costs_most, each_ok}
use Rattle.ep_schema.proofs.costs.action_costs.Goals as goal

pub costs_of-requires : goal.costs_of-requires
costs_of-requires c =
    let t = c.args.universe.now.tree in
    let same : c.as_slice.result.now ≡ t.schemas = c.as_slice.ensures ∙ ap (λ z. z.schemas) c.tree-tree.ensures.tree in
    subst (All HasFewParams) (sym same) (few_params t c.tree-tree.ensures.known.typed)

pub returns-clause-counted : goal.returns-clause-counted
returns-clause-counted c =
    let u = c.args.universe.now in
    let same : c.as_slice.result.now ≡ u.tree.schemas = c.as_slice.ensures ∙ ap (λ z. z.schemas) c.tree-tree.ensures.tree in
    each_ok (λ (costs : List ℕ). length costs ≡ length (actions_of u.names u.tree.schemas)) c.costs_of.result (costs_of u.names c.as_slice.result.now) c.costs_of.ensures
    (ap (λ ss. length (costs_of u.names ss)) same ∙ costs_counted u.names u.tree.schemas)

pub returns-clause-least : goal.returns-clause-least
returns-clause-least c =
    let u = c.args.universe.now in
    let same : c.as_slice.result.now ≡ u.tree.schemas = c.as_slice.ensures ∙ ap (λ z. z.schemas) c.tree-tree.ensures.tree in
    each_ok (AllByRecursion (λ cost. 1 ≤ cost)) c.costs_of.result (costs_of u.names c.as_slice.result.now) c.costs_of.ensures
    (subst (λ ss. AllByRecursion (λ cost. 1 ≤ cost) (costs_of u.names ss)) (sym same) (costs_least u.names u.tree.schemas c.tree-tree.ensures.known.read.formed.5))

pub returns-clause-most : goal.returns-clause-most
returns-clause-most c =
    let u = c.args.universe.now in
    let same : c.as_slice.result.now ≡ u.tree.schemas = c.as_slice.ensures ∙ ap (λ z. z.schemas) c.tree-tree.ensures.tree in
    each_ok (AllByRecursion (λ cost. cost ≤ MOST_COST)) c.costs_of.result (costs_of u.names c.as_slice.result.now) c.costs_of.ensures
    (subst (λ ss. AllByRecursion (λ cost. cost ≤ MOST_COST) (costs_of u.names ss)) (sym same) (costs_most u.names u.tree.schemas c.tree-tree.ensures.known.read.formed.5))
