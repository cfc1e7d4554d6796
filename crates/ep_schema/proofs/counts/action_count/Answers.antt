use Rattle.std.proofs.Common.{◌≡◌, ◌≤◌, All, length, ap, sym, ◌∙◌, subst}
use Rattle.ep_lex.specs.declared.limits.TheConstants.{MOST_TOKENS}
use Rattle.ep_schema.proofs.CandidateLemmas.{HasFewParams, few_params, few_schemas}
use Rattle.ep_schema.proofs.counts.action_count.Goals as goal

pub count_all-requires-clause-few : goal.count_all-requires-clause-few
count_all-requires-clause-few c =
    subst (λ ss. length ss ≤ MOST_TOKENS) (sym (c.as_slice.ensures ∙ ap (λ z. z.schemas) c.tree-tree.ensures.tree)) (few_schemas c.args.universe.now.tree c.tree-tree.ensures.known.read)

pub count_all-requires-clause-params : goal.count_all-requires-clause-params
count_all-requires-clause-params c =
    subst (All HasFewParams) (sym (c.as_slice.ensures ∙ ap (λ z. z.schemas) c.tree-tree.ensures.tree)) (few_params c.args.universe.now.tree c.tree-tree.ensures.known.typed)
