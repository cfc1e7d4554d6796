use Rattle.std.proofs.Common.{All, ap, sym, ◌∙◌, subst}
use Rattle.ep_schema.proofs.CallerLemmas.{HasFewParams, few_params}
use Rattle.ep_ground.proofs.formulas.task_formulas.Goals as goal

pub push_schemas-requires : goal.push_schemas-requires
push_schemas-requires c =
    subst (All HasFewParams) (sym (c.as_slice.ensures ∙ ap (λ z. z.schemas) c.tree-tree.ensures.tree)) (few_params c.args.universe.now.tree c.tree-tree.ensures.known.typed)
