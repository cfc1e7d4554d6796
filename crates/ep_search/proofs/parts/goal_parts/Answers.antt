use Rattle.std.proofs.Common.{◌++◌, ◌∷◌, [], inr, sym, ◌∙◌, ap}
use Rattle.ep_search.proofs.PartLemmas.{parts_of_And}
use Rattle.ep_search.proofs.parts.goal_parts.Goals as goal

pub copy_parts-requires-clause-formed : goal.copy_parts-requires-clause-formed
copy_parts-requires-clause-formed c =
    (parts_of_And c.in-And.parts c.args.goal.now (sym c.node.ensures.value ∙ c.in-And.is) c.node.ensures.formed.formed c.node.ensures.formed.small).formed

pub returns-clause-value : goal.returns-clause-value
returns-clause-value c = inr ((λ gs e. c.in_default.not-And gs (c.node.ensures.value ∙ e)), c.in_ok-push.ensures.ok ∙ ap (λ xs. xs ++ c.in_ok-copy.field-0 ∷ []) c.new-parts.ensures ∙ ap (λ f. f ∷ []) c.in_ok-copy.ensures)
