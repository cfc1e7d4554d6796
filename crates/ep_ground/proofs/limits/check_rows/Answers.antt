use Rattle.std.proofs.Common.{◌≤◌, length, ap, sym, ◌∙◌, subst}
use Rattle.ep_lex.specs.declared.limits.TheConstants.{MOST_TOKENS}
use Rattle.ep_schema.proofs.CallerLemmas.{few_schemas}
use Rattle.ep_ground.proofs.limits.check_rows.Goals as goal

pub check_events-requires : goal.check_events-requires
check_events-requires c =
    subst (λ ss. length ss ≤ MOST_TOKENS) (sym (c.as_slice.ensures ∙ ap (λ z. z.schemas) c.tree.ensures.tree)) (few_schemas c.args.universe.now.tree c.tree.ensures.known.read)
