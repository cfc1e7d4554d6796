use Rattle.std.proofs.Common.{◌≤◌, All, length, sym, ◌∙◌, subst}
use Rattle.ep_lex.specs.declared.limits.TheConstants.{MOST_TOKENS}
use Rattle.ep_logic.specs.declared.limits.TheConstants.{MOST_GROUND_ACTIONS}
use Rattle.ep_ground.proofs.ReadLemmas.{few_formulas, few_times}
use Rattle.ep_ground.proofs.limits.check_nodes.Goals as goal

pub node_total-requires-clause-few : goal.node_total-requires-clause-few
node_total-requires-clause-few c =
    let u = c.args.universe.now in
    subst (λ xs. length xs ≤ MOST_TOKENS) (sym (c.as_slice.ensures ∙ c.in_ok-formulas.ensures)) (few_formulas u.names u.tree c.known.ensures.read)

pub node_total-requires-clause-times : goal.node_total-requires-clause-times
node_total-requires-clause-times c =
    let u = c.args.universe.now in
    subst (All (λ x. x.times ≤ MOST_GROUND_ACTIONS)) (sym (c.as_slice.ensures ∙ c.in_ok-formulas.ensures)) (few_times u.names u.tree c.requires)
