-- The precondition, and each value that is assigned.
use Rattle.std.proofs.Common.{ℕ, ◌&&◌, ◌∙◌, ap, ap₂}
use Rattle.std.specs.List.{list_all}
use Rattle.ep_logic.specs.declared.formula.Node.{Node}
use Rattle.ep_event.specs.declared.parts.Assign.{Assign}
use Rattle.ep_dynamic.specs.Reduction.{is_reducible}
use Rattle.ep_dynamic.proofs.StepLemmas.{all_values}
use Rattle.ep_dynamic.proofs.compose.is_reducible_at.Goals as goal

pub returns : goal.returns
returns c =
    ap₂ (λ x y. x && y)
    (c.is_reducible_node-pre.ensures ∙ ap is_reducible (c.node.ensures.value ∙ c.pre.ensures.value))
    (c.are_values_reducible-values.ensures ∙ ap (list_all (λ (set : Assign). is_reducible set.value)) c.as_slice.ensures
    ∙ all_values c.sets.result.now ∙ ap (list_all (λ (set : ℕ × Node). is_reducible set.1)) c.sets.ensures.value)
