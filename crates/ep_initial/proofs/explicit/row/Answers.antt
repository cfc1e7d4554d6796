use Rattle.std.proofs.Common.{length, ◌∙◌}
use Rattle.std.proofs.lemmas.Result.{IfOk-weaker}
use Rattle.ep_logic.specs.Numbers.{has_number, table}
use Rattle.ep_initial.proofs.explicit.row.Goals as goal

pub returns : goal.returns
returns c =
    IfOk-weaker c.from_places.result _ _ (λ row e. e ∙ (λ i. table (has_number ((c.as_slice.ensures ∙ c.in_ok-numbers.ensures) i)) (c.atoms-atoms.ensures.value i))) c.from_places.ensures
