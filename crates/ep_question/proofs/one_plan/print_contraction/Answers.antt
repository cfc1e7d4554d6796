-- The contraction is told, with its bytes.
use Rattle.std.proofs.Common.{string_bytes, ap, ◌∙◌}
use Rattle.ep_ground.specs.StateText.{state_text}
use Rattle.ep_question.proofs.QuestionLemmas.{contraction_by}
use Rattle.ep_question.proofs.one_plan.print_contraction.Goals as goal

pub returns : goal.returns
returns c =
    contraction_by c.args.task.now c.args.state.now c.in_ok-canon.canon c.in_ok-state.state (string_bytes c.in_ok-bytes.bytes) c.in_ok-canon.ensures.contraction
    (c.in_ok-state.ensures ∙ ap (state_text c.args.task.now) c.state.ensures.value) c.in_ok-bytes.ensures
