use Rattle.ep_question.proofs.OneAnswer.{one_text}
use Rattle.ep_question.proofs.laws.a_contraction_has_one_text.Goals as goal

pub returns : goal.returns
returns c = one_text
