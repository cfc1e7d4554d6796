use Rattle.ep_question.proofs.OneAnswer.{one_contract}
use Rattle.ep_question.proofs.laws.contract_has_one_answer.Goals as goal

pub returns : goal.returns
returns c = one_contract
