use Rattle.ep_plan_text.proofs.LawLemmas.{read_again, text_short}
use Rattle.ep_plan_text.proofs.laws.a_plan_is_read_again.Goals as goal

pub returns-clause-read : goal.returns-clause-read
returns-clause-read c = λ g measure mk plan whole few all. read_again g measure mk plan whole few all

pub returns-clause-short : goal.returns-clause-short
returns-clause-short c = λ g measure mk plan whole few all. text_short g measure mk plan whole few all
