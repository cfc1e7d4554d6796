use Rattle.ep_plan_text.proofs.AnswerLemmas.{fault_one, plan_one, plan_or_fault}
use Rattle.ep_plan_text.proofs.laws.bytes_say_one_thing.Goals as goal

pub returns-clause-plan : goal.returns-clause-plan
returns-clause-plan c = λ g bytes p q apart x y. plan_one g bytes p q apart x y

pub returns-clause-fault : goal.returns-clause-fault
returns-clause-fault c = λ g bytes e f x y. fault_one g bytes e f x y

pub returns-clause-not_both : goal.returns-clause-not_both
returns-clause-not_both c = λ g bytes p e x y. plan_or_fault g bytes p e x y
