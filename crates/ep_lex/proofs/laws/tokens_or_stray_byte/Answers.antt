use Rattle.ep_lex.proofs.Faults.{some_answer, stray-no_tokens}
use Rattle.ep_lex.proofs.laws.tokens_or_stray_byte.Goals as goal

pub returns-clause-one : goal.returns-clause-one
returns-clause-one c = some_answer

pub returns-clause-not_both : goal.returns-clause-not_both
returns-clause-not_both c = λ bytes ts at t s. stray-no_tokens bytes at ts s t
