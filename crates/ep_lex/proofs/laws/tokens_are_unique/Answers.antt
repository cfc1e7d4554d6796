use Rattle.ep_lex.proofs.TokenLaws.{tokens-unique}
use Rattle.ep_lex.proofs.laws.tokens_are_unique.Goals as goal

pub returns : goal.returns
returns c = tokens-unique
