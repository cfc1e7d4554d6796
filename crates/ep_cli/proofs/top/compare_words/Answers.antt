-- What is asked of a task and two plans.
use Rattle.std.proofs.Common.{map, string_bytes}
use Rattle.ep_cli.proofs.CommandLemmas.{serves_two}
use Rattle.ep_cli.proofs.FileLemmas.{fetches_two}
use Rattle.ep_cli.proofs.top.compare_words.Goals as goal

pub returns-clause-answer : goal.returns-clause-answer
returns-clause-answer g c =
    serves_two (map string_bytes c.args.words.now) c.args.comparison _ _ _ _ _ c.compare_plans.result
    c.word.ensures c.word-one.ensures c.word-two.ensures c.compare_plans.ensures.answer

pub returns-clause-fetches : goal.returns-clause-fetches
returns-clause-fetches g c =
    fetches_two (map string_bytes c.args.words.now) _ _ c.word.result.now c.word-one.result.now c.word-two.result.now c.word.ensures c.word-one.ensures c.word-two.ensures c.compare_plans.ensures.fetches
