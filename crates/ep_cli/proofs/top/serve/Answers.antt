-- What a command answers for its files.
use Rattle.std.proofs.Common.{map, string_bytes, subst, sym, ◌∙◌}
use Rattle.ep_words.specs.Words.{IsCommand}
use Rattle.ep_cli.proofs.CommandLemmas.{serves_validate, serves_eval, serves_state, serves_contract, serves_apart, serves_same, serves_check_command, serves_trial, serves_plan}
use Rattle.ep_cli.proofs.GuideLemmas.{asked_of}
use Rattle.ep_cli.proofs.WordLemmas.{plan_within}
use Rattle.ep_cli.proofs.top.serve.Goals as goal

pub plan_by_guide-requires : goal.plan_by_guide-requires
plan_by_guide-requires g c =
    let words = map string_bytes c.args.words.now in
    plan_within words c.in-Plan.bounds c.in-Plan.guide c.in-Plan.mode (subst (IsCommand words) c.in-Plan.is c.requires)

pub returns-in-Plan-clause-answer : goal.returns-in-Plan-clause-answer
returns-in-Plan-clause-answer g c =
    serves_plan (map string_bytes c.args.words.now) _ c.in-Plan.bounds c.in-Plan.guide c.in-Plan.mode c.word-file.result.now _ _ c.plan_by_guide.result c.args.command c.in-Plan.is c.word-file.ensures c.plan_by_guide.ensures.answer

pub returns-in-Plan-clause-asked : goal.returns-in-Plan-clause-asked
returns-in-Plan-clause-asked g c b guide mode is some needs =
    asked_of _ _ _ c.in-Plan.bounds b c.in-Plan.guide guide c.in-Plan.mode mode _ (sym c.in-Plan.is ∙ is) c.plan_by_guide.ensures.asked some needs

pub returns-in-Validate-clause-answer : goal.returns-in-Validate-clause-answer
returns-in-Validate-clause-answer g c =
    serves_validate (map string_bytes c.args.words.now) _ c.word.result.now c.word-in-Validate.result.now _ _ c.answer_question.result c.args.command c.in-Validate.is c.word.ensures c.word-in-Validate.ensures c.answer_question.ensures.answer

pub returns-in-Eval-clause-answer : goal.returns-in-Eval-clause-answer
returns-in-Eval-clause-answer g c =
    serves_eval (map string_bytes c.args.words.now) _ c.word-in-Eval-2.result.now c.word-in-Eval-3.result.now c.word-in-Eval.result.now _ _ c.answer_question-in-Eval.result c.args.command c.in-Eval.is
    c.word-in-Eval-2.ensures c.word-in-Eval-3.ensures c.word-in-Eval.ensures c.answer_question-in-Eval.ensures.answer

pub returns-in-State-clause-answer : goal.returns-in-State-clause-answer
returns-in-State-clause-answer g c =
    serves_state (map string_bytes c.args.words.now) _ c.word-in-State.result.now c.word-in-State-2.result.now _ _ c.answer_question-in-State.result c.args.command c.in-State.is c.word-in-State.ensures c.word-in-State-2.ensures c.answer_question-in-State.ensures.answer

pub returns-in-Contract-clause-answer : goal.returns-in-Contract-clause-answer
returns-in-Contract-clause-answer g c =
    serves_contract (map string_bytes c.args.words.now) _ c.word-in-Contract.result.now c.word-in-Contract-2.result.now _ _ c.answer_question-in-Contract.result c.args.command c.in-Contract.is
    c.word-in-Contract.ensures c.word-in-Contract-2.ensures c.answer_question-in-Contract.ensures.answer

pub returns-in-Same-clause-answer : goal.returns-in-Same-clause-answer
returns-in-Same-clause-answer g c =
    serves_same (map string_bytes c.args.words.now) _ _ _ c.compare_words.result c.args.command c.in-Same.is c.compare_words.ensures.answer

pub returns-in-Check-clause-answer : goal.returns-in-Check-clause-answer
returns-in-Check-clause-answer g c =
    serves_check_command (map string_bytes c.args.words.now) _ c.word-in-Check.result.now _ _ c.check_task.result c.args.command c.in-Check.is c.word-in-Check.ensures c.check_task.ensures.answer

pub returns-in-Trial-clause-answer : goal.returns-in-Trial-clause-answer
returns-in-Trial-clause-answer g c =
    serves_trial (map string_bytes c.args.words.now) _ c.in-Trial.children _ c.try_by_guide.result c.args.command c.in-Trial.is c.try_by_guide.ensures.answer

pub returns-in-Apart-clause-answer : goal.returns-in-Apart-clause-answer
returns-in-Apart-clause-answer g c =
    serves_apart (map string_bytes c.args.words.now) _ _ _ c.compare_words-in-Apart.result c.args.command c.in-Apart.is c.compare_words-in-Apart.ensures.answer
