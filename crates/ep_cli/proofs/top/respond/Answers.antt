-- What a command answers its words answer.
use Rattle.std.proofs.Common.{inl, inr, refl, sym}
use Rattle.ep_words.specs.declared.command.Command.TheVariants.{Plan}
use Rattle.ep_cli.proofs.Lift.{IsAnswer-command, if_told}
use Rattle.ep_planning.proofs.CallerLemmas.{keeps_all}
use Rattle.ep_cli.proofs.KeepsLemmas.{keeps_words}
use Rattle.ep_cli.proofs.top.respond.Goals as goal

pub returns-in-Ok-serve-clause-answer : goal.returns-in-Ok-serve-clause-answer
returns-in-Ok-serve-clause-answer g c = IsAnswer-command _ _ c.in-Ok.command _ _ _ _ c.in-Ok.ensures.command c.in-Ok.ensures.only c.in-Ok-serve.ensures.answer

pub returns-in-Ok-serve-clause-asked : goal.returns-in-Ok-serve-clause-asked
returns-in-Ok-serve-clause-asked g c b guide mode are some needs = c.in-Ok-serve.ensures.asked b guide mode (sym (c.in-Ok.ensures.only (Plan b guide mode) are)) some needs

pub returns-in-Err-serve-clause-answer : goal.returns-in-Err-serve-clause-answer
returns-in-Err-serve-clause-answer g c =
    if_told _ c.into_answer.result c.in-Err-serve.stop c.into_answer.ensures.ok
    (λ answer is. let told = rw is at c.in-Err-serve.ensures.answer in IsAnswer-command _ _ c.in-Ok.command _ _ _ _ c.in-Ok.ensures.command c.in-Ok.ensures.only told)

pub returns-in-Err-serve-clause-asked : goal.returns-in-Err-serve-clause-asked
returns-in-Err-serve-clause-asked g c =
    if_told _ c.into_answer.result c.in-Err-serve.stop c.into_answer.ensures.ok
    (λ answer is b guide mode are some needs. let asked = rw is at c.in-Err-serve.ensures.asked in asked b guide mode (sym (c.in-Ok.ensures.only (Plan b guide mode) are)) some needs)

pub returns-in-Ok-serve-clause-guides : goal.returns-in-Ok-serve-clause-guides
returns-in-Ok-serve-clause-guides g c = keeps_words _ _ _ _ c.in-Ok.command c.in-Ok.ensures.command c.serve.ensures.guides

pub returns-in-Ok-serve-clause-fetches : goal.returns-in-Ok-serve-clause-fetches
returns-in-Ok-serve-clause-fetches g c = inr (c.in-Ok.command, c.in-Ok.ensures.command, c.serve.ensures.fetches)

pub returns-in-Err-serve-clause-guides : goal.returns-in-Err-serve-clause-guides
returns-in-Err-serve-clause-guides g c = keeps_words _ _ _ _ c.in-Ok.command c.in-Ok.ensures.command c.serve.ensures.guides

pub returns-in-Err-serve-clause-fetches : goal.returns-in-Err-serve-clause-fetches
returns-in-Err-serve-clause-fetches g c = inr (c.in-Ok.command, c.in-Ok.ensures.command, c.serve.ensures.fetches)

pub returns-in-Ok-serve-clause-no_file : goal.returns-in-Ok-serve-clause-no_file
returns-in-Ok-serve-clause-no_file g c none files =
    inr (c.in-Ok.command, c.in-Ok.ensures.command, c.in-Ok-serve.ensures.no_file (none c.in-Ok.command c.in-Ok.ensures.command) files)

pub returns-in-Err-serve-clause-no_file : goal.returns-in-Err-serve-clause-no_file
returns-in-Err-serve-clause-no_file g c =
    if_told _ c.into_answer.result c.in-Err-serve.stop c.into_answer.ensures.ok
    (λ answer is none files. let told = rw is at c.in-Err-serve.ensures.no_file in inr (c.in-Ok.command, c.in-Ok.ensures.command, told (none c.in-Ok.command c.in-Ok.ensures.command) files))

pub returns-in-Err-clause-guides : goal.returns-in-Err-clause-guides
returns-in-Err-clause-guides g c = keeps_all _ _ c.args.guides.now.items
