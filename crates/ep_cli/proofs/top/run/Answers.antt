-- What was written, and whether it rests on a guide.
use Rattle.std.proofs.Common.{◌≡◌, sym, subst, ◌∙◌, length, map, string_bytes}
use Rattle.std.specs.Io.KnownBytes.{Appends}
use Rattle.ep_answer.specs.declared.status.Status.{Status}
use Rattle.ep_reading.specs.Served.{Answers}
use Rattle.ep_cli.specs.Commands.{Work}
use Rattle.ep_answer.specs.Answer.{answer_text}
use Rattle.ep_answer.specs.Status.{IsUsageUnlessCut, IsWritten}
use Rattle.ep_cli.proofs.FileLemmas.{served_by}
use Rattle.ep_cli.proofs.GuideLemmas.{rests_answer}
use Rattle.ep_cli.proofs.top.run.Goals as goal

pub returns-in-Ok-put-clause-usage : goal.returns-in-Ok-put-clause-usage
returns-in-Ok-put-clause-usage g c e = c.in-Ok.ensures.answer.usage.0 (sym c.status.ensures ∙ e)

pub returns-in-Ok-put-clause-misuse : goal.returns-in-Ok-put-clause-misuse
returns-in-Ok-put-clause-misuse g c misuse = subst IsUsageUnlessCut (sym (c.status.ensures ∙ c.in-Ok.ensures.answer.usage.1 misuse)) tt

pub returns-in-Ok-put-clause-asked : goal.returns-in-Ok-put-clause-asked
returns-in-Ok-put-clause-asked g c b guide mode are some rests =
    let bytes : c.as_bytes.result.now ≡ answer_text c.in-Ok.answer = c.as_bytes.ensures.value ∙ c.in-Ok-format.ensures.ok in
    c.in-Ok.ensures.asked b guide mode are some (rests_answer c.in-Ok.answer c.status.result _ _ c.as_bytes.result.now c.status.ensures bytes c.in-Ok-put.ensures.ok rests)

pub returns-in-Ok-put-clause-no_file : goal.returns-in-Ok-put-clause-no_file
returns-in-Ok-put-clause-no_file g c written none =
    let bytes : c.as_bytes.result.now ≡ answer_text c.in-Ok.answer = c.as_bytes.ensures.value ∙ c.in-Ok-format.ensures.ok in (
      answer_text c.in-Ok.answer,
      (λ files. subst (λ (s : Status). Work files (map string_bytes c.args.words.now) (length c.args.guides.now.items) (Answers s (answer_text c.in-Ok.answer))) (sym c.status.ensures) (c.in-Ok.ensures.no_file none files)),
      subst (Appends _ _) bytes c.in-Ok-put.ensures.ok,
    )

pub returns-in-Ok-put-clause-no_put : goal.returns-in-Ok-put-clause-no_put
returns-in-Ok-put-clause-no_put g c e = absurd (subst IsWritten (sym c.status.ensures ∙ e) c.in-Ok.ensures.answer.possible)

pub returns-in-Ok-put-clause-read_fault : goal.returns-in-Ok-put-clause-read_fault
returns-in-Ok-put-clause-read_fault g c e = let fault = c.in-Ok.ensures.answer.fault (sym c.status.ensures ∙ e) in fault.2.since

pub returns-in-Ok-put-clause-complete : goal.returns-in-Ok-put-clause-complete
returns-in-Ok-put-clause-complete g c used no_read no_write some =
    let bytes : c.as_bytes.result.now ≡ answer_text c.in-Ok.answer = c.as_bytes.ensures.value ∙ c.in-Ok-format.ensures.ok in (
      answer_text c.in-Ok.answer,
      served_by _ (length c.args.guides.now.items) _ _ _ _ c.status.ensures
          (c.in-Ok.ensures.answer.served (λ e. let fault = c.in-Ok.ensures.answer.fault e in no_read fault.2.since)),
      subst (Appends _ _) bytes c.in-Ok-put.ensures.ok,
    )
