-- The first type fault.
use Rattle.std.proofs.Common.{sym, subst}
use Rattle.ep_base.specs.Refusals.{Reports}
use Rattle.ep_types.specs.Faults.{first_error}
use Rattle.ep_types.specs.Tasks.{task_uses}
use Rattle.ep_types.specs.declared.fault.TypeError.TheVariants as type_error
use Rattle.ep_answer.specs.declared.answer.Answer.TheVariants.{Refused}
use Rattle.ep_answer.specs.declared.cause.Cause.TheVariants as cause
use Rattle.ep_answer.specs.declared.cause.Subject.TheVariants.{Task}
use Rattle.ep_reading.specs.Served.{WellTyped, answers}
use Rattle.ep_reading.specs.Steps.{nothing_behind}
use Rattle.ep_reading.proofs.Steps.{types_fault}
use Rattle.ep_reading.proofs.read.typed_task.Goals as goal

pub returns-in-Err-At : goal.returns-in-Err-At
returns-in-Err-At c =
    let found = c.args.found.now in
    let uses = task_uses c.args.tree in
    let next = nothing_behind c.args.tree in
    subst (λ p. WellTyped Task found uses next (answers (Refused Task (cause.Mistyped c.in-Err-At.fault p)))) (sym c.place.ensures)
    (types_fault found uses next c.in-Err-At.fault c.in-Err-At.token
    (subst (Reports type_error.OutOfMemory (first_error uses)) c.in-Err-At.field-0-is c.in-Err-At.ensures.fault))
