use Rattle.std.proofs.Common.{refl}
use Rattle.ep_base.specs.Refusals.{first_some}
use Rattle.ep_ground.specs.Faults.{limit_fault}
use Rattle.ep_ground.specs.Grounding.{behind_limits, behind_names}
use Rattle.ep_ground.specs.declared.fault.GroundError.TheVariants as fault
use Rattle.ep_ground.proofs.TaskLemmas.{handed_on, none_before, on_error, on_none, some_before}
use Rattle.ep_ground.proofs.grounding.check_and_ground.Goals as goal

pub returns-in_err-check_limits-clause-err : goal.returns-in_err-check_limits-clause-err
returns-in_err-check_limits-clause-err c =
    let u = c.args.universe.now in
    let e = c.in_err-check_limits.field-0.0 in
    handed_on (λ x. x) fault.OutOfMemory c.from_residual.result e (limit_fault u.names u.tree) (first_some (behind_names u.names u.tree)) refl c.from_residual.ensures.1 c.in_err-check_limits.ensures.judged
    (some_before (limit_fault u.names u.tree) (behind_limits u.names u.tree) e)

pub returns-clause-sound : goal.returns-clause-sound
returns-clause-sound c =
    let u = c.args.universe.now in
    on_none (first_some (behind_limits u.names u.tree)) (first_some (behind_names u.names u.tree)) c.parts_of_task.result
    (none_before (limit_fault u.names u.tree) (behind_limits u.names u.tree) c.in_ok-check_limits.ensures.judged) c.parts_of_task.ensures.sound

pub returns-clause-err : goal.returns-clause-err
returns-clause-err c =
    let u = c.args.universe.now in
    on_error (first_some (behind_limits u.names u.tree)) (first_some (behind_names u.names u.tree)) c.parts_of_task.result
    (none_before (limit_fault u.names u.tree) (behind_limits u.names u.tree) c.in_ok-check_limits.ensures.judged) c.parts_of_task.ensures.err
