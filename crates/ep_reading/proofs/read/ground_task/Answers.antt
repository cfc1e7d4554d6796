-- The fault of a ground task.
use Rattle.ep_reading.proofs.Steps.{grounded_fault}
use Rattle.ep_reading.proofs.read.ground_task.Goals as goal

pub returns-in-Err : goal.returns-in-Err
returns-in-Err c = grounded_fault c.args.found.now c.args.typed c.in-Err.error c.stop_of.result c.in-Err.ensures.fault c.stop_of.ensures
