use Rattle.ep_layout.proofs.LaidOutLemmas.{laid_out-task}
use Rattle.ep_layout.proofs.print.task.print_task.Goals as goal

pub returns : goal.returns
returns c =
    laid_out-task c.args.tree.now c.new-printer.result c.print.new.printer c.finish.result c.new-printer.ensures c.in_ok-print.ensures c.finish.ensures
