use Rattle.ep_layout.proofs.PrintedLemmas.{behind-next}
use Rattle.ep_layout.proofs.print.print_behind.Goals as goal

pub loop-item-preserved : goal.loop-item-preserved
loop-item-preserved g c =
    behind-next c.args.terminal g.T.Print.marks c.args.items.now c.loop-item.item-index c.item-item.result c.loop-item.printer c.write_terminal.new.self c.print.new.printer _
    c.loop-item-test.true c.item-item.is c.in_ok-write_terminal.ensures c.in_ok-print.ensures c.loop-item.invariant
