use Rattle.ep_layout.proofs.PrintedLemmas.{each-next}
use Rattle.ep_layout.proofs.print.print_each.Goals as goal

pub loop-item-preserved : goal.loop-item-preserved
loop-item-preserved g c =
    each-next g.T.Print.marks c.args.items.now c.loop-item.item-index c.item-item.result c.loop-item.printer c.print.new.printer _ c.loop-item-test.true c.item-item.is
    c.in_ok-print.ensures c.loop-item.invariant
