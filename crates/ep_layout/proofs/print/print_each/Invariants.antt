use Rattle.std.proofs.Common.{◌≡◌, drop}
use Rattle.std.specs.List.{flat_map}
use Rattle.ep_layout.specs.Printing.{written}
use Rattle.ep_layout.proofs.print.print_each.Given as goal

-- what is left makes the whole
abbrev pub invariant-loop-item : goal.invariant-loop-item
invariant-loop-item g l = written l.printer (flat_map g.T.Print.marks (drop l.item-index l.items)) ≡ written l.initial.printer (flat_map g.T.Print.marks l.items)
