use Rattle.std.proofs.Common.{◌≡◌, drop, map}
use Rattle.ep_layout.specs.Printing.{written}
use Rattle.ep_tree.specs.Spelling.{behind}
use Rattle.ep_layout.proofs.print.print_behind.Given as goal

-- what is left makes the whole
abbrev pub invariant-loop-item : goal.invariant-loop-item
invariant-loop-item g l =
    written l.printer (behind l.terminal (map g.T.Print.marks (drop l.item-index l.items))) ≡ written l.initial.printer (behind l.terminal (map g.T.Print.marks l.items))
