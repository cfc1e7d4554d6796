use Rattle.std.proofs.Common.{◌≡◌, ◌++◌}
use Rattle.ep_logic.specs.Numbers.{numbers_where}
use Rattle.ep_update.specs.Places.{is_linked_from}
use Rattle.ep_update.proofs.blocks.add_block.Given as goal

abbrev pub invariant-loop-k : goal.invariant-loop-k
invariant-loop-k l = l.row.items ≡ l.fn.row.items ++ numbers_where (is_linked_from l.from l.product.action.now l.product.agent l.e l.product.found.now.list.items) l.k
