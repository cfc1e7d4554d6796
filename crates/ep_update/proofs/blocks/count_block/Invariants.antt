use Rattle.std.proofs.Common.{◌≡◌, length}
use Rattle.ep_logic.specs.Numbers.{numbers_where}
use Rattle.ep_update.specs.Places.{is_linked_from}
use Rattle.ep_update.proofs.blocks.count_block.Given as goal

abbrev pub invariant-loop-k : goal.invariant-loop-k
invariant-loop-k l = l.count ≡ length (numbers_where (is_linked_from l.from l.product.action.now l.product.agent l.e l.product.found.now.list.items) l.k)
