use Rattle.std.proofs.Common.{◌≡◌, ◌++◌, take, flat_map}
use Rattle.ep_update.specs.Places.{block}
use Rattle.ep_update.proofs.rows.put_blocks.Given as goal

abbrev pub invariant-loop-v : goal.invariant-loop-v
invariant-loop-v l = l.row.items ≡ l.fn.row.items ++ flat_map (block l.product.state.now l.product.action.now l.product.agent l.e) (take l.v-index l.worlds)
