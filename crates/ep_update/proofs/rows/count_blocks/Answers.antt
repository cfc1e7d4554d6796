use Rattle.std.proofs.Common.{arith}
use Rattle.std.proofs.lemmas.List.Folds.{length-flat_map-take}
use Rattle.ep_update.specs.Places.{block}
use Rattle.ep_update.proofs.rows.count_blocks.Goals as goal

pub overflow_add-total : goal.overflow_add-total
overflow_add-total c = omega (arith, length-flat_map-take (block c.args.product.now.state.now c.args.product.now.action.now c.args.product.now.agent c.args.e) c.args.worlds.now c.loop-v.v-index 0 c.loop-v-test.true, c.block_length-total.ensures, c.loop-v.invariant, c.requires.few)
