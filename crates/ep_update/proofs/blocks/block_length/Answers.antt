use Rattle.std.proofs.Common.{◌∙◌, ap, arith, length}
use Rattle.ep_update.proofs.RowLemmas.{firsts_long, block_is, range_of}
use Rattle.ep_update.proofs.blocks.block_length.Goals as goal

pub index-requires : goal.index-requires
index-requires c = omega (arith, c.requires.world, firsts_long c.args.product.now.state.now c.args.product.now.action.now c.args.product.now.found.now c.requires.places, c.args.product.now.found.now.firsts.ok.0)

pub index-requires-2 : goal.index-requires-2
index-requires-2 c = omega (arith, c.requires.world, firsts_long c.args.product.now.state.now c.args.product.now.action.now c.args.product.now.found.now c.requires.places, c.args.product.now.found.now.firsts.ok.0)

pub count_block-requires-clause-order : goal.count_block-requires-clause-order
count_block-requires-clause-order c = (range_of c.args.product.now.state.now c.args.product.now.action.now c.args.product.now.found.now c.args.v c.index.result.now c.index-2.result.now c.requires.places c.requires.world c.index.ensures c.index-2.ensures).order

pub count_block-requires-clause-within : goal.count_block-requires-clause-within
count_block-requires-clause-within c = (range_of c.args.product.now.state.now c.args.product.now.action.now c.args.product.now.found.now c.args.v c.index.result.now c.index-2.result.now c.requires.places c.requires.world c.index.ensures c.index-2.ensures).within

pub returns : goal.returns
returns c =
    let r = range_of c.args.product.now.state.now c.args.product.now.action.now c.args.product.now.found.now c.args.v c.index.result.now c.index-2.result.now c.requires.places c.requires.world c.index.ensures c.index-2.ensures in
    c.count_block.ensures ∙ ap length (block_is c.args.product.now.state.now c.args.product.now.action.now c.args.product.now.agent c.args.e c.args.v c.index.result.now c.index-2.result.now c.args.product.now.found.now.list.items r.begin r.past c.requires.places.list)
