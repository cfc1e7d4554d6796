use Rattle.std.proofs.Common.{◌∙◌, ◌++◌, ap, arith}
use Rattle.ep_update.proofs.RowLemmas.{firsts_long, block_is, range_of}
use Rattle.ep_update.proofs.blocks.put_block.Goals as goal

pub index-requires : goal.index-requires
index-requires c = omega (arith, c.requires.world, firsts_long c.args.product.now.state.now c.args.product.now.action.now c.args.product.now.found.now c.requires.places, c.args.product.now.found.now.firsts.ok.0)

pub index-requires-2 : goal.index-requires-2
index-requires-2 c = omega (arith, c.requires.world, firsts_long c.args.product.now.state.now c.args.product.now.action.now c.args.product.now.found.now c.requires.places, c.args.product.now.found.now.firsts.ok.0)

pub add_block-requires-clause-order : goal.add_block-requires-clause-order
add_block-requires-clause-order c = (range_of c.args.product.now.state.now c.args.product.now.action.now c.args.product.now.found.now c.args.v c.index.result.now c.index-2.result.now c.requires.places c.requires.world c.index.ensures c.index-2.ensures).order

pub add_block-requires-clause-within : goal.add_block-requires-clause-within
add_block-requires-clause-within c = (range_of c.args.product.now.state.now c.args.product.now.action.now c.args.product.now.found.now c.args.v c.index.result.now c.index-2.result.now c.requires.places c.requires.world c.index.ensures c.index-2.ensures).within

pub returns : goal.returns
returns c =
    let r = range_of c.args.product.now.state.now c.args.product.now.action.now c.args.product.now.found.now c.args.v c.index.result.now c.index-2.result.now c.requires.places c.requires.world c.index.ensures c.index-2.ensures in
    c.in_ok-add_block.ensures ∙ ap (λ xs. c.args.row.now.items ++ xs) (block_is c.args.product.now.state.now c.args.product.now.action.now c.args.product.now.agent c.args.e c.args.v c.index.result.now c.index-2.result.now c.args.product.now.found.now.list.items r.begin r.past c.requires.places.list)
