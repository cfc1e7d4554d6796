use Rattle.std.proofs.Common.{◌∙◌, ◌++◌, ap, flat_map}
use Rattle.ep_update.specs.Places.{block}
use Rattle.ep_update.proofs.RowLemmas.{place_read, place_fits, row_of, IsRowOf}
use Rattle.ep_update.proofs.rows.fill_row.Goals as goal

pub read_targets-requires-clause-world : goal.read_targets-requires-clause-world
read_targets-requires-clause-world c = (place_fits c.args.product.now.state.now c.args.product.now.action.now c.args.i c.index.result.now c.requires.place
    (place_read c.args.product.now.state.now c.args.product.now.action.now c.args.product.now.found.now c.args.i c.index.result.now c.requires.places c.requires.place c.index.ensures)).0

pub put_blocks-requires-clause-event : goal.put_blocks-requires-clause-event
put_blocks-requires-clause-event c = (place_fits c.args.product.now.state.now c.args.product.now.action.now c.args.i c.index.result.now c.requires.place
    (place_read c.args.product.now.state.now c.args.product.now.action.now c.args.product.now.found.now c.args.i c.index.result.now c.requires.places c.requires.place c.index.ensures)).1

row : (c : goal.After-deref) → IsRowOf c.args.product.now.state.now c.args.product.now.action.now c.args.product.now.agent c.args.i c.index.result.now c.deref.result.now
row c = row_of c.args.product.now.state.now c.args.product.now.action.now c.in_ok-read_targets.ensures.valid c.args.product.now.agent c.args.i c.index.result.now c.deref.result.now c.requires.place
    (place_read c.args.product.now.state.now c.args.product.now.action.now c.args.product.now.found.now c.args.i c.index.result.now c.requires.places c.requires.place c.index.ensures)
    (c.deref.ensures.value ∙ c.in_ok-read_targets.ensures.value)

pub put_blocks-requires-clause-worlds : goal.put_blocks-requires-clause-worlds
put_blocks-requires-clause-worlds c = (row c).within

pub returns : goal.returns
returns c =
    let r = row_of c.args.product.now.state.now c.args.product.now.action.now c.in_ok-read_targets.ensures.valid c.args.product.now.agent c.args.i c.index.result.now c.deref.result.now c.requires.place
    (place_read c.args.product.now.state.now c.args.product.now.action.now c.args.product.now.found.now c.args.i c.index.result.now c.requires.places c.requires.place c.index.ensures)
    (c.deref.ensures.value ∙ c.in_ok-read_targets.ensures.value) in
    c.in_ok-put_blocks.ensures ∙ ap (λ xs. xs ++ flat_map (block c.args.product.now.state.now c.args.product.now.action.now c.args.product.now.agent c.index.result.now.1) c.deref.result.now) c.clear.ensures.items ∙ r.joined
