use Rattle.std.proofs.Common.{◌∙◌, ap, arith, length}
use Rattle.ep_update.proofs.RowLemmas.{place_read, place_fits, row_of, IsRowOf}
use Rattle.ep_update.proofs.rows.row_length.Goals as goal

pub read_targets-requires-clause-world : goal.read_targets-requires-clause-world
read_targets-requires-clause-world c = (place_fits c.args.product.now.state.now c.args.product.now.action.now c.args.i c.index.result.now c.requires.place
    (place_read c.args.product.now.state.now c.args.product.now.action.now c.args.product.now.found.now c.args.i c.index.result.now c.requires.places c.requires.place c.index.ensures)).0

pub count_blocks-length-requires-clause-event : goal.count_blocks-length-requires-clause-event
count_blocks-length-requires-clause-event c = (place_fits c.args.product.now.state.now c.args.product.now.action.now c.args.i c.index.result.now c.requires.place
    (place_read c.args.product.now.state.now c.args.product.now.action.now c.args.product.now.found.now c.args.i c.index.result.now c.requires.places c.requires.place c.index.ensures)).1

row : (c : goal.After-deref) → IsRowOf c.args.product.now.state.now c.args.product.now.action.now c.args.product.now.agent c.args.i c.index.result.now c.deref.result.now
row c = row_of c.args.product.now.state.now c.args.product.now.action.now c.in_ok-read_targets.ensures.valid c.args.product.now.agent c.args.i c.index.result.now c.deref.result.now c.requires.place
    (place_read c.args.product.now.state.now c.args.product.now.action.now c.args.product.now.found.now c.args.i c.index.result.now c.requires.places c.requires.place c.index.ensures)
    (c.deref.ensures.value ∙ c.in_ok-read_targets.ensures.value)

pub count_blocks-length-requires-clause-worlds : goal.count_blocks-length-requires-clause-worlds
count_blocks-length-requires-clause-worlds c = (row c).within

pub count_blocks-length-requires-clause-few : goal.count_blocks-length-requires-clause-few
count_blocks-length-requires-clause-few c = omega (arith, (row c).short, c.requires.few)

pub returns : goal.returns
returns c =
    let r = row_of c.args.product.now.state.now c.args.product.now.action.now c.in_ok-read_targets.ensures.valid c.args.product.now.agent c.args.i c.index.result.now c.deref.result.now c.requires.place
    (place_read c.args.product.now.state.now c.args.product.now.action.now c.args.product.now.found.now c.args.i c.index.result.now c.requires.places c.requires.place c.index.ensures)
    (c.deref.ensures.value ∙ c.in_ok-read_targets.ensures.value) in
    c.count_blocks-length.ensures ∙ ap length r.joined
