use Rattle.std.proofs.Common.{subst, ◌<◌, ℕ, length}
use Rattle.ep_types.specs.Links.{IsAbove, depth_at}
use Rattle.ep_types.proofs.Above.{at_row, above_there}
use Rattle.ep_types.proofs.TypeOrder.{deep}
use Rattle.ep_types.proofs.types.far_of.Goals as goal

pub returns-clause-above : goal.returns-clause-above
returns-clause-above c =
    let P : ℕ → Type 0 = λ far. IsAbove c.args.rows.now c.args.at far in
    subst P (at_row (λ row. row.far) c.args.rows.now c.args.at c.value.result.now c.value.ensures) (c.requires.linked.each c.args.at c.requires.there).far

pub returns-clause-higher : goal.returns-clause-higher
returns-clause-higher c d =
    let P : ℕ → Type 0 = λ far. depth_at c.args.rows.now far < depth_at c.args.rows.now c.args.at in
    subst P (at_row (λ row. row.far) c.args.rows.now c.args.at c.value.result.now c.value.ensures)
    ((c.requires.linked.each c.args.at c.requires.there).far_shallower (deep c.args.rows.now c.requires.linked c.args.at d))

pub returns-clause-there : goal.returns-clause-there
returns-clause-there c =
    let P : ℕ → Type 0 = λ far. far < length c.args.rows.now in
    subst P (at_row (λ row. row.far) c.args.rows.now c.args.at c.value.result.now c.value.ensures)
    (above_there c.args.rows.now c.requires.linked c.args.at _ c.requires.there (c.requires.linked.each c.args.at c.requires.there).far)
