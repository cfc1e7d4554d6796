use Rattle.std.proofs.Common.{◌≡◌, subst, ◌+◌, ◌<◌, ℕ, length, arith}
use Rattle.ep_types.specs.Links.{IsAbove, depth_at, up_at}
use Rattle.ep_types.proofs.Above.{at_row, up_above}
use Rattle.ep_types.proofs.TypeOrder.{deep, up_in}
use Rattle.ep_types.proofs.types.up_of.Goals as goal

pub returns-clause-above : goal.returns-clause-above
returns-clause-above c =
    let P : ℕ → Type 0 = λ up. IsAbove c.args.rows.now c.args.at up in
    let pos = deep c.args.rows.now c.requires.linked c.args.at c.requires.deep in
    subst P (at_row (λ row. row.up) c.args.rows.now c.args.at c.value.result.now c.value.ensures) (up_above c.args.rows.now c.requires.linked c.args.at c.requires.there pos)

pub returns-clause-depth : goal.returns-clause-depth
returns-clause-depth c =
    let P : ℕ → Type 0 = λ up. depth_at c.args.rows.now c.args.at ≡ depth_at c.args.rows.now up + 1 in
    let pos = deep c.args.rows.now c.requires.linked c.args.at c.requires.deep in
    let deeper = (c.requires.linked.each c.args.at c.requires.there).deeper pos in
    let one : depth_at c.args.rows.now c.args.at ≡ depth_at c.args.rows.now (up_at c.args.rows.now c.args.at) + 1 = omega (arith, deeper) in
    subst P (at_row (λ row. row.up) c.args.rows.now c.args.at c.value.result.now c.value.ensures) one

pub returns-clause-there : goal.returns-clause-there
returns-clause-there c =
    let P : ℕ → Type 0 = λ up. up < length c.args.rows.now in
    subst P (at_row (λ row. row.up) c.args.rows.now c.args.at c.value.result.now c.value.ensures) (up_in c.args.rows.now c.requires.linked c.args.at c.requires.there)
