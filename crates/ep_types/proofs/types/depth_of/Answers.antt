use Rattle.std.proofs.Common.{sym, subst, ◌≤◌, ℕ, arith}
use Rattle.ep_types.proofs.Above.{at_row, depth_small}
use Rattle.ep_types.proofs.types.depth_of.Goals as goal

pub returns-clause-value : goal.returns-clause-value
returns-clause-value c = sym (at_row (λ row. row.depth) c.args.rows.now c.args.at c.value.result.now c.value.ensures)

pub returns-clause-small : goal.returns-clause-small
returns-clause-small c =
    let le : c.args.at ≤ c.args.at = omega arith in
    let P : ℕ → Type 0 = λ d. d ≤ c.args.at in
    subst P (at_row (λ row. row.depth) c.args.rows.now c.args.at c.value.result.now c.value.ensures) (depth_small c.args.rows.now c.requires.linked c.args.at c.args.at le c.requires.there)
