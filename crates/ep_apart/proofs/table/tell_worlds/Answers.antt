use Rattle.std.proofs.Common.{ap, arith, le_refl}
use Rattle.ep_apart.specs.Tables.{cell, told_table}
use Rattle.ep_apart.proofs.TableLemmas.{table-bound}
use Rattle.ep_apart.proofs.table.tell_worlds.Goals as goal

pub next_table-requires-clause-room : goal.next_table-requires-clause-room
next_table-requires-clause-room c =
    let f = c.loop-round.invariant.few in
    let b = table-bound (cell c.loop-round.table) c.args.q.now.worlds c.args.q.now.worlds 512 c.requires.small in
    let s = c.requires.small in
    omega (arith, f, b, s)

pub returns-clause-few : goal.returns-clause-few
returns-clause-few c =
    let n = c.args.q.now.worlds in
    let f = c.loop-round.invariant.few in
    let b = table-bound (cell c.loop-round.table) n n n (le_refl n) in
    omega (arith, f, b)

pub returns-then-is_full-clause-few : goal.returns-then-is_full-clause-few
returns-then-is_full-clause-few c =
    let n = c.args.q.now.worlds in
    let f = c.loop-round.invariant.few in
    let g = c.in_ok-table.ensures.few in
    let e = ap (λ t. told_table (cell t) n n) c.as_slice.ensures in
    let b = table-bound (cell c.in_ok-table.table) n n n (le_refl n) in
    omega (arith, f, g, b, e)
