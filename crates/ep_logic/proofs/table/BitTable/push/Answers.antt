use Rattle.std.proofs.Common.{◌≡◌, ◌∙◌, ◌+◌, ◌<◌, ◌++◌, ◌∷◌, [], ap, subst, sym, length, arith}
use Rattle.ep_logic.specs.declared.table.TheConstants.{MOST_ROWS}
use Rattle.ep_logic.specs.Packed.{unpacked, IsPacked}
use Rattle.ep_logic.specs.Tables.{Table, table_rows, IsTable}
use Rattle.ep_logic.proofs.TableLemmas.{length-table_rows, push_rows, push_is_table}
use Rattle.ep_logic.proofs.table.BitTable.push.Goals as goal

pub invariant_of-self-2 : goal.invariant_of-self-2
invariant_of-self-2 c =
    let s = c.self.inside in
    let few : s.count < MOST_ROWS = omega (arith, c.requires.room, length-table_rows s.words.items s.width s.per s.count, ap (λ (t : Table). length t.rows) c.self.view_is) in
    let packed : IsPacked c.args.row.now s.width = subst (λ (t : Table). IsPacked c.args.row.now t.width) (sym c.self.view_is) c.requires.packed in
    subst (λ ws. IsTable ws s.width s.per (s.count + 1)) (sym c.in_ok-extend_from_slice.ensures.items)
    (push_is_table s.words.items c.args.row.now s.width s.per s.count c.self.invariant packed few)

pub returns-clause-ok : goal.returns-clause-ok
returns-clause-ok c =
    let s = c.self.inside in
    ap (λ ws. record { width = s.width; rows = table_rows ws s.width s.per (s.count + 1) }) c.in_ok-extend_from_slice.ensures.items
    ∙ ap (λ rows. record { width = s.width; rows = rows }) (push_rows s.words.items c.args.row.now s.width s.per s.count c.self.invariant)
    ∙ ap (λ (t : Table). record { width = t.width; rows = t.rows ++ unpacked c.args.row.now t.width ∷ [] }) c.self.view_is
