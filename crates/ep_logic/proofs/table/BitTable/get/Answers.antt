use Rattle.std.proofs.Common.{◌<◌, ◌*◌, ◌+◌, [], false, length, get_or, ap, ◌∙◌, arith}
use Rattle.ep_logic.specs.Packed.{bit_in}
use Rattle.ep_logic.proofs.TableLemmas.{in_table, in_width, table_value, row_ends}
use Rattle.ep_logic.proofs.table.BitTable.get.Goals as goal

pub place_in-requires-clause-row : goal.place_in-requires-clause-row
place_in-requires-clause-row c =
    let s = c.self.inside in
    omega (arith, in_table s.words.items s.width s.per s.count c.args.self.now c.self.view_is c.args.r c.requires.row, c.self.invariant.few)

pub get_bit-requires : goal.get_bit-requires
get_bit-requires c =
    let s = c.self.inside in
    let r : c.args.r < s.count = in_table s.words.items s.width s.per s.count c.args.self.now c.self.view_is c.args.r c.requires.row in
    let i : c.args.i < s.width = in_width s.words.items s.width s.per s.count c.args.self.now c.self.view_is c.args.i c.requires.place in
    omega (arith, c.place_in.ensures, i, row_ends c.args.r s.count s.per r, c.self.invariant.long, c.self.invariant.words_of_row, ap length c.deref.ensures.value)

pub returns : goal.returns
returns c =
    let s = c.self.inside in
    let r : c.args.r < s.count = in_table s.words.items s.width s.per s.count c.args.self.now c.self.view_is c.args.r c.requires.row in
    let i : c.args.i < s.width = in_width s.words.items s.width s.per s.count c.args.self.now c.self.view_is c.args.i c.requires.place in
    c.get_bit.ensures ∙ ap (bit_in c.deref.result.now) c.place_in.ensures ∙ ap (λ ws. bit_in ws (c.args.r * s.per * 64 + c.args.i)) c.deref.ensures.value
    ∙ table_value s.words.items s.width s.per s.count c.args.r c.args.i r i
    ∙ ap (λ t. get_or (get_or t.rows c.args.r []) c.args.i false) c.self.view_is
