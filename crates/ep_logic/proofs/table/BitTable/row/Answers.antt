use Rattle.std.proofs.Common.{◌≡◌, ◌<◌, ◌*◌, ◌+◌, [], length, get_or, ap, sym, ◌∙◌, subst, arith}
use Rattle.std.specs.List.{slice_range}
use Rattle.ep_logic.specs.Packed.{unpacked, IsPacked}
use Rattle.ep_logic.proofs.TableLemmas.{in_table, table_rows-at, row_ends, slice_row, slice_packed}
use Rattle.ep_logic.proofs.table.BitTable.row.Goals as goal

pub part_of-requires : goal.part_of-requires
part_of-requires c =
    let s = c.self.inside in
    let r : c.args.r < s.count = in_table s.words.items s.width s.per s.count c.args.self.now c.self.view_is c.args.r c.requires in
    omega (arith, row_ends c.args.r s.count s.per r, c.self.invariant.long, ap length c.deref.ensures.value)

pub returns-clause-packed : goal.returns-clause-packed
returns-clause-packed c =
    let s = c.self.inside in
    let r : c.args.r < s.count = in_table s.words.items s.width s.per s.count c.args.self.now c.self.view_is c.args.r c.requires in
    let is : c.part_of.result.now ≡ slice_range s.words.items (c.args.r * s.per) (c.args.r * s.per + s.per) = c.part_of.ensures ∙ ap (λ ws. slice_range ws (c.args.r * s.per) (c.args.r * s.per + s.per)) c.deref.ensures.value in
    subst (λ t. IsPacked c.part_of.result.now t.width) c.self.view_is (subst (λ ws. IsPacked ws s.width) (sym is) (slice_packed s.words.items s.width s.per s.count c.args.r c.self.invariant r))

pub returns-clause-value : goal.returns-clause-value
returns-clause-value c =
    let s = c.self.inside in
    let r : c.args.r < s.count = in_table s.words.items s.width s.per s.count c.args.self.now c.self.view_is c.args.r c.requires in
    let is : c.part_of.result.now ≡ slice_range s.words.items (c.args.r * s.per) (c.args.r * s.per + s.per) = c.part_of.ensures ∙ ap (λ ws. slice_range ws (c.args.r * s.per) (c.args.r * s.per + s.per)) c.deref.ensures.value in
    ap (λ t. unpacked c.part_of.result.now t.width) (sym c.self.view_is) ∙ ap (λ ws. unpacked ws s.width) is
    ∙ slice_row s.words.items s.width (c.args.r * s.per) s.per (omega (arith, c.self.invariant.words_of_row))
    ∙ sym (table_rows-at s.words.items s.width s.per s.count c.args.r [] r)
    ∙ ap (λ t. get_or t.rows c.args.r []) c.self.view_is
