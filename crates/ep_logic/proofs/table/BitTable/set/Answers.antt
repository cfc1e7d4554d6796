use Rattle.std.proofs.Common.{◌≡◌, ◌≢◌, ℕ, ◌<◌, ◌*◌, ◌+◌, [], length, get_or, set, ap, sym, ◌∙◌, subst, arith}
use Rattle.ep_logic.specs.Packed.{bit_in}
use Rattle.ep_logic.specs.Tables.{Table, table_rows, IsTable}
use Rattle.ep_logic.proofs.PackedLemmas.{written_back}
use Rattle.ep_logic.proofs.TableLemmas.{in_table, in_width, row_ends, set_rows, set_is_table}
use Rattle.ep_logic.proofs.table.BitTable.set.Goals as goal
use Rattle.ep_logic.proofs.table.BitTable.set.Goals.{After-self-1}

pub place_in-requires-clause-row : goal.place_in-requires-clause-row
place_in-requires-clause-row c =
    let s = c.self.inside in
    omega (arith, in_table s.words.items s.width s.per s.count c.args.self.now c.self.view_is c.args.r c.requires.row, c.self.invariant.few)

pub set_bit-requires : goal.set_bit-requires
set_bit-requires c =
    let s = c.self.inside in
    let r : c.args.r < s.count = in_table s.words.items s.width s.per s.count c.args.self.now c.self.view_is c.args.r c.requires.row in
    let i : c.args.i < s.width = in_width s.words.items s.width s.per s.count c.args.self.now c.self.view_is c.args.i c.requires.place in
    omega (arith, c.place_in.ensures, i, row_ends c.args.r s.count s.per r, c.self.invariant.long, c.self.invariant.words_of_row, ap length c.deref_mut.ensures.value)

place : (c : After-self-1) → c.args.i < c.self.inside.width
place c = let s = c.self.inside in in_width s.words.items s.width s.per s.count c.args.self.now c.self.view_is c.args.i c.requires.place

kept : (c : After-self-1) → length c.set_bit.new.words ≡ length c.self.inside.words.items
kept c = c.set_bit.ensures.long ∙ ap length c.deref_mut.ensures.value

here : (c : After-self-1) → bit_in c.set_bit.new.words (c.args.r * c.self.inside.per * 64 + c.args.i) ≡ c.args.v
here c = ap (bit_in c.set_bit.new.words) (sym c.place_in.ensures) ∙ c.set_bit.ensures.here

others : (c : After-self-1) (k : ℕ) → k ≢ c.args.r * c.self.inside.per * 64 + c.args.i → bit_in c.set_bit.new.words k ≡ bit_in c.self.inside.words.items k
others c k ne = c.set_bit.ensures.others k (λ e. ne (e ∙ c.place_in.ensures)) ∙ ap (λ ws. bit_in ws k) c.deref_mut.ensures.value

pub invariant_of-self : goal.invariant_of-self
invariant_of-self c =
    let s = c.self.inside in
    subst (λ ws. IsTable ws s.width s.per s.count) (sym (written_back s.words.items c.set_bit.new.words s.words.len s.words.ok.0 (kept c)))
    (set_is_table s.words.items c.set_bit.new.words s.width s.per s.count c.args.r c.args.i c.self.invariant (place c) (kept c) (others c))

pub returns : goal.returns
returns c =
    let s = c.self.inside in
    let r : c.args.r < s.count = in_table s.words.items s.width s.per s.count c.args.self.now c.self.view_is c.args.r c.requires.row in
    ap (λ ws. record { width = s.width; rows = table_rows ws s.width s.per s.count }) (written_back s.words.items c.set_bit.new.words s.words.len s.words.ok.0 (kept c))
    ∙ ap (λ rows. record { width = s.width; rows = rows }) (set_rows s.words.items c.set_bit.new.words s.width s.per s.count c.args.r c.args.i c.args.v c.self.invariant r (place c) (here c) (others c))
    ∙ ap (λ (t : Table). record { width = t.width; rows = set t.rows c.args.r (set (get_or t.rows c.args.r []) c.args.i c.args.v) }) c.self.view_is
