use Rattle.std.proofs.Common.{◌≡◌, ◌<◌, ◌∙◌, [], get_or, length, ap, arith}
use Rattle.std.specs.List.{list_all}
use Rattle.std.proofs.lemmas.List.{length-set}
use Rattle.ep_logic.specs.Rows.{value_at}
use Rattle.ep_logic.proofs.CallerLemmas.{row_is_table, length-table}
use Rattle.ep_kripke.proofs.NameLemmas.{length-named, name_within, row_told, told_more}
use Rattle.ep_kripke.proofs.relation.Relation.all_within.Goals as goal

pub get-requires : goal.get-requires
get-requires c =
    let names = c.names.result.0.now in
    let rows = c.names.result.1.now in
    let w : c.loop-w.w < length c.args.self.now = omega (arith, c.loop-w-test.true, ap length c.names.ensures.rows, length-named c.names.result.0.now c.names.result.1.now) in
    let below : get_or c.names.result.0.now c.loop-w.w 0 < length c.names.result.1.now = name_within names rows c.args.self.now c.loop-w.w c.names.ensures.rows c.names.ensures.within w in
    omega (arith, below, ap length c.in_ok-values.ensures, length-table (λ i. list_all (value_at c.args.set.now) (get_or c.names.result.1.now i [])) (length c.names.result.1.now))

pub loop-w-preserved : goal.loop-w-preserved
loop-w-preserved c =
    let names = c.names.result.0.now in
    let rows = c.names.result.1.now in
    let w : c.loop-w.w < length c.args.self.now = omega (arith, c.loop-w-test.true, ap length c.names.ensures.rows, length-named c.names.result.0.now c.names.result.1.now) in
    let here : c.get.result ≡ list_all (value_at c.args.set.now) (get_or c.args.self.now c.loop-w.w []) =
    c.get.ensures ∙ row_told c.args.set.now names rows c.args.self.now c.in_ok-values.values c.loop-w.w c.names.ensures.rows c.names.ensures.within w c.in_ok-values.ensures in
    record {
      long = ap length c.set.ensures ∙ length-set c.loop-w.row c.loop-w.w c.get.result ∙ c.loop-w.invariant.long;
      told = told_more (λ k. list_all (value_at c.args.set.now) (get_or c.args.self.now k [])) c.loop-w.row c.set.new.self c.loop-w.w c.get.result (omega (arith, w, c.loop-w.invariant.long)) c.loop-w.invariant.told c.set.ensures here;
    }

pub returns : goal.returns
returns c =
    row_is_table (λ w. list_all (value_at c.args.set.now) (get_or c.args.self.now w [])) (length c.args.self.now) c.loop-w.row c.loop-w.invariant.long
    (λ i l. c.loop-w.invariant.told i (omega (arith, l, c.loop-w-test.false, ap length c.names.ensures.rows, length-named c.names.result.0.now c.names.result.1.now)))
