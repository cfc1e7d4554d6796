use Rattle.std.proofs.Common.{◌∙◌, sym, get_or, arith}
use Rattle.ep_theory.specs.Events.{event_at}
use Rattle.ep_theory.specs.Product.{applies}
use Rattle.ep_theory.proofs.CallerLemmas.{IsIn-at, to_any}
use Rattle.ep_update.proofs.LabelLemmas.{designated_row, label_long, label_tells}
use Rattle.ep_update.proofs.ListLemmas.{any_more}
use Rattle.ep_update.proofs.stuck.goes_on.Goals as goal

pub get-requires : goal.get-requires
get-requires c =
    let d = designated_row c.args.s.now c.args.a.now c.args.rows.now c.designated-e-items.result.now c.loop-e.e-index c.index-rows-e.result c.designated-e-items.ensures.valid c.requires.rows c.designated-e-items.ensures.value c.loop-e-test.true c.index-rows-e.is in
    omega (arith, label_long c.args.s.now (event_at c.args.a.now (get_or c.args.a.now.designated c.loop-e.e-index 0)).pre c.index-rows-e.result d.tells, c.requires.world)

pub returns-then-get : goal.returns-then-get
returns-then-get c =
    let d = designated_row c.args.s.now c.args.a.now c.args.rows.now c.designated-e-items.result.now c.loop-e.e-index c.index-rows-e.result c.designated-e-items.ensures.valid c.requires.rows c.designated-e-items.ensures.value c.loop-e-test.true c.index-rows-e.is in
    let e = get_or c.args.a.now.designated c.loop-e.e-index 0 in
    sym (to_any (applies c.args.s.now c.args.a.now c.args.w) e c.args.a.now.designated (IsIn-at c.args.a.now.designated c.loop-e.e-index 0 d.place)
    (sym (label_tells c.args.s.now (event_at c.args.a.now e).pre c.index-rows-e.result c.args.w d.tells c.requires.world) ∙ sym c.if-get.ensures))

pub loop-e-preserved : goal.loop-e-preserved
loop-e-preserved c =
    let d = designated_row c.args.s.now c.args.a.now c.args.rows.now c.designated-e-items.result.now c.loop-e.e-index c.index-rows-e.result c.designated-e-items.ensures.valid c.requires.rows c.designated-e-items.ensures.value c.loop-e-test.true c.index-rows-e.is in
    let e = get_or c.args.a.now.designated c.loop-e.e-index 0 in
    any_more (applies c.args.s.now c.args.a.now c.args.w) c.args.a.now.designated c.loop-e.e-index 0 d.place c.loop-e.invariant
    (sym (label_tells c.args.s.now (event_at c.args.a.now e).pre c.index-rows-e.result c.args.w d.tells c.requires.world) ∙ sym c.if-get.ensures)
