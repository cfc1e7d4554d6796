use Rattle.std.proofs.Common.{◌≡◌, ◌∙◌, [], ap, arith, length, get_or}
use Rattle.ep_logic.specs.Numbers.{table}
use Rattle.ep_logic.proofs.CallerLemmas.{length-table, get_or-table}
use Rattle.ep_theory.specs.Product.{places}
use Rattle.ep_kripke.specs.Relations.{RowsSeen}
use Rattle.ep_update.specs.Places.{place_row}
use Rattle.ep_update.proofs.NumbersWhere.{table_push}
use Rattle.ep_update.proofs.RowLemmas.{row_rises, row_within}
use Rattle.ep_update.proofs.rows.relation_of.Goals as goal
use Rattle.ep_update.proofs.rows.relation_of.Goals.{then-original-i+in_ok-push_again, else-original-i+in_ok-fill_row+in_ok-push}

pub loop-i-init : goal.loop-i-init
loop-i-init c = record {
  worlds = ap (λ (s : RowsSeen). s.worlds) c.in_ok-naming.ensures ∙ ap length (c.as_slice-list.ensures.value ∙ c.requires.places.list);
  rows = ap (λ (s : RowsSeen). s.rows) c.in_ok-naming.ensures;
}

pub bounds-originals-i : goal.bounds-originals-i
bounds-originals-i c = omega (arith, c.loop-i-test.true, c.requires.originals.long, ap length (c.as_slice-list.ensures.value ∙ c.requires.places.list))

pub push_again-requires-clause-place : goal.push_again-requires-clause-place
push_again-requires-clause-place c = omega (arith, c.if-original-i.true, ap length c.loop-i.invariant.rows, length-table (place_row c.args.product.now.state.now c.args.product.now.action.now c.args.product.now.agent) c.loop-i.i)

pub push_again-requires-clause-room : goal.push_again-requires-clause-room
push_again-requires-clause-room c = omega (arith, c.loop-i-test.true, c.requires.few, ap length (c.as_slice-list.ensures.value ∙ c.requires.places.list), ap length c.loop-i.invariant.rows, length-table (place_row c.args.product.now.state.now c.args.product.now.action.now c.args.product.now.agent) c.loop-i.i)

pub push-requires-clause-room : goal.push-requires-clause-room
push-requires-clause-room c = omega (arith, c.loop-i-test.true, c.requires.few, ap length (c.as_slice-list.ensures.value ∙ c.requires.places.list), ap length c.loop-i.invariant.rows, length-table (place_row c.args.product.now.state.now c.args.product.now.action.now c.args.product.now.agent) c.loop-i.i)

pub push-requires-clause-rising : goal.push-requires-clause-rising
push-requires-clause-rising c = row_rises c.args.product.now.state.now c.args.product.now.action.now c.args.product.now.agent c.loop-i.i c.deref.result.now (c.deref.ensures.value ∙ c.in_ok-fill_row.ensures)

pub push-requires-clause-within : goal.push-requires-clause-within
push-requires-clause-within c = row_within c.args.product.now.state.now c.args.product.now.action.now c.args.product.now.agent c.loop-i.i c.loop-i.naming.worlds c.deref.result.now (c.deref.ensures.value ∙ c.in_ok-fill_row.ensures) c.loop-i.invariant.worlds

pub loop-i-preserved : goal.loop-i-preserved
loop-i-preserved c = elim c.if-original-i.branch [
  | then-original-i+in_ok-push_again w ↦ record {
    worlds = ap (λ (s : RowsSeen). s.worlds) (w.naming-is ∙ w.in_ok-push_again.ensures) ∙ c.loop-i.invariant.worlds;
    rows = table_push (place_row c.args.product.now.state.now c.args.product.now.action.now c.args.product.now.agent) c.loop-i.i c.loop-i.naming.rows c.if-original-i.naming.rows (get_or c.loop-i.naming.rows (get_or c.args.originals.now c.loop-i.i 0) []) c.loop-i.invariant.rows
        (ap (λ rs. get_or rs (get_or c.args.originals.now c.loop-i.i 0) []) c.loop-i.invariant.rows
        ∙ get_or-table (place_row c.args.product.now.state.now c.args.product.now.action.now c.args.product.now.agent) c.loop-i.i (get_or c.args.originals.now c.loop-i.i 0) [] w.if-original-i.true
        ∙ c.requires.originals.equal c.loop-i.i (omega (arith, c.loop-i-test.true, ap length (c.as_slice-list.ensures.value ∙ c.requires.places.list))))
        (ap (λ (s : RowsSeen). s.rows) (w.naming-is ∙ w.in_ok-push_again.ensures));
  }
  | else-original-i+in_ok-fill_row+in_ok-push w ↦ record {
    worlds = ap (λ (s : RowsSeen). s.worlds) (w.naming-is ∙ w.in_ok-push.ensures) ∙ c.loop-i.invariant.worlds;
    rows = table_push (place_row c.args.product.now.state.now c.args.product.now.action.now c.args.product.now.agent) c.loop-i.i c.loop-i.naming.rows c.if-original-i.naming.rows w.deref.result.now c.loop-i.invariant.rows
        (w.deref.ensures.value ∙ w.in_ok-fill_row.ensures)
        (ap (λ (s : RowsSeen). s.rows) (w.naming-is ∙ w.in_ok-push.ensures));
  }
]

pub returns : goal.returns
returns c =
    let all : c.loop-i.i ≡ length (places c.args.product.now.state.now c.args.product.now.action.now) = omega (arith, c.loop-i-test.false, c.loop-i.auto.i-end, ap length (c.as_slice-list.ensures.value ∙ c.requires.places.list)) in
    c.in_ok-rows.ensures ∙ c.loop-i.invariant.rows ∙ ap (table (place_row c.args.product.now.state.now c.args.product.now.action.now c.args.product.now.agent)) all
