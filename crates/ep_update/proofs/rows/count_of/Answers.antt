use Rattle.std.proofs.Common.{◌≡◌, ◌<◌, ◌∙◌, ◌∷◌, [], ap, ℕ, arith, add-one, length, get_or}
use Rattle.std.proofs.lemmas.List.{get_or_default}
use Rattle.std.proofs.lemmas.List.Sums.{sum_by-append}
use Rattle.ep_logic.specs.Numbers.{table}
use Rattle.ep_logic.proofs.CallerLemmas.{length-table, get_or-table}
use Rattle.ep_theory.specs.Product.{places}
use Rattle.ep_update.specs.Places.{place_row}
use Rattle.ep_update.proofs.NumbersWhere.{table_push}
use Rattle.ep_update.proofs.RowLemmas.{row_short}
use Rattle.ep_update.proofs.rows.count_of.Goals as goal
use Rattle.ep_update.proofs.rows.count_of.Goals.{then-original-i, else-original-i+in_ok-length}

pub index-requires : goal.index-requires
index-requires c = omega (arith, c.if-original-i.true, c.loop-i.lengths.ok.0, ap length c.loop-i.invariant.lengths, length-table (λ i. length (place_row c.args.product.now.state.now c.args.product.now.action.now c.args.product.now.agent i)) c.loop-i.i)

pub overflow_add-total : goal.overflow_add-total
overflow_add-total c =
    let i : c.loop-i.i < length (places c.args.product.now.state.now c.args.product.now.action.now) = omega (arith, c.loop-i-test.true, c.requires.originals.long) in
    let is : c.if-original-i.length ≡ length (place_row c.args.product.now.state.now c.args.product.now.action.now c.args.product.now.agent c.loop-i.i) = elim c.if-original-i.branch [
      | then-original-i w ↦ w.length-is ∙ w.index.ensures
          ∙ get_or_default c.loop-i.lengths.items (get_or c.args.originals.now c.loop-i.i 0) w.index.result.now 0
          (omega (arith, w.if-original-i.true, ap length c.loop-i.invariant.lengths, length-table (λ i. length (place_row c.args.product.now.state.now c.args.product.now.action.now c.args.product.now.agent i)) c.loop-i.i))
          ∙ ap (λ xs. get_or xs (get_or c.args.originals.now c.loop-i.i 0) 0) c.loop-i.invariant.lengths
          ∙ get_or-table (λ i. length (place_row c.args.product.now.state.now c.args.product.now.action.now c.args.product.now.agent i)) c.loop-i.i (get_or c.args.originals.now c.loop-i.i 0) 0 w.if-original-i.true
          ∙ ap length (c.requires.originals.equal c.loop-i.i (omega (arith, c.loop-i-test.true, c.requires.originals.long)))
      | else-original-i+in_ok-length w ↦ w.length-is ∙ w.in_ok-length.ensures
    ] in
    omega (arith, is, row_short c.args.product.now.state.now c.args.product.now.action.now c.args.product.now.agent c.loop-i.i, c.requires.few, c.loop-i.invariant.bound, i)

pub loop-i-preserved : goal.loop-i-preserved
loop-i-preserved c =
    let i : c.loop-i.i < length (places c.args.product.now.state.now c.args.product.now.action.now) = omega (arith, c.loop-i-test.true, c.requires.originals.long) in
    let is : c.if-original-i.length ≡ length (place_row c.args.product.now.state.now c.args.product.now.action.now c.args.product.now.agent c.loop-i.i) = elim c.if-original-i.branch [
      | then-original-i w ↦ w.length-is ∙ w.index.ensures
          ∙ get_or_default c.loop-i.lengths.items (get_or c.args.originals.now c.loop-i.i 0) w.index.result.now 0
          (omega (arith, w.if-original-i.true, ap length c.loop-i.invariant.lengths, length-table (λ i. length (place_row c.args.product.now.state.now c.args.product.now.action.now c.args.product.now.agent i)) c.loop-i.i))
          ∙ ap (λ xs. get_or xs (get_or c.args.originals.now c.loop-i.i 0) 0) c.loop-i.invariant.lengths
          ∙ get_or-table (λ i. length (place_row c.args.product.now.state.now c.args.product.now.action.now c.args.product.now.agent i)) c.loop-i.i (get_or c.args.originals.now c.loop-i.i 0) 0 w.if-original-i.true
          ∙ ap length (c.requires.originals.equal c.loop-i.i (omega (arith, c.loop-i-test.true, c.requires.originals.long)))
      | else-original-i+in_ok-length w ↦ w.length-is ∙ w.in_ok-length.ensures
    ] in
    record {
      lengths = table_push (λ i. length (place_row c.args.product.now.state.now c.args.product.now.action.now c.args.product.now.agent i)) c.loop-i.i c.loop-i.lengths.items c.push.new.self.items c.if-original-i.length c.loop-i.invariant.lengths is c.in_ok-push.ensures.items;
      count = rw (add-one, sum_by-append (length {A = ℕ}) (table (place_row c.args.product.now.state.now c.args.product.now.action.now c.args.product.now.agent) c.loop-i.i) (place_row c.args.product.now.state.now c.args.product.now.action.now c.args.product.now.agent c.loop-i.i ∷ []))
          (omega (arith, is, c.loop-i.invariant.count));
      bound = omega (arith, is, row_short c.args.product.now.state.now c.args.product.now.action.now c.args.product.now.agent c.loop-i.i, c.loop-i.invariant.bound, c.requires.few);
    }
