use Rattle.std.proofs.Common.{◌≡◌, ◌+◌, true, false, Some, None, cond, length, slice_index, ap, sym, ◌∙◌, arith}
use Rattle.ep_logic.specs.Rows.{value_at}
use Rattle.ep_refine.specs.Kept.{kept_before}
use Rattle.ep_refine.proofs.CallerLemmas.{kept_few}
use Rattle.ep_canon.specs.Contracting.{class_at}
use Rattle.ep_canon.proofs.MapLemmas.{kept_less, one_more_kept, none_more_kept, map_more}
use Rattle.ep_canon.proofs.contracting.map_of.Goals.{then-get+in_ok-push, else-get+in_ok-push-2}
use Rattle.ep_canon.proofs.contracting.map_of.Goals as goal

pub bounds-classes-next : goal.bounds-classes-next
bounds-classes-next c =
    let end = c.len-w-end.ensures in
    let test = c.loop-w-test.true in
    let less = kept_less c.args.reached.now (length c.args.reached.now) c.loop-w.w (omega (arith, end, test)) (sym c.get.ensures ∙ c.if-get.true) in
    let next = c.loop-w.invariant.next in
    let long = c.requires in
    omega (arith, less, next, long)

pub offset_bounds-classes-next : goal.offset_bounds-classes-next
offset_bounds-classes-next c =
    let few = kept_few c.args.reached.now c.loop-w.w in
    let next = c.loop-w.invariant.next in
    let end = c.loop-w.auto.w-end in
    let small = c.len-w-end.type_inv in
    omega (arith, few, next, end, small)

pub overflow_add-next : goal.overflow_add-next
overflow_add-next c =
    let few = kept_few c.args.reached.now c.loop-w.w in
    let next = c.loop-w.invariant.next in
    let end = c.loop-w.auto.w-end in
    let small = c.len-w-end.type_inv in
    omega (arith, few, next, end, small)

pub loop-w-preserved : goal.loop-w-preserved
loop-w-preserved c = elim c.if-get.branch [
  | then-get+in_ok-push w ↦
      let row = c.args.reached.now in
      let classes = c.args.classes.now in
      let h : value_at row c.loop-w.w ≡ true = sym c.get.ensures ∙ w.if-get.true in
      let value : Some (slice_index classes c.loop-w.next) ≡ class_at row classes c.loop-w.w =
      ap (λ k. Some (slice_index classes k)) c.loop-w.invariant.next ∙ sym (ap (λ t. cond t (Some (slice_index classes (kept_before row c.loop-w.w))) None) h) in
      record {
        map = map_more row classes c.loop-w.w c.loop-w.map c.if-get.map (Some (slice_index classes c.loop-w.next)) c.loop-w.invariant.map value (w.map-is ∙ w.in_ok-push.ensures.ok);
        next = w.next-is ∙ ap (λ k. k + 1) c.loop-w.invariant.next ∙ sym (one_more_kept row c.loop-w.w h);
      }
  | else-get+in_ok-push-2 w ↦
      let row = c.args.reached.now in
      let classes = c.args.classes.now in
      let h : value_at row c.loop-w.w ≡ false = sym c.get.ensures ∙ w.if-get.false in
      let value : None ≡ class_at row classes c.loop-w.w = sym (ap (λ t. cond t (Some (slice_index classes (kept_before row c.loop-w.w))) None) h) in
      record {
        map = map_more row classes c.loop-w.w c.loop-w.map c.if-get.map None c.loop-w.invariant.map value (w.map-is ∙ w.in_ok-push-2.ensures.ok);
        next = w.next-is ∙ c.loop-w.invariant.next ∙ sym (none_more_kept row c.loop-w.w h);
      }
]
