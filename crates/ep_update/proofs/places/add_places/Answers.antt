use Rattle.std.proofs.Common.{◌≡◌, ◌∙◌, ap, sym, get_or, false, [], arith, vec_len}
use Rattle.std.proofs.lemmas.List.{get_or_default}
use Rattle.ep_update.specs.Places.{is_labelled}
use Rattle.ep_update.proofs.NumbersWhere.{places_push, places_keep}
use Rattle.ep_update.proofs.places.add_places.Goals as goal
use Rattle.ep_update.proofs.places.add_places.Goals.{then-get+in_ok-push, else-get}

pub loop-e-preserved : goal.loop-e-preserved
loop-e-preserved c =
    let tells : is_labelled c.args.rows.now c.args.w c.loop-e.e ≡ c.get.result =
    sym (c.get.ensures ∙ ap (λ row. get_or row c.args.w false) (c.index-rows-e.is ∙ get_or_default c.args.rows.now c.loop-e.e c.index-rows-e.result [] c.loop-e-test.true)) in
    elim c.if-get.branch [
      | then-get+in_ok-push w ↦ record {
        list = places_push (is_labelled c.args.rows.now c.args.w) c.args.w c.loop-e.e c.args.list.now.items c.loop-e.list.items c.if-get.list.items c.loop-e.invariant.list (tells ∙ w.if-get.true)
            (ap (λ v. v.items) w.list-is ∙ w.in_ok-push.ensures.items);
        few = omega (arith, ap vec_len w.list-is, w.in_ok-push.ensures.len, c.loop-e.invariant.few);
      }
      | else-get w ↦ record {
        list = ap (λ v. v.items) w.list-is ∙ places_keep (is_labelled c.args.rows.now c.args.w) c.args.w c.loop-e.e c.args.list.now.items c.loop-e.list.items c.loop-e.invariant.list (tells ∙ w.if-get.false);
        few = omega (arith, ap vec_len w.list-is, c.loop-e.invariant.few);
      }
    ]
