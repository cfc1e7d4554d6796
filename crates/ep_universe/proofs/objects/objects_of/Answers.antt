use Rattle.std.proofs.Common.{◌≡◌, ◌++◌, ◌∷◌, [], cond, ap, sym, ◌∙◌, append-nil}
use Rattle.std.proofs.lemmas.Option.{get_or_from_slice_get}
use Rattle.ep_logic.specs.Numbers.{numbers_where}
use Rattle.ep_types.specs.Names.{is_below, values_of}
use Rattle.ep_types.specs.Tasks.{declarations}
use Rattle.ep_universe.specs.Objects.{has_type}
use Rattle.ep_universe.proofs.ObjectLemmas.{numbers-more}
use Rattle.ep_universe.proofs.objects.objects_of.Goals as goal
use Rattle.ep_universe.proofs.objects.objects_of.Goals.{then-is_below+in_ok-push, else-is_below}

pub loop-number-preserved : goal.loop-number-preserved
loop-number-preserved c =
    let d = declarations c.args.typed.now in
    let kind = c.args.kind.now in
    let n = c.loop-number.number in
    let p = has_type d kind in
    let tells : p n ≡ c.is_below.result =
    ap (λ t. is_below d.types t kind) (get_or_from_slice_get (values_of d.objects) n c.object_type.result.now [] c.object_type.ensures) ∙ sym c.is_below.ensures.value in
    elim c.if-is_below.branch [
      | then-is_below+in_ok-push w ↦ w.objects-is ∙ w.in_ok-push.ensures.ok ∙ ap (λ l. l ++ n ∷ []) c.loop-number.invariant
          ∙ ap (λ b. numbers_where p n ++ cond b (n ∷ []) []) (sym (tells ∙ w.if-is_below.true)) ∙ sym (numbers-more p n)
      | else-is_below w ↦ w.objects-is ∙ c.loop-number.invariant ∙ sym (append-nil (numbers_where p n))
          ∙ ap (λ b. numbers_where p n ++ cond b (n ∷ []) []) (sym (tells ∙ w.if-is_below.false)) ∙ sym (numbers-more p n)
    ]
