use Rattle.std.proofs.Common.{◌≡◌, length, ap, sym, subst, ◌∙◌, arith, slice_index}
use Rattle.std.proofs.lemmas.List.FromFn.{length-map-range_with_len}
use Rattle.std.proofs.lemmas.Result.{IfOk-weaker}
use Rattle.ep_logic.specs.Rows.{value_at}
use Rattle.ep_refine.specs.Choices.{IsChoice}
use Rattle.ep_theory.specs.Image.{IsImage}
use Rattle.ep_refine.specs.Kept.{kept_before, IsRestriction}
use Rattle.ep_refine.proofs.KeptLemmas.{kept_few, kept_choice, restriction}
use Rattle.ep_refine.proofs.kept.restrict.Goals as goal

pub image-requires-clause-numbered : goal.image-requires-clause-numbered
image-requires-clause-numbered c =
    ap length (c.deref.ensures.value ∙ c.in_ok-worlds.ensures.numbers) ∙ length-map-range_with_len (kept_before c.args.keep.now) 0 c.args.s.now.worlds

pub image-requires-clause-few : goal.image-requires-clause-few
image-requires-clause-few c =
    let long = ap length (c.deref-2.ensures.value ∙ c.in_ok-worlds.ensures.worlds) in
    let few = kept_few c.args.keep.now c.args.s.now.worlds in
    let b = c.kept_worlds.ensures.bounded.worlds in
    omega (arith, long, few, b)

pub image-requires-clause-choice : goal.image-requires-clause-choice
image-requires-clause-choice c =
    subst (IsChoice c.args.s.now (value_at c.args.keep.now) (slice_index c.deref.result.now)) (sym (c.deref-2.ensures.value ∙ c.in_ok-worlds.ensures.worlds))
    (kept_choice c.args.keep.now c.args.s.now c.kept_worlds.ensures.valid c.deref.result.now (c.deref.ensures.value ∙ c.in_ok-worlds.ensures.numbers) c.requires.designated)

pub returns-clause-restriction : goal.returns-clause-restriction
returns-clause-restriction c = IfOk-weaker c.image.result (IsImage c.args.s.now (value_at c.args.keep.now) (slice_index c.deref.result.now)) (IsRestriction c.args.s.now c.args.keep.now)
    (λ q m. restriction c.args.s.now q c.kept_worlds.ensures.valid c.args.keep.now c.deref.result.now (c.deref.ensures.value ∙ c.in_ok-worlds.ensures.numbers) m)
    c.image.ensures.image

pub returns-clause-worlds : goal.returns-clause-worlds
returns-clause-worlds c = IfOk-weaker c.image.result (λ q. q.worlds ≡ length c.deref-2.result.now) (λ q. q.worlds ≡ kept_before c.args.keep.now c.args.s.now.worlds)
    (λ q e. e ∙ ap length (c.deref-2.ensures.value ∙ c.in_ok-worlds.ensures.worlds)) c.image.ensures.worlds
