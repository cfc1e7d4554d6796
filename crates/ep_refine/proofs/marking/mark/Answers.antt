use Rattle.std.proofs.Common.{◌≡◌, ◌<◌, true, set, length, get_or, take, take_all, subst, sym, ap, refl, ◌∙◌, arith, List, ℕ, ◌∷◌, [], ◌++◌}
use Rattle.ep_theory.specs.Rising.{IsIn}
use Rattle.ep_refine.specs.Marking.{Marks}
use Rattle.ep_refine.proofs.MarkingLemmas.{marks_none, marks_old, marks_new, marks_more, marks_as}
use Rattle.ep_refine.proofs.marking.mark.Goals as goal
use Rattle.ep_refine.proofs.marking.mark.Goals.{then-not-get+in_ok-push, else-not-get}

pub loop-w-init : goal.loop-w-init
loop-w-init c = marks_none c.args.marked.now c.args.waiting.now.items

pub get-requires : goal.get-requires
get-requires c = let b = c.requires c.loop-w.w-index 0 c.loop-w-test.true in let l = c.loop-w.invariant.long in omega (arith, b, l)

pub loop-w-preserved : goal.loop-w-preserved
loop-w-preserved c =
    let ws = c.args.worlds.now in
    let i = c.loop-w.w-index in
    let x = get_or ws i 0 in
    let l = c.loop-w.invariant.long in
    let b = c.requires i 0 c.loop-w-test.true in
    let within : x < length c.loop-w.marked = omega (arith, b, l) in
    elim c.if-not-get.branch [
      | then-not-get+in_ok-push w ↦
          marks_more ws i x c.args.marked.now c.loop-w.marked c.if-not-get.marked c.args.waiting.now.items c.loop-w.waiting.items c.if-not-get.waiting.items c.loop-w-test.true refl c.loop-w.invariant
          (marks_as (λ v. v ≡ x) c.loop-w.marked (set c.loop-w.marked x true) c.if-not-get.marked c.loop-w.waiting.items (c.loop-w.waiting.items ++ x ∷ []) c.if-not-get.waiting.items
          (sym (w.marked-is ∙ w.set.ensures)) (sym (ap (λ v. v.items) w.waiting-is ∙ w.in_ok-push.ensures.items))
          (marks_new c.loop-w.marked c.loop-w.waiting.items x within (sym c.get.ensures ∙ w.if-not-get.true)))
      | else-not-get w ↦
          marks_more ws i x c.args.marked.now c.loop-w.marked c.if-not-get.marked c.args.waiting.now.items c.loop-w.waiting.items c.if-not-get.waiting.items c.loop-w-test.true refl c.loop-w.invariant
          (marks_as (λ v. v ≡ x) c.loop-w.marked c.loop-w.marked c.if-not-get.marked c.loop-w.waiting.items c.loop-w.waiting.items c.if-not-get.waiting.items
          (sym w.marked-is) (sym (ap (λ v. v.items) w.waiting-is))
          (marks_old c.loop-w.marked c.loop-w.waiting.items x (sym c.get.ensures ∙ w.if-not-get.false)))
    ]

pub returns : goal.returns
returns c =
    let all : take c.loop-w.w-index c.args.worlds.now ≡ c.args.worlds.now = take_all _ _ c.loop-w-test.false in
    subst (λ (ws : List ℕ). Marks (λ v. IsIn v ws) c.args.marked.now c.loop-w.marked c.args.waiting.now.items c.loop-w.waiting.items) all c.loop-w.invariant
