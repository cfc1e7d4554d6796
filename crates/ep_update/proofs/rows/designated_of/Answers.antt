use Rattle.std.proofs.Common.{◌≡◌, ◌∙◌, ap, sym, ℕ, List, get_or}
use Rattle.ep_theory.specs.Product.{place_at, is_designated}
use Rattle.ep_update.proofs.NumbersWhere.{numbers_push, numbers_keep}
use Rattle.ep_update.proofs.RowLemmas.{place_in}
use Rattle.ep_update.proofs.rows.designated_of.Goals as goal
use Rattle.ep_update.proofs.rows.designated_of.Goals.{then-is_point+in_ok-push, else-is_point}

pub is_point-requires : goal.is_point-requires
is_point-requires c = (place_in c.args.s.now c.args.a.now c.args.list.now c.loop-i.i c.requires.list c.loop-i-test.true).1

pub loop-i-preserved : goal.loop-i-preserved
loop-i-preserved c =
    let tells : is_designated c.args.s.now c.args.a.now (place_at c.args.s.now c.args.a.now c.loop-i.i) ≡ c.is_point.result =
    ap (λ (list : List (ℕ × ℕ)). is_designated c.args.s.now c.args.a.now (get_or list c.loop-i.i (0, 0))) (sym c.requires.list) ∙ sym c.is_point.ensures in
    elim c.if-is_point.branch [
      | then-is_point+in_ok-push w ↦ numbers_push (λ i. is_designated c.args.s.now c.args.a.now (place_at c.args.s.now c.args.a.now i)) c.loop-i.i c.loop-i.designated c.if-is_point.designated c.loop-i.invariant
          (tells ∙ w.if-is_point.true) (w.designated-is ∙ w.in_ok-push.ensures.ok)
      | else-is_point w ↦ w.designated-is ∙ numbers_keep (λ i. is_designated c.args.s.now c.args.a.now (place_at c.args.s.now c.args.a.now i)) c.loop-i.i c.loop-i.designated c.loop-i.invariant (tells ∙ w.if-is_point.false)
    ]
