use Rattle.std.proofs.Common.{◌≡◌, [], true, ℕ, List, length, slice_index, subst, sym, ap, ◌∙◌, arith}
use Rattle.std.proofs.Math.ListN.{length-replicate}
use Rattle.ep_refine.specs.Touching.{is_listed}
use Rattle.ep_refine.specs.Rounds.{Seen}
use Rattle.ep_refine.proofs.RestLemmas.{seen_all, seen_start}
use Rattle.ep_refine.proofs.TouchLemmas.{none_listed}
use Rattle.ep_refine.proofs.rounds.find_rests.Goals as goal

pub loop-w-init : goal.loop-w-init
loop-w-init c =
    let n = length c.args.b.now.order.items in
    let b = c.args.b.now in
    let row = c.args.touched.now.left in
    let ws = c.args.touched.now.worlds.items in
    let long : length c.in_ok-unseen.unseen ≡ n = ap length c.in_ok-unseen.ensures ∙ length-replicate c.len.result true ∙ c.len.ensures ∙ c.requires.listed.long in
    subst (λ (x : List ℕ). Seen n b row ws c.in_ok-unseen.unseen x c.new-spans.result.items 0) (sym c.new-worlds.ensures.items)
    (subst (λ (x : List (ℕ × ℕ)). Seen n b row ws c.in_ok-unseen.unseen [] x 0) (sym c.new-spans.ensures.items)
    (seen_start n b row ws c.in_ok-unseen.unseen long (λ k l. ap (λ x. is_listed x k) c.in_ok-unseen.ensures ∙ none_listed c.len.result k (let e = c.len.ensures in let o = c.requires.listed.long in omega (arith, l, e, o)))))

pub loop-w-preserved : goal.loop-w-preserved
loop-w-preserved c = c.in_ok-visit.ensures.seen c.args.touched.now.worlds.items c.loop-w.w-index (ap (λ l. slice_index l c.loop-w.w-index) (sym c.deref-w-items.ensures.value)) c.loop-w.invariant

pub returns-clause-rests : goal.returns-clause-rests
returns-clause-rests c = (seen_all (length c.args.b.now.order.items) c.args.b.now c.args.touched.now.left c.args.touched.now.worlds.items c.loop-w.unseen c.loop-w.worlds.items c.loop-w.spans.items c.loop-w.w-index
    (let t = c.loop-w-test.false in let e = ap length c.deref-w-items.ensures.value in omega (arith, t, e)) c.loop-w.invariant).0

pub returns-clause-spans : goal.returns-clause-spans
returns-clause-spans c = (seen_all (length c.args.b.now.order.items) c.args.b.now c.args.touched.now.left c.args.touched.now.worlds.items c.loop-w.unseen c.loop-w.worlds.items c.loop-w.spans.items c.loop-w.w-index
    (let t = c.loop-w-test.false in let e = ap length c.deref-w-items.ensures.value in omega (arith, t, e)) c.loop-w.invariant).1 (let t = c.loop-w.auto.w-index-end in let e = ap length c.deref-w-items.ensures.value in omega (arith, t, e))

pub returns-clause-few : goal.returns-clause-few
returns-clause-few c = let t = c.loop-w.auto.w-index-end in let e = ap length c.deref-w-items.ensures.value in let f = c.loop-w.invariant.few in omega (arith, t, e, f)
