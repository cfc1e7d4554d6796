use Rattle.std.proofs.Common.{get_or, refl, sym, subst, arith}
use Rattle.ep_theory.specs.Rising.{IsIn}
use Rattle.ep_theory.specs.Truth.{Truth}
use Rattle.ep_theory.specs.Events.{event_at}
use Rattle.ep_theory.proofs.CallerLemmas.{IsIn-at}
use Rattle.ep_audit.proofs.MapLemmas.{index_of}
use Rattle.ep_audit.proofs.AnswerLemmas.{never_true}
use Rattle.ep_audit.proofs.stuck.is_stuck.Goals as goal

pub returns-then-branch : goal.returns-then-branch
returns-then-branch c = never_true _ (λ h.
    let k = c.loop-e.e-index in
    let xs = c.designated-e-items.result.now in
    let inn : IsIn (get_or xs k 0) c.args.a.now.designated = subst (IsIn (get_or xs k 0)) c.designated-e-items.ensures.value (IsIn-at xs k 0 c.loop-e-test.true) in
    h.1 (get_or xs k 0) inn (subst (Truth c.args.s.now c.args.w.n) c.pre.ensures.value (c.in_ok-holds.ensures.0 c.if-branch.true)))

pub returns : goal.returns
returns c =
    let xs = c.designated-e-items.result.now in (
      λ _. (
        c.if-not-is_designated.ensures.value.0 refl,
        λ e i t.
            let k = index_of e xs (subst (IsIn e) (sym c.designated-e-items.ensures.value) i) in
            c.loop-e.invariant k.0 (let l = k.1 in omega (arith, l, c.loop-e-test.false)) (subst (λ n. Truth c.args.s.now c.args.w.n (event_at c.args.a.now n).pre) (sym k.2) t),
      ),
      λ _. refl,
    )
