use Rattle.std.proofs.Common.{◌≡◌, ◌<◌, ◌↔◌, ℕ, IsTrue, length, get_or, Some, None, subst, ap, ◌∙◌, arith, inl, inr}
use Rattle.std.proofs.lemmas.Bool.{cases_lt}
use Rattle.ep_audit.specs.Related.{MapsAt, Relates}
use Rattle.ep_audit.proofs.AnswerLemmas.{never_true}
use Rattle.ep_audit.proofs.MapLemmas.{maps_from, maps_at}
use Rattle.ep_audit.proofs.map.maps.Goals as goal

pub returns-then-not-branch : goal.returns-then-not-branch
returns-then-not-branch c = never_true _ (λ h.
    let t = c.in_ok-maps_from.ensures.1 (λ v e. maps_at c.args.s.now c.args.r.now c.args.map.now h.bisimulation c.loop-w.w v e) in
    let f = c.if-not-branch.true in
    cc)

pub loop-w-preserved : goal.loop-w-preserved
loop-w-preserved c = λ k v l e.
    elim (cases_lt k c.loop-w.w) as (λ _. MapsAt c.args.s.now c.args.r.now c.args.map.now k v) [
      | inl less ↦ c.loop-w.invariant k v less e
      | inr ge ↦
          let same : c.loop-w.w ≡ k = omega (arith, l, ge) in
          let here = c.in_ok-maps_from.ensures.0 c.if-not-branch.false in
          subst (λ w. MapsAt c.args.s.now c.args.r.now c.args.map.now w v) same (here v (ap (λ w. get_or c.args.map.now w None) same ∙ e))
    ]

pub returns : goal.returns
returns c =
    let S = c.args.s.now in
    let R = c.args.r.now in
    let m = c.args.map.now in
    let long : length m ≡ S.worlds = omega arith in
    let done : (w v : ℕ) → w < S.worlds → get_or m w None ≡ Some v → MapsAt S R m w v = λ w v l e. c.loop-w.invariant w v (omega (arith, l, c.worlds-count.ensures.value, c.loop-w-test.false)) e in
    let first = subst (λ xs. IsTrue c.in_ok-related.related ↔ Relates m xs c.designated-2.result.now) c.designated.ensures.value c.in_ok-related.ensures in
    let both = subst (λ xs. IsTrue c.in_ok-related.related ↔ Relates m S.designated xs) c.designated-2.ensures.value first in
    (λ t. maps_from S R c.worlds-count.ensures.valid c.worlds-others.ensures.valid c.requires.agents c.requires.atoms m c.requires.below long done (both.0 t), λ h. both.1 (record { forth = h.forth; back = h.back }))
