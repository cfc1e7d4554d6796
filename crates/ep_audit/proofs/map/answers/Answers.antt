use Rattle.std.proofs.Common.{◌≡◌, ◌+◌, length, sym, ◌∙◌, subst, arith}
use Rattle.ep_theory.proofs.CallerLemmas.{from_has_number}
use Rattle.ep_audit.proofs.MapLemmas.{Met, met_zero, met_more, met_all, met_none, stray_none, stray_past, stray_other, own_value, own_length}
use Rattle.ep_audit.proofs.AnswerLemmas.{never_true}
use Rattle.ep_audit.proofs.map.answers.Goals as goal
use Rattle.ep_audit.proofs.map.answers.Goals.{then-v-count-via-then-v-count, then-v-count-via-else-v-count+then-not-get}

pub loop-w-init : goal.loop-w-init
loop-w-init c = met_zero c.args.map.now c.args.from.now c.args.to.now c.args.count c.in_ok-met.met c.in_ok-met.ensures

pub get-requires : goal.get-requires
get-requires c = let l = own_length c.args.to.now c.args.count c.in_ok-own.own c.in_ok-own.ensures in omega (arith, l, c.if-v-count.false)

pub set-requires : goal.set-requires
set-requires c = omega (arith, c.loop-w.invariant.long, c.if-v-count.false)

pub returns-then-v-count : goal.returns-then-v-count
returns-then-v-count c = never_true _ (λ r. elim c.then-v-count.branch [
  | then-v-count-via-then-v-count w ↦ stray_past c.args.map.now c.args.from.now c.args.to.now c.args.count c.loop-w.w-index c.in-Some.v c.loop-w-test.true c.in-Some.is c.requires.to w.if-v-count.true r
  | then-v-count-via-else-v-count+then-not-get w ↦
      stray_other c.args.map.now c.args.from.now c.args.to.now c.loop-w.w-index c.in-Some.v c.loop-w-test.true c.in-Some.is
      (sym (own_value c.args.to.now c.args.count c.in-Some.v c.in_ok-own.own c.in_ok-own.ensures w.if-v-count.false) ∙ sym w.if-not-get.ensures) r
])

pub returns-in-None : goal.returns-in-None
returns-in-None c = never_true _ (λ r. stray_none c.args.map.now c.args.from.now c.args.to.now c.loop-w.w-index c.loop-w-test.true c.in-None.is r)

pub loop-w-preserved : goal.loop-w-preserved
loop-w-preserved c =
    let own = sym (own_value c.args.to.now c.args.count c.in-Some.v c.in_ok-own.own c.in_ok-own.ensures c.if-v-count.false) ∙ sym c.if-not-get.ensures in
    subst (Met c.args.map.now c.args.from.now c.args.to.now c.args.count (c.loop-w.w-index + 1)) (sym c.set.ensures)
    (met_more c.args.map.now c.args.from.now c.args.to.now c.args.count c.loop-w.w-index c.in-Some.v c.loop-w.met c.loop-w.invariant c.in-Some.is c.if-v-count.false (from_has_number c.args.to.now c.in-Some.v own))

pub all_in-requires : goal.all_in-requires
all_in-requires c = λ k d b. (let l = c.requires.to k d b in omega (arith, l, c.loop-w.invariant.long))

pub returns : goal.returns
returns c =
    let done : length c.args.from.now ≡ c.loop-w.w-index = omega (arith, c.loop-w.auto.w-index-end, c.loop-w-test.false) in (
      λ t. met_all c.args.map.now c.args.from.now c.args.to.now c.args.count c.loop-w.w-index c.loop-w.met c.loop-w.invariant done (c.all_in.ensures.0 t),
      λ r. c.all_in.ensures.1 (met_none c.args.map.now c.args.from.now c.args.to.now c.args.count c.loop-w.w-index c.loop-w.met c.loop-w.invariant (omega (arith, done)) r),
    )
