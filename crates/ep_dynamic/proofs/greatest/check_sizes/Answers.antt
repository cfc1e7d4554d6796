-- The first pair of events that has a refusal.
use Rattle.std.proofs.Common.{◌<◌, length, map, ◌∙◌, inr, arith}
use Rattle.std.proofs.lemmas.Result.{err_from_is_err_and}
use Rattle.ep_base.proofs.CallerLemmas.{told_none, told_some}
use Rattle.ep_dynamic.specs.Composition.{events_in_turn}
use Rattle.ep_dynamic.specs.ComposeAnswers.{event_refusal, size_refusal}
use Rattle.ep_dynamic.proofs.EventLemmas.{pair_events}
use Rattle.ep_dynamic.proofs.StepLemmas.{as_many, ends, goes_on, pair_refusal}
use Rattle.ep_dynamic.proofs.greatest.check_sizes.Goals as goal

pub greatest-requires-clause-first : goal.greatest-requires-clause-first
greatest-requires-clause-first c =
    let within : c.loop-k.k < length c.args.pairs.now = omega (arith, c.loop-k-test.true) in
    (pair_events c.args.a.now c.args.b.now c.args.pairs.now c.loop-k.k c.requires.pairs within).0

pub greatest-requires-clause-second : goal.greatest-requires-clause-second
greatest-requires-clause-second c =
    let within : c.loop-k.k < length c.args.pairs.now = omega (arith, c.loop-k-test.true) in
    (pair_events c.args.a.now c.args.b.now c.args.pairs.now c.loop-k.k c.requires.pairs within).1

pub returns-in_err-judge : goal.returns-in_err-judge
returns-in_err-judge c =
    let A = c.args.a.now in
    let B = c.args.b.now in
    let ps = c.args.pairs.now in
    let k = c.loop-k.k in
    let within : k < length ps = omega (arith, c.loop-k-test.true) in
    let inside = as_many A B ps k within in
    let p = err_from_is_err_and c.from_residual-in_err-judge.result c.from_residual-in_err-judge.ensures.1 in
    let fault = told_some (size_refusal k c.in_ok-size.size) c.in_err-judge.field-0.0 c.in_err-judge.ensures in
    let here = pair_refusal A B ps k c.in_ok-size.size within c.in_ok-size.ensures ∙ fault in
    let first = c.loop-k.invariant ∙ ends event_refusal (map (events_in_turn A B) ps) k inside c.in_err-judge.field-0.0 here in
    rw (p.1, p.2) (inr first)

pub loop-k-preserved : goal.loop-k-preserved
loop-k-preserved c =
    let A = c.args.a.now in
    let B = c.args.b.now in
    let ps = c.args.pairs.now in
    let k = c.loop-k.k in
    let within : k < length ps = omega (arith, c.loop-k-test.true) in
    let inside = as_many A B ps k within in
    let none = told_none (size_refusal k c.in_ok-size.size) _ c.in_ok-judge.ensures in
    c.loop-k.invariant ∙ goes_on event_refusal (map (events_in_turn A B) ps) k inside (pair_refusal A B ps k c.in_ok-size.size within c.in_ok-size.ensures ∙ none)
