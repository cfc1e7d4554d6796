use Rattle.std.proofs.Common.{◌≤◌, ◌^◌, ◌↔◌, Bool, IsTrue, List, Option, ℕ, sym, subst, arith}
use Rattle.std.specs.Prelude.{IfOk}
use Rattle.std.specs.List.{AllByRecursion}
use Rattle.ep_theory.specs.Maps.{Maps}
use Rattle.ep_audit.specs.Shown.{IsBelow, ShowsMap}
use Rattle.ep_audit.proofs.AnswerLemmas.{ok_iff, never_true, shown_map, no_shown_map}
use Rattle.ep_audit.proofs.map.shows_map.Goals as goal

pub returns-in-Some : goal.returns-in-Some
returns-in-Some c =
    let S = c.args.s.now in
    let R = c.args.r.now in
    let found = rw c.in-Some.is at c.in_ok-map.ensures in
    let below = subst (λ n. AllByRecursion (IsBelow n) c.in-Some.map) c.worlds-count.ensures.value found.2 in
    let few : R.worlds ≤ 2 ^ 32 = omega (arith, c.worlds-count.ensures.bounded.worlds) in
    let told = subst (λ (m : List (Option ℕ)). IfOk c.maps.result (λ (b : Bool). IsTrue b ↔ Maps S R m)) c.as_slice.ensures c.maps.ensures in
    ok_iff c.maps.result (Maps S R c.in-Some.map) (ShowsMap S R c.args.text.now)
    (λ m. (c.in-Some.map, found.1, m)) (λ h. shown_map S R c.args.text.now c.in-Some.map c.worlds-worlds.ensures.valid few found.0 below found.1 h) told

pub returns-in-None : goal.returns-in-None
returns-in-None c =
    let never = rw c.in-None.is at c.in_ok-map.ensures in
    let count = c.worlds-count.ensures.value in
    never_true _ (λ h. no_shown_map c.args.s.now c.args.r.now c.args.text.now c.worlds-worlds.ensures.valid
    (λ m some below. never m some (subst (λ n. AllByRecursion (IsBelow n) m) (sym count) below)) h)
