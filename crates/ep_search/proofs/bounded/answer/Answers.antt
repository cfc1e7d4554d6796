use Rattle.std.proofs.Common.{◌≡◌, ◌↔◌, ◌<◌, sym, subst, arith}
use Rattle.std.specs.List.{AllByRecursion}
use Rattle.ep_theory.specs.Kripke.{Kripke}
use Rattle.ep_theory.specs.Fits.{Fits}
use Rattle.ep_theory.specs.Canonical.{Contracts}
use Rattle.ep_theory.specs.Truth.{Satisfies}
use Rattle.ep_search.specs.Conjuncts.{AreParts}
use Rattle.ep_search.proofs.AlikeLemmas.{to_Alike}
use Rattle.ep_search.proofs.GoalLemmas.{parts_fit, goal_at, unmet_at, unmet_here}
use Rattle.ep_search.proofs.KeptLemmas.{grows-Kept}
use Rattle.ep_search.proofs.StartLemmas.{least_empty, found_empty, wide_empty, asked_ok}
use Rattle.ep_search.proofs.bounded.answer.Goals as goal

pub count_unmet-requires-clause-fit : goal.count_unmet-requires-clause-fit
count_unmet-requires-clause-fit g c =
    let parts = subst (AreParts c.args.problem.now.goal) (sym c.as_slice.ensures) c.requires.parts in
    let fits : Fits c.initial.result.now c.args.problem.now.goal = subst (λ S. Fits S c.args.problem.now.goal) (sym c.initial.ensures.value) c.initial.ensures.valid.goal in
    parts_fit c.initial.result.now c.args.problem.now.goal c.as_slice.result.now parts fits

pub returns-in-Prove-clause-allowed : goal.returns-in-Prove-clause-allowed
returns-in-Prove-clause-allowed g c =
    let parts = subst (AreParts c.args.problem.now.goal) (sym c.as_slice.ensures) c.requires.parts in
    let tells = subst (λ S. (c.in_ok-unmet.unmet ≡ 0) ↔ AllByRecursion (Satisfies S) c.as_slice.result.now) c.initial.ensures.value c.in_ok-unmet.ensures.none in (
      c.in-Prove.is,
      least_empty c.args.problem.now c.args.setting.now.bounds _ c.new.ensures
          (goal_at c.args.problem.now.initial c.args.problem.now.goal c.as_slice.result.now c.in_ok-unmet.unmet parts tells c.if-unmet-eq0.true),
    )

pub returns-in-First-clause-allowed : goal.returns-in-First-clause-allowed
returns-in-First-clause-allowed g c =
    let parts = subst (AreParts c.args.problem.now.goal) (sym c.as_slice.ensures) c.requires.parts in
    let tells = subst (λ S. (c.in_ok-unmet.unmet ≡ 0) ↔ AllByRecursion (Satisfies S) c.as_slice.result.now) c.initial.ensures.value c.in_ok-unmet.ensures.none in
    found_empty c.args.problem.now c.args.setting.now.bounds _ _ c.new-in-First.ensures
    (goal_at c.args.problem.now.initial c.args.problem.now.goal c.as_slice.result.now c.in_ok-unmet.unmet parts tells c.if-unmet-eq0.true) c.in-First.is

pub returns-then-setting-worlds-clause-allowed : goal.returns-then-setting-worlds-clause-allowed
returns-then-setting-worlds-clause-allowed g c =
    let parts = subst (AreParts c.args.problem.now.goal) (sym c.as_slice.ensures) c.requires.parts in
    let tells = subst (λ S. (c.in_ok-unmet.unmet ≡ 0) ↔ AllByRecursion (Satisfies S) c.as_slice.result.now) c.initial.ensures.value c.in_ok-unmet.ensures.none in
    let contracts : Contracts c.args.problem.now.initial c.in_ok-canon.canon = subst (λ S. Contracts S c.in_ok-canon.canon) c.initial-2.ensures.value c.in_ok-canon.ensures.contraction in
    wide_empty c.args.problem.now c.args.setting.now.bounds c.in_ok-canon.canon _ c.new-then-setting-worlds.ensures contracts
    (unmet_here c.args.problem.now.initial c.args.problem.now.goal c.as_slice.result.now c.in_ok-unmet.unmet parts tells c.if-unmet-eq0.false)
    (subst (λ (u : Kripke). c.args.setting.now.bounds.worlds < u.worlds) c.state.ensures.value (omega (arith, c.if-setting-worlds.true, c.worlds.ensures.value)))

pub start-requires-clause-alike : goal.start-requires-clause-alike
start-requires-clause-alike g c =
    let contracts : Contracts c.args.problem.now.initial c.in_ok-canon.canon = subst (λ S. Contracts S c.in_ok-canon.canon) c.initial-2.ensures.value c.in_ok-canon.ensures.contraction in
    to_Alike c.args.problem.now.initial c.in_ok-canon.canon c.initial.ensures.valid.initial c.in_ok-canon.ensures.valid contracts.bisimilar

pub start-requires-clause-unmet : goal.start-requires-clause-unmet
start-requires-clause-unmet g c =
    let parts = subst (AreParts c.args.problem.now.goal) (sym c.as_slice.ensures) c.requires.parts in
    let tells = subst (λ S. (c.in_ok-unmet.unmet ≡ 0) ↔ AllByRecursion (Satisfies S) c.as_slice.result.now) c.initial.ensures.value c.in_ok-unmet.ensures.none in
    let contracts : Contracts c.args.problem.now.initial c.in_ok-canon.canon = subst (λ S. Contracts S c.in_ok-canon.canon) c.initial-2.ensures.value c.in_ok-canon.ensures.contraction in
    unmet_at c.args.problem.now.initial c.in_ok-canon.canon c.args.problem.now.goal c.as_slice.result.now c.in_ok-unmet.unmet parts tells c.if-unmet-eq0.false
    (to_Alike c.args.problem.now.initial c.in_ok-canon.canon c.initial.ensures.valid.initial c.in_ok-canon.ensures.valid contracts.bisimilar)

pub returns-clause-asked : goal.returns-clause-asked
returns-clause-asked g c =
    asked_ok c.args.problem.now c.requires.task c.args.setting.now.bounds c.args.setting.now.mode _ _ _ c.run.result c.run.ensures.allowed c.in_ok-p.ensures.asked c.run.ensures.asked

pub returns-clause-grows : goal.returns-clause-grows
returns-clause-grows g c = grows-Kept _ _ _ c.start.ensures.grows c.run.ensures.asked
