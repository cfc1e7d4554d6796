-- The guide at the place, if there is one.
use Rattle.std.proofs.Common.{[], ◌∷◌, refl, arith}
use Rattle.ep_planning.specs.Planning.{Plans}
use Rattle.ep_reading.specs.Served.{TaskFile}
use Rattle.ep_reading.proofs.CallerLemmas.{fetches_none}
use Rattle.ep_planning.proofs.GuideLemmas.{asked_at, no_guide_needs_none}
use Rattle.ep_planning.proofs.GuidedLemmas.{serves_guided}
use Rattle.ep_planning.proofs.KeepsLemmas.{keeps_all, keeps_others}
use Rattle.ep_planning.proofs.plan.plan_by_guide.Goals as goal

pub returns-then-place-len-clause-asked : goal.returns-then-place-len-clause-asked
returns-then-place-len-clause-asked g c some needs = absurd (no_guide_needs_none needs)

pub returns-clause-answer : goal.returns-clause-answer
returns-clause-answer g c =
    serves_guided _ c.args.place (λ files. TaskFile files c.args.file.now (Plans c.args.bounds c.args.mode)) _ _ _ c.plan_file.result (omega (arith, c.if-place-len.false, c.len.ensures)) c.plan_file.ensures.answer

pub returns-clause-asked : goal.returns-clause-asked
returns-clause-asked g c some needs =
    asked_at _ c.args.guides.now.items c.args.place c.index_mut.result.now c.plan_file.new.guide (omega (arith, c.if-place-len.false, c.len.ensures)) c.index_mut.ensures.value (c.plan_file.ensures.asked some needs)

pub returns-then-place-len-clause-others : goal.returns-then-place-len-clause-others
returns-then-place-len-clause-others g c = keeps_all _ _ c.args.guides.now.items

pub returns-clause-others : goal.returns-clause-others
returns-clause-others g c =
    keeps_others _ c.args.guides.now.items c.args.place c.index_mut.result.now c.plan_file.new.guide (omega (arith, c.if-place-len.false, c.len.ensures)) c.index_mut.ensures.value c.plan_file.ensures.grows

pub returns-then-place-len-clause-fetches : goal.returns-then-place-len-clause-fetches
returns-then-place-len-clause-fetches g c = fetches_none (c.args.file.now ∷ []) _ _ refl
