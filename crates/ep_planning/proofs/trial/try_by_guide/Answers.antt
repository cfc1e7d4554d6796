-- The trial by the first guide, if there is one.
use Rattle.std.proofs.Common.{◌≡◌, ◌<◌, ℕ, length, inr, arith}
use Rattle.ep_trial.specs.TrialText.{trial_text}
use Rattle.ep_planning.specs.Planning.{Guided}
use Rattle.ep_planning.specs.Trials.{Tries}
use Rattle.ep_reading.specs.Served.{TaskRead}
use Rattle.ep_planning.proofs.GuidedLemmas.{tells_map}
use Rattle.ep_planning.proofs.KeepsLemmas.{keeps_all, keeps_others}
use Rattle.ep_planning.proofs.trial.try_by_guide.Goals as goal

some_of : (n m : ℕ) → m ≡ n → (m ≡ 0 → ⊥) → 0 < n
some_of n m e none = grind (arith, e, none)

pub returns-clause-answer : goal.returns-clause-answer
returns-clause-answer g c =
    let n = c.args.children in
    let some : 0 < length c.args.guides.now.items = some_of (length c.args.guides.now.items) c.len.result (omega (arith, c.len.ensures)) c.if-len-eq0.false in
    tells_map (TaskRead (trial_text n) (Tries n)) (Guided (length c.args.guides.now.items) 0 (TaskRead (trial_text n) (Tries n))) c.run_trial.result (λ o w. inr (some, w)) c.run_trial.ensures.answer

pub returns-then-len-eq0-clause-others : goal.returns-then-len-eq0-clause-others
returns-then-len-eq0-clause-others g c = keeps_all _ _ c.args.guides.now.items

pub returns-clause-others : goal.returns-clause-others
returns-clause-others g c =
    keeps_others _ c.args.guides.now.items 0 c.index_mut.result.now c.run_trial.new.guide (some_of (length c.args.guides.now.items) c.len.result (omega (arith, c.len.ensures)) c.if-len-eq0.false) c.index_mut.ensures.value c.run_trial.ensures.grows
