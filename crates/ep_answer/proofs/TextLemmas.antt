-- What is told of a trial.
use Rattle.std.proofs.Common.{◌≡◌, ℕ, [], ◌∷◌, ◌++◌, append_assoc, codes, decimal, ap}
use Rattle.ep_plan.specs.declared.verdicts.Verdict.{Verdict}
use Rattle.ep_answer.specs.declared.trial_text.TrialEnd.TheVariants.{Solved}
use Rattle.ep_answer.specs.Answer.{end_text, verdict_text}

-- the two lines of a trial that is solved, as they are written
pub solved_text : (n : ℕ) (v : Verdict) → end_text (Solved n v) ≡ codes "shortest " ++ (decimal n ++ 10 ∷ (codes "validator " ++ (verdict_text v ++ 10 ∷ [])))
solved_text n v = ap (λ text. codes "shortest " ++ text) (append_assoc (decimal n) (10 ∷ []) (codes "validator " ++ (verdict_text v ++ 10 ∷ [])))
