-- The text of a trial is short enough to be read, and what is told of one.
use Rattle.std.proofs.Common.{◌≡◌, ◌≤◌, ◌<◌, ◌+◌, ℕ, zero, suc, List, [], ◌∷◌, length, decimal, arith, ◌≢◌, refl}
use Rattle.std.proofs.lemmas.Fmt.{decimal_digit}
use Rattle.ep_answer.specs.declared.trial_text.TrialEnd.TheVariants.{Solved, Open}
use Rattle.ep_answer.specs.Answer.{planned_status, end_status}
use Rattle.ep_trial.specs.TrialText.{action_lines, declaration_lines, initial_lines, listed, muddy, sees_line, trial_text}
use Rattle.ep_ground.specs.Task.{GroundTask}
use Rattle.ep_answer.specs.declared.answer.Answer.TheVariants.{Tried}
use Rattle.ep_answer.specs.declared.planned.Planned.{Planned}
use Rattle.ep_answer.specs.declared.planned.Planned.TheVariants as planned
use Rattle.ep_answer.specs.declared.trial_text.TrialEnd.{TrialEnd}
use Rattle.ep_answer.specs.declared.status.Status.{Status}
use Rattle.ep_answer.specs.declared.status.Status.TheVariants as done
use Rattle.ep_planning.specs.Trials.{Tries, IsTrial}
use Rattle.ep_reading.specs.Served.{Answers, answers, TaskRead}
use Rattle.ep_answer.specs.Status.{IsWritten}
use Rattle.ep_reading.proofs.CallerLemmas.{IsBehind, other_is_behind, answers_are, read_is_behind}
use Rattle.ep_answer.specs.declared.trial_text.Trial.{Trial}

digit : (n : ℕ) → n < 10 → decimal n ≡ (48 + n) ∷ []
digit n l = decimal_digit n l

pub trial_is_short : (n : ℕ) → n ≤ 8 → length (trial_text n) ≤ 1048576
unfolding action_lines declaration_lines initial_lines listed muddy sees_line
trial_is_short zero h = omega arith
trial_is_short (suc zero) h = rw (digit 1 (omega arith)) (omega arith)
trial_is_short (suc (suc zero)) h = rw (digit 1 (omega arith), digit 2 (omega arith)) (omega arith)
trial_is_short (suc (suc (suc zero))) h = rw (digit 1 (omega arith), digit 2 (omega arith), digit 3 (omega arith)) (omega arith)
trial_is_short (suc (suc (suc (suc zero)))) h = rw (digit 1 (omega arith), digit 2 (omega arith), digit 3 (omega arith), digit 4 (omega arith)) (omega arith)
trial_is_short (suc (suc (suc (suc (suc zero))))) h = rw (digit 1 (omega arith), digit 2 (omega arith), digit 3 (omega arith), digit 4 (omega arith), digit 5 (omega arith)) (omega arith)
trial_is_short (suc (suc (suc (suc (suc (suc zero)))))) h = rw (digit 1 (omega arith), digit 2 (omega arith), digit 3 (omega arith), digit 4 (omega arith), digit 5 (omega arith), digit 6 (omega arith)) (omega arith)
trial_is_short (suc (suc (suc (suc (suc (suc (suc zero))))))) h = rw (digit 1 (omega arith), digit 2 (omega arith), digit 3 (omega arith), digit 4 (omega arith), digit 5 (omega arith), digit 6 (omega arith), digit 7 (omega arith)) (omega arith)
trial_is_short (suc (suc (suc (suc (suc (suc (suc (suc zero)))))))) h = rw (digit 1 (omega arith), digit 2 (omega arith), digit 3 (omega arith), digit 4 (omega arith), digit 5 (omega arith), digit 6 (omega arith), digit 7 (omega arith), digit 8 (omega arith)) (omega arith)
trial_is_short (suc (suc (suc (suc (suc (suc (suc (suc (suc n))))))))) h = absurd (omega (arith, h))

-- ---- answers

planned_is_written : (p : Planned) → IsWritten (planned_status p) × (planned_status p ≢ done.ReadFault) × (planned_status p ≢ done.Usage)
planned_is_written (planned.Plan text) = (tt, (λ e. cc), (λ e. cc))
planned_is_written (planned.NoneTo m b) = (tt, (λ e. cc), (λ e. cc))
planned_is_written planned.ManyStates = (tt, (λ e. cc), (λ e. cc))
planned_is_written (planned.WideAfter n text) = (tt, (λ e. cc), (λ e. cc))

end_is_written : (end : TrialEnd) → IsWritten (end_status end) × (end_status end ≢ done.ReadFault) × (end_status end ≢ done.Usage)
end_is_written (Solved n v) = (tt, (λ e. cc), (λ e. cc))
end_is_written (Open p) = planned_is_written p

pub tries_is_behind : (n : ℕ) (g : GroundTask) (status : Status) (text : List ℕ) → Tries n g (Answers status text) → IsBehind status text
unfolding Tries
tries_is_behind n g status text h =
    let w = end_is_written h.0.end in
    answers_are status (end_status h.0.end) text _ h.2 (other_is_behind (end_status h.0.end) _ w.0 w.1 w.2 refl)

pub trial_is_behind : (n : ℕ) (bytes : List ℕ) (status : Status) (text : List ℕ) → TaskRead bytes (Tries n) (Answers status text) → IsBehind status text
trial_is_behind n bytes status text h = read_is_behind bytes (Tries n) status text (λ g w. tries_is_behind n g status text w) h

pub tries_by : (n : ℕ) (g : GroundTask) (trial : Trial) → IsTrial n g trial → Tries n g (answers (Tried trial))
unfolding Tries
tries_by n g trial h = (trial, h, refl)
