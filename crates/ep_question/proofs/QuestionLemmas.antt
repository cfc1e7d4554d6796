-- What the questions tell.
use Rattle.std.proofs.Common.{◌∙◌, codes, ◌≡◌, ℕ, List, ◌++◌, refl, ap}
use Rattle.ep_logic.specs.declared.formula.Node.{Node}
use Rattle.ep_logic.specs.declared.ids.ActionId.{ActionId}
use Rattle.ep_theory.specs.Kripke.{Kripke}
use Rattle.ep_plan.specs.declared.verdicts.Verdict.{Verdict}
use Rattle.ep_plan.specs.declared.verdicts.Verdict.TheVariants as verdict
use Rattle.ep_ground.specs.Task.{GroundTask}
use Rattle.ep_answer.specs.declared.answer.Answer.TheVariants.{Judged}
use Rattle.ep_answer.specs.declared.status.Status.{Status}
use Rattle.ep_answer.specs.declared.status.Status.TheVariants as done
use Rattle.ep_base.specs.Texts.{line}
use Rattle.ep_question.specs.Questions.{Evaluates, Shows, ShowsContraction, Validates, Asks, Evals}
use Rattle.ep_reading.specs.Served.{Answers, answers}
use Rattle.ep_reading.proofs.CallerLemmas.{IsBehind, other_is_behind, answers_are, formula_is_behind, ran_is_behind}
use Rattle.hex.specs.Hex.{encode_lower}
use Rattle.ep_theory.specs.Canonical.{Contracts}
use Rattle.ep_bytes.specs.Bytes.{bytes_of}
use Rattle.ep_ground.specs.StateText.{state_text}
use Rattle.ep_plan.specs.Verdicts.{IsVerdict}
use Rattle.ep_question.specs.declared.question.Question.{Question}
use Rattle.ep_question.specs.declared.question.Question.TheVariants.{Validate, Eval, State, Contract}
use Rattle.ep_answer.specs.declared.run_stop.Whose.TheVariants.{Only}
use Rattle.ep_reading.specs.PlanFile.{Ran}

judged_is_behind : (v : Verdict) (status : Status) (text : List ℕ) → Answers status text ≡ answers (Judged v) → IsBehind status text
judged_is_behind verdict.Yes status text e = answers_are status done.Ok text _ e (other_is_behind done.Ok _ tt (λ e. cc) (λ e. cc) refl)
judged_is_behind (verdict.Inapplicable k) status text e = answers_are status done.No text _ e (other_is_behind done.No _ tt (λ e. cc) (λ e. cc) refl)
judged_is_behind verdict.GoalFalse status text e = answers_are status done.No text _ e (other_is_behind done.No _ tt (λ e. cc) (λ e. cc) refl)
judged_is_behind (verdict.SpentWorlds k n) status text e = answers_are status done.Undecided text _ e (other_is_behind done.Undecided _ tt (λ e. cc) (λ e. cc) refl)
judged_is_behind (verdict.SpentLinks k n) status text e = answers_are status done.Undecided text _ e (other_is_behind done.Undecided _ tt (λ e. cc) (λ e. cc) refl)

pub validates_is_behind : (g : GroundTask) (plan : List ActionId) (status : Status) (text : List ℕ) → Validates g plan (Answers status text) → IsBehind status text
unfolding Validates
validates_is_behind g plan status text h = judged_is_behind h.0 status text h.2

pub evaluates_is_behind : (f : Node) (S : Kripke) (status : Status) (text : List ℕ) → Evaluates f S (Answers status text) → IsBehind status text
evaluates_is_behind f S status text e = answers_are status done.Ok text _ e (other_is_behind done.Ok _ tt (λ e. cc) (λ e. cc) refl)

pub shows_is_behind : (g : GroundTask) (S : Kripke) (status : Status) (text : List ℕ) → Shows g S (Answers status text) → IsBehind status text
shows_is_behind g S status text e = answers_are status done.Ok text _ e (other_is_behind done.Ok _ tt (λ e. cc) (λ e. cc) refl)

pub contraction_is_behind : (g : GroundTask) (S : Kripke) (status : Status) (text : List ℕ) → ShowsContraction g S (Answers status text) → IsBehind status text
unfolding ShowsContraction
contraction_is_behind g S status text h = answers_are status done.Ok text _ h.2 (other_is_behind done.Ok _ tt (λ e. cc) (λ e. cc) refl)

evals_is_behind : (formula : List ℕ) (g : GroundTask) (plan : List ActionId) (status : Status) (text : List ℕ) → Evals formula g plan (Answers status text) → IsBehind status text
evals_is_behind formula g plan status text h =
    formula_is_behind g formula (λ f. Ran Only g plan (Evaluates f)) status text
    (λ f r. ran_is_behind Only g plan (Evaluates f) status text (λ S e. evaluates_is_behind f S status text e) r) h

pub asks_is_behind : (q : Question) (g : GroundTask) (plan : List ActionId) (status : Status) (text : List ℕ) → Asks q g plan (Answers status text) → IsBehind status text
asks_is_behind Validate g plan status text h = validates_is_behind g plan status text h
asks_is_behind (Eval formula) g plan status text h = evals_is_behind formula.now g plan status text h
asks_is_behind State g plan status text h = ran_is_behind Only g plan (Shows g) status text (λ S e. shows_is_behind g S status text e) h
asks_is_behind Contract g plan status text h = ran_is_behind Only g plan (ShowsContraction g) status text (λ S e. contraction_is_behind g S status text e) h

pub validates_by : (g : GroundTask) (plan : List ActionId) (v : Verdict) → IsVerdict g.problem plan v → Validates g plan (answers (Judged v))
unfolding Validates
validates_by g plan v h = (v, h, refl)

pub contraction_by : (g : GroundTask) (S C : Kripke) (text digits : List ℕ) → Contracts S C → text ≡ state_text g C → digits ≡ encode_lower (bytes_of C)
    → ShowsContraction g S (Answers done.Ok (text ++ line (codes "bytes " ++ digits)))
unfolding ShowsContraction
contraction_by g S C text digits h t d = (C, h, ap (λ x. Answers done.Ok (x ++ line (codes "bytes " ++ digits))) t ∙ ap (λ x. Answers done.Ok (state_text g C ++ line (codes "bytes " ++ x))) d)
