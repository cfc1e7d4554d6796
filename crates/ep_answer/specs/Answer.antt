-- The status and the text of each answer. A text ends with a line feed.
use Rattle.std.specs.Prelude.{ℕ, List, [], ◌∷◌, ◌++◌, codes, string_bytes}
use Rattle.std.specs.Fmt.{decimal}
use Rattle.ep_plan.specs.declared.verdicts.Verdict.{Verdict}
use Rattle.ep_plan.specs.declared.verdicts.Verdict.TheVariants as verdict
use Rattle.ep_answer.specs.declared.answer.Answer.{Answer}
use Rattle.ep_answer.specs.declared.answer.Answer.TheVariants.{Refused, Misused, NoSuchGuide, Unreadable, Checked, OfSearch, Judged, Stopped, TrueAt, Shown, Contraction, Bisimilar, Different, WideContraction, ToldApart, Tried}
use Rattle.ep_answer.specs.declared.answer.Counts.{Counts}
use Rattle.ep_answer.specs.declared.planned.Planned.{Planned}
use Rattle.ep_answer.specs.declared.planned.Planned.TheVariants as planned
use Rattle.ep_answer.specs.declared.run_stop.RunStop.{RunStop}
use Rattle.ep_answer.specs.declared.run_stop.RunStop.TheVariants.{Stuck, SpentWorlds, SpentLinks}
use Rattle.ep_answer.specs.declared.run_stop.Whose.{Whose}
use Rattle.ep_answer.specs.declared.run_stop.Whose.TheVariants.{Only, First, Second}
use Rattle.ep_answer.specs.declared.trial_text.Trial.{Trial}
use Rattle.ep_answer.specs.declared.trial_text.TrialEnd.{TrialEnd}
use Rattle.ep_answer.specs.declared.trial_text.TrialEnd.TheVariants.{Solved, Open}
use Rattle.ep_answer.specs.declared.cause.Cause.{Cause}
use Rattle.ep_answer.specs.declared.cause.Cause.TheVariants as cause
use Rattle.ep_answer.specs.declared.cause.Place.{Place}
use Rattle.ep_answer.specs.declared.cause.Subject.{Subject}
use Rattle.ep_answer.specs.declared.cause.Subject.TheVariants.{Task, Plan, FirstPlan, SecondPlan, Formula}
use Rattle.ep_answer.specs.declared.status.Status.{Status}
use Rattle.ep_answer.specs.declared.status.Status.TheVariants as status
use Rattle.ep_base.specs.Texts.{line}
use Rattle.ep_bounds.specs.declared.bounds.Measure.{Measure}
use Rattle.ep_bounds.specs.declared.bounds.Measure.TheVariants.{Length, Cost}
use Rattle.ep_types.specs.FaultTexts.{fault_text}

-- ---- refusals

abbrev pub subject_text : Subject → List ℕ
subject_text Task = codes "task"
subject_text Plan = codes "plan"
subject_text FirstPlan = codes "first plan"
subject_text SecondPlan = codes "second plan"
subject_text Formula = codes "formula"

-- numbers are in decimal
abbrev pub place_text : Place → List ℕ
place_text place = codes "token " ++ decimal place.token ++ codes ", line " ++ decimal place.line

abbrev pub cause_text : Cause → List ℕ
cause_text cause.NoSuchFile = codes "no such file"
cause_text cause.TooLong = codes "too long"
cause_text (cause.StrayByte at) = codes "stray byte at " ++ decimal at
cause_text cause.TooManyTokens = codes "too many tokens"
cause_text (cause.Syntax place) = codes "syntax at " ++ place_text place
cause_text (cause.TooDeep place) = codes "too deep at " ++ place_text place
cause_text (cause.Mistyped fault place) = fault_text fault ++ codes " at " ++ place_text place
cause_text (cause.TooManyObjects count) = codes "too many objects: " ++ decimal count
cause_text cause.NoAgent = codes "no agent"
cause_text (cause.TooManyAgents count) = codes "too many agents: " ++ decimal count
cause_text (cause.TooManyAtoms count) = codes "too many atoms: " ++ decimal count
cause_text (cause.TooManyActions count) = codes "too many actions: " ++ decimal count
cause_text (cause.TooManyEvents count) = codes "too many events: " ++ decimal count
cause_text (cause.TooLarge place) = codes "formula too large at " ++ place_text place
cause_text (cause.TooLargeTask count) = codes "task too large: " ++ decimal count
cause_text (cause.AtomTwice name) = codes "atom set twice: " ++ name
cause_text (cause.TooManyVaried count) = codes "too many varied atoms: " ++ decimal count
cause_text (cause.TooManyWorlds count) = codes "too many worlds: " ++ decimal count
cause_text cause.NoDesignated = codes "no designated world"
cause_text (cause.NotS5Initial agent) = codes "not s5: initial state, agent " ++ agent
cause_text (cause.NotS5Action action agent) = codes "not s5: " ++ action ++ codes ", agent " ++ agent
cause_text cause.OtherTask = codes "other task"
cause_text (cause.UnknownAction line) = codes "unknown action at line " ++ decimal line
cause_text cause.WrongCount = codes "wrong count"
cause_text cause.WrongCost = codes "wrong cost"

-- ---- answers

abbrev pub counts_text : Counts → List ℕ
counts_text counts =
    codes "# agents " ++ decimal counts.agents ++ codes " objects " ++ decimal counts.objects ++ codes " atoms " ++ decimal counts.atoms ++ codes " actions " ++ decimal counts.actions ++ codes " worlds " ++ decimal counts.worlds

-- ---- answers of the search

abbrev pub none_text : Measure → ℕ → List ℕ
none_text Length bound = line (codes "none to " ++ decimal bound)
none_text Cost bound = line (codes "none to cost " ++ decimal bound)

abbrev pub planned_text : Planned → List ℕ
planned_text (planned.Plan text) = text
planned_text (planned.NoneTo measure bound) = none_text measure bound
planned_text planned.ManyStates = line (codes "undecided: states")
planned_text (planned.WideAfter count actions) = line (codes "undecided: worlds after " ++ decimal count) ++ actions

abbrev pub planned_status : Planned → Status
planned_status (planned.Plan text) = status.Ok
planned_status (planned.NoneTo measure bound) = status.No
planned_status planned.ManyStates = status.Undecided
planned_status (planned.WideAfter count actions) = status.Undecided

-- ---- runs of plans

-- the plan of a command that has two
abbrev pub whose_text : Whose → List ℕ
whose_text Only = []
whose_text First = codes "first plan, "
whose_text Second = codes "second plan, "

abbrev pub step_text : Whose → ℕ → List ℕ
step_text whose k = whose_text whose ++ codes "step " ++ decimal k

abbrev pub stop_text : Whose → RunStop → List ℕ
stop_text whose (Stuck k) = codes "no: " ++ step_text whose k
stop_text whose (SpentWorlds k n) = codes "spent: " ++ step_text whose k ++ codes ", worlds " ++ decimal n
stop_text whose (SpentLinks k n) = codes "spent: " ++ step_text whose k ++ codes ", links " ++ decimal n

abbrev pub stop_status : RunStop → Status
stop_status (Stuck k) = status.No
stop_status (SpentWorlds k n) = status.Undecided
stop_status (SpentLinks k n) = status.Undecided

abbrev pub verdict_text : Verdict → List ℕ
verdict_text verdict.Yes = codes "yes"
verdict_text (verdict.Inapplicable k) = stop_text Only (Stuck k)
verdict_text verdict.GoalFalse = codes "no: goal"
verdict_text (verdict.SpentWorlds k n) = stop_text Only (SpentWorlds k n)
verdict_text (verdict.SpentLinks k n) = stop_text Only (SpentLinks k n)

abbrev pub verdict_status : Verdict → Status
verdict_status verdict.Yes = status.Ok
verdict_status (verdict.Inapplicable k) = status.No
verdict_status verdict.GoalFalse = status.No
verdict_status (verdict.SpentWorlds k n) = status.Undecided
verdict_status (verdict.SpentLinks k n) = status.Undecided

-- ---- trials

abbrev pub validator_line : Verdict → List ℕ
validator_line verdict = line (codes "validator " ++ verdict_text verdict)

abbrev pub end_text : TrialEnd → List ℕ
end_text (Solved length verdict) = line (codes "shortest " ++ decimal length) ++ validator_line verdict
end_text (Open planned) = planned_text planned

abbrev pub end_status : TrialEnd → Status
end_status (Solved length verdict) = status.Ok
end_status (Open planned) = planned_status planned

abbrev pub trial_lines : Trial → List ℕ
trial_lines t =
    codes "trial " ++ decimal t.children ++ codes "\nworlds " ++ decimal t.worlds ++ codes "\ncontracted " ++ decimal t.contracted ++ codes "\n" ++ end_text t.end

-- ---- all answers

abbrev pub answer_text : Answer → List ℕ
answer_text (Refused subject cause) =
    line (codes "refused: " ++ subject_text subject ++ codes ": " ++ cause_text cause)
answer_text Misused = line (codes "usage: plan|validate|eval|state|contract|same|check|trial|apart")
answer_text NoSuchGuide = line (codes "usage: no such guide")
answer_text (Unreadable subject) = line (codes "fault: " ++ subject_text subject ++ codes " cannot be read")
answer_text (Checked counts layout) = line (counts_text counts) ++ layout
answer_text (OfSearch planned) = planned_text planned
answer_text (Judged verdict) = line (verdict_text verdict)
answer_text (Stopped whose stop) = line (stop_text whose stop)
answer_text (TrueAt count designated) = line (codes "true at " ++ decimal count ++ codes " of " ++ decimal designated)
answer_text (Shown state) = state
answer_text (Contraction state bytes) = state ++ line (codes "bytes " ++ string_bytes bytes)
answer_text Bisimilar = line (codes "bisimilar")
answer_text Different = line (codes "different")
answer_text (WideContraction whose n) = line (codes "spent: " ++ whose_text whose ++ codes "contracted worlds " ++ decimal n)
answer_text (ToldApart formula) = formula
answer_text (Tried trial) = trial_lines trial

abbrev pub answer_status : Answer → Status
answer_status (Refused subject cause) = status.Refused
answer_status Misused = status.Usage
answer_status NoSuchGuide = status.Usage
answer_status (Unreadable subject) = status.ReadFault
answer_status (Checked counts layout) = status.Ok
answer_status (OfSearch planned) = planned_status planned
answer_status (Judged verdict) = verdict_status verdict
answer_status (Stopped whose stop) = stop_status stop
answer_status (TrueAt count designated) = status.Ok
answer_status (Shown state) = status.Ok
answer_status (Contraction state bytes) = status.Ok
answer_status Bisimilar = status.Ok
answer_status Different = status.No
answer_status (WideContraction whose n) = status.Undecided
answer_status (ToldApart formula) = status.No
answer_status (Tried trial) = end_status trial.end
