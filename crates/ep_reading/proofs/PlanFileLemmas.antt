-- The plan of a word and its run, as steps of the work.
use Rattle.std.specs.Str.{bytes_eq}
use Rattle.std.proofs.Common.{◌≡◌, ◌≢◌, ◌⊎◌, ℕ, Bool, false, ◌∙◌, List, [], Option, MatchOption, IfSome, inl, inr, refl, sym, subst}
use Rattle.ep_logic.specs.declared.ids.ActionId.{ActionId}
use Rattle.ep_theory.specs.Kripke.{Kripke}
use Rattle.ep_ground.specs.Task.{GroundTask}
use Rattle.ep_plan.specs.Runs.{RunUnder}
use Rattle.ep_plan.specs.declared.runs.Outcome.TheVariants as run
use Rattle.ep_plan_text.specs.PlanFiles.{IsFault, IsPlan}
use Rattle.ep_plan_text.specs.declared.read.PlanError.{PlanError}
use Rattle.ep_plan_text.specs.declared.read.PlanError.TheVariants as fault
use Rattle.ep_io.specs.Library.{FileMap, LibraryState}
use Rattle.ep_answer.specs.declared.answer.Answer.TheVariants.{Refused, Stopped}
use Rattle.ep_answer.specs.declared.answer.Stop.{Stop}
use Rattle.ep_answer.specs.declared.answer.Stop.TheVariants.{Told, OutOfMemory}
use Rattle.ep_answer.specs.declared.cause.Cause.{Cause}
use Rattle.ep_answer.specs.declared.cause.Cause.TheVariants as cause
use Rattle.ep_answer.specs.declared.cause.Place.{Place}
use Rattle.ep_answer.specs.declared.cause.Subject.{Subject}
use Rattle.ep_answer.specs.declared.run_stop.RunStop.{RunStop}
use Rattle.ep_answer.specs.declared.run_stop.Whose.{Whose}
use Rattle.ep_answer.specs.declared.status.Status.{Status}
use Rattle.ep_answer.specs.Answer.{answer_status, answer_text}
use Rattle.ep_reading.specs.PlanFile.{IsPlanCause, PlanFile, PlanRead, Ran, RunStops, no_plan, run_size}
use Rattle.ep_reading.specs.Served.{Ending, Answers, Fetched, Sized, answers}
use Rattle.ep_reading.specs.Steps.{IsFetched, IsPlanFile, IsPlanWord, OnlyFile, OnlyPlan, StopsAtFetch, StopsAtPlan, StopsBy, nothing_behind}
use Rattle.ep_reading.proofs.Lift.{StopsWork-more, all_held, behind_is_answer, file_read, some_map}
use Rattle.ep_reading.proofs.Steps.{Fetched-weaker}
use Rattle.ep_reading.proofs.Told.{IsBehind, refusal_is_behind, stopped_is_behind}

-- ---- reading

pub PlanRead-weaker : (subject : Subject) (g : GroundTask) (bytes : List ℕ) (P Q : List ActionId → Ending → Type 0) (o : Ending)
    → ((plan : List ActionId) → P plan o → Q plan o) → PlanRead subject g bytes P o → PlanRead subject g bytes Q o
unfolding PlanRead
PlanRead-weaker subject g bytes P Q o f (inl fault) = inl fault
PlanRead-weaker subject g bytes P Q o f (inr p) = inr (p.0, p.1, f p.0 p.2)

pub PlanRead-behind : (subject : Subject) (g : GroundTask) (bytes : List ℕ) (plan : List ActionId) (P : List ActionId → Ending → Type 0) (o : Ending)
    → IsPlan g bytes plan → P plan o → PlanRead subject g bytes P o
unfolding PlanRead
PlanRead-behind subject g bytes plan P o is h = inr (plan, is, h)

-- the fault is told
pub plan_fault : (subject : Subject) (g : GroundTask) (bytes : List ℕ) (e : PlanError) (c : Cause)
    → (e ≡ fault.OutOfMemory) ⊎ IsFault g bytes e → IsPlanCause e c → StopsBy (PlanRead subject g bytes nothing_behind) (Told (Refused subject c))
unfolding PlanRead
plan_fault subject g bytes e c (inl none) is = absurd (subst (λ e. IsPlanCause e c) none is)
plan_fault subject g bytes e c (inr h) is = inl (record { error = e; fault = h; cause = c; is_cause = is; told = refl })

plan_cause_is_behind : (subject : Subject) (e : PlanError) (c : Cause) (status : Status) (text : List ℕ)
    → IsPlanCause e c → Answers status text ≡ answers (Refused subject c) → IsBehind status text
plan_cause_is_behind s (fault.Stray at) c status text is e = refusal_is_behind status text s (cause.StrayByte at) tt (subst (λ c. Answers status text ≡ answers (Refused s c)) is e)
plan_cause_is_behind s fault.TooManyTokens c status text is e = refusal_is_behind status text s cause.TooManyTokens tt (subst (λ c. Answers status text ≡ answers (Refused s c)) is e)
plan_cause_is_behind s (fault.Syntax token line) c status text is e =
    let place : Place = record { token = token; line = line } in
    refusal_is_behind status text s (cause.Syntax place) tt (subst (λ c. Answers status text ≡ answers (Refused s c)) is e)
plan_cause_is_behind s fault.OtherTask c status text is e = refusal_is_behind status text s cause.OtherTask tt (subst (λ c. Answers status text ≡ answers (Refused s c)) is e)
plan_cause_is_behind s (fault.UnknownAction line) c status text is e = refusal_is_behind status text s (cause.UnknownAction line) tt (subst (λ c. Answers status text ≡ answers (Refused s c)) is e)
plan_cause_is_behind s (fault.WrongCount stated listed) c status text is e = refusal_is_behind status text s cause.WrongCount tt (subst (λ c. Answers status text ≡ answers (Refused s c)) is e)
plan_cause_is_behind s (fault.WrongCost stated summed) c status text is e = refusal_is_behind status text s cause.WrongCost tt (subst (λ c. Answers status text ≡ answers (Refused s c)) is e)
plan_cause_is_behind s fault.OutOfMemory c status text is e = absurd is

pub plan_read_is_behind : (subject : Subject) (g : GroundTask) (bytes : List ℕ) (P : List ActionId → Ending → Type 0) (status : Status) (text : List ℕ)
    → ((plan : List ActionId) → P plan (Answers status text) → IsBehind status text)
    → PlanRead subject g bytes P (Answers status text) → IsBehind status text
unfolding PlanRead
plan_read_is_behind subject g bytes P status text f (inl t) = plan_cause_is_behind subject t.error t.cause status text t.is_cause t.told
plan_read_is_behind subject g bytes P status text f (inr p) = f p.0 p.2

-- ---- the plan of a word

-- a word that is tested for the empty plan, and is another
pub no_dash : (word : List ℕ) (r : Bool) → r ≡ bytes_eq word no_plan → r ≡ false → word ≢ no_plan
no_dash word r is differs e = let same : bytes_eq no_plan no_plan ≡ false = subst (λ w. bytes_eq w no_plan ≡ false) e (sym is ∙ differs) in cc

pub PlanFile-weaker : (files : FileMap) (subject : Subject) (word : List ℕ) (g : GroundTask) (P Q : List ActionId → Ending → Type 0) (o : Ending)
    → ((plan : List ActionId) → P plan o → Q plan o) → PlanFile files subject word g P o → PlanFile files subject word g Q o
PlanFile-weaker files subject word g P Q o f (inl none) = inl (none.0, f [] none.1)
PlanFile-weaker files subject word g P Q o f (inr p) =
    inr (p.0, Fetched-weaker files subject word (λ bytes. PlanRead subject g bytes P) (λ bytes. PlanRead subject g bytes Q) o (λ bytes r. PlanRead-weaker subject g bytes P Q o f r) p.1)

pub stops_at_plan_fetch : (old new : LibraryState) (subject : Subject) (word : List ℕ) (g : GroundTask) (stop : Stop)
    → word ≢ no_plan → StopsAtFetch old new subject word stop → StopsAtPlan old new subject word g stop
stops_at_plan_fetch old new subject word g stop not h =
    StopsWork-more (λ files. Fetched files subject word nothing_behind) (λ files. PlanFile files subject word g nothing_behind) (OnlyFile subject word) (OnlyPlan subject word) old new stop
    (λ files o w. inr (not, Fetched-weaker files subject word nothing_behind (λ bytes. PlanRead subject g bytes nothing_behind) o (λ bytes none. absurd none) w))
    (λ s name n. (n.0, (n.1, not))) h

pub stops_at_plan_read : (old new : LibraryState) (subject : Subject) (word bytes : List ℕ) (g : GroundTask) (stop : Stop)
    → word ≢ no_plan → IsFetched old word bytes → StopsBy (PlanRead subject g bytes nothing_behind) stop → StopsAtPlan old new subject word g stop
stops_at_plan_read old new subject word bytes g (Told answer) not fetched h =
    behind_is_answer (λ files. PlanFile files subject word g nothing_behind) (OnlyPlan subject word) old new (answer_status answer) (answer_text answer)
    (plan_read_is_behind subject g bytes nothing_behind (answer_status answer) (answer_text answer) (λ plan none. absurd none) h)
    (some_map old.held (λ files w. inr (not, w)) (file_read old.held subject word bytes (λ bytes. PlanRead subject g bytes nothing_behind) (answers answer) fetched h))
stops_at_plan_read old new subject word bytes g OutOfMemory not fetched h = h

-- what is known of a file by its name, and what stands behind it
abbrev FromFile : FileMap → Subject → GroundTask → (List ActionId → Ending → Type 0) → Ending → Option (List ℕ) → Type 0
FromFile files subject g P o found = MatchOption found (o ≡ answers (Refused subject cause.NoSuchFile)) (λ b. Sized subject b (λ c. PlanRead subject g c P) o)

abbrev Then : LibraryState → Subject → List ℕ → GroundTask → List ActionId → (FileMap → List ActionId → Ending → Type 0) → Type 0
Then library subject word g plan P = IfSome library.held (λ files. (o : Ending) → P files plan o → PlanFile files subject word g (P files) o)

then_by : (library : LibraryState) (subject : Subject) (word : List ℕ) (g : GroundTask) (plan : List ActionId) (P : FileMap → List ActionId → Ending → Type 0)
    → ((word ≡ no_plan) × (plan ≡ [])) ⊎ ((word ≢ no_plan) × IsPlanFile library word g plan) → Then library subject word g plan P
then_by library subject word g plan P (inl none) = all_held library.held (λ files o h. inl (none.0, subst (λ p. P files p o) none.1 h))
then_by library subject word g plan P (inr (not, file)) =
    some_map library.held (λ files is o h. inr (not, inr (subst (FromFile files subject g (P files) o) (sym is) (inr (file.fetched.0, PlanRead-behind subject g file.bytes plan (P files) o file.is_plan h))))) file.fetched.1

-- the work behind the plan of the word
pub plan_then : (library : LibraryState) (subject : Subject) (word : List ℕ) (g : GroundTask) (plan : List ActionId) (P : FileMap → List ActionId → Ending → Type 0)
    → IsPlanWord library word g plan → IfSome library.held (λ files. (o : Ending) → P files plan o → PlanFile files subject word g (P files) o)
plan_then library subject word g plan P w = then_by library subject word g plan P w.is_plan

-- ---- runs

pub Ran-weaker : (whose : Whose) (g : GroundTask) (plan : List ActionId) (P Q : Kripke → Ending → Type 0) (o : Ending)
    → ((S : Kripke) → P S o → Q S o) → Ran whose g plan P o → Ran whose g plan Q o
unfolding Ran
Ran-weaker whose g plan P Q o f (inl stop) = inl stop
Ran-weaker whose g plan P Q o f (inr p) = inr (p.0, p.1, f p.0 p.2)

pub Ran-behind : (whose : Whose) (g : GroundTask) (plan : List ActionId) (S : Kripke) (P : Kripke → Ending → Type 0) (o : Ending)
    → RunUnder g.problem plan run_size (run.After S) → P S o → Ran whose g plan P o
unfolding Ran
Ran-behind whose g plan S P o left h = inr (S, left, h)

pub ran_is_behind : (whose : Whose) (g : GroundTask) (plan : List ActionId) (P : Kripke → Ending → Type 0) (status : Status) (text : List ℕ)
    → ((S : Kripke) → P S (Answers status text) → IsBehind status text)
    → Ran whose g plan P (Answers status text) → IsBehind status text
unfolding Ran
ran_is_behind whose g plan P status text f (inl (stop, stops, told)) = stopped_is_behind whose stop status text told
ran_is_behind whose g plan P status text f (inr p) = f p.0 p.2

abbrev StopsRan : Whose → GroundTask → List ActionId → Stop → Type 0
StopsRan whose g plan = StopsBy (Ran whose g plan nothing_behind)

pub ran_stops : (whose : Whose) (g : GroundTask) (plan : List ActionId) (stop : RunStop) (s : Stop) → RunStops g plan stop → s ≡ Told (Stopped whose stop) → StopsRan whose g plan s
unfolding Ran
ran_stops whose g plan stop s r e = subst (StopsRan whose g plan) (sym e) (inl (stop, r, refl))
