-- What is told behind a fetch is not what a fetch tells.
use Rattle.std.proofs.Common.{sym, ◌∙◌, append_assoc, codes, ◌≡◌, ◌≢◌, ℕ, List, [], ◌∷◌, ◌++◌, Bool, false, true, not, ◌==◌, drop, get_or, eqb, refl, ap, subst, arith, rules}
use Rattle.std.specs.Bool.{⊤}
use Rattle.std.specs.List.{list_all}
use Rattle.ep_types.specs.declared.fault.TypeFault.TheVariants as type_fault
use Rattle.ep_answer.specs.declared.answer.Answer.TheVariants.{Refused, Misused, NoSuchGuide, Stopped}
use Rattle.ep_answer.specs.declared.cause.Cause.{Cause}
use Rattle.ep_answer.specs.declared.cause.Cause.TheVariants as cause
use Rattle.ep_answer.specs.declared.cause.Subject.{Subject}
use Rattle.ep_answer.specs.declared.cause.Subject.TheVariants.{Task, Plan, FirstPlan, SecondPlan, Formula}
use Rattle.ep_answer.specs.declared.run_stop.RunStop.{RunStop}
use Rattle.ep_answer.specs.declared.run_stop.RunStop.TheVariants.{Stuck, SpentWorlds, SpentLinks}
use Rattle.ep_answer.specs.declared.run_stop.Whose.{Whose}
use Rattle.ep_answer.specs.declared.status.Status.{Status}
use Rattle.ep_answer.specs.declared.status.Status.TheVariants as done
use Rattle.ep_answer.specs.Answer.{answer_text, answer_status, subject_text, cause_text}
use Rattle.ep_reading.specs.Run.{IsOfFile}
use Rattle.ep_reader.specs.declared.text.TextError.{TextError}
use Rattle.ep_reader.specs.declared.text.TextError.TheVariants as text_error
use Rattle.ep_reading.specs.Served.{Answers, IsTextCause, answers}
use Rattle.ep_answer.specs.Status.{IsWritten}

-- a status and a text that no fetch gives
pub record IsBehind (status : Status) (text : List ℕ) : Type 0 where
  pub written : IsWritten status
  pub no_fault : status ≢ done.ReadFault
  pub no_usage : status ≢ done.Usage
  pub not_missing : (s : Subject) → text ≡ answer_text (Refused s cause.NoSuchFile) → ⊥
  pub not_long : (s : Subject) → IsOfFile s → text ≡ answer_text (Refused s cause.TooLong) → ⊥

-- ---- texts that differ at a byte

same : (n : ℕ) → eqb n n ≡ true
same n = search rules

pub differ : (n : ℕ) (a b : List ℕ) → eqb (get_or a n 0) (get_or b n 0) ≡ false → a ≡ b → ⊥
differ n a b d e = let h : eqb (get_or a n 0) (get_or a n 0) ≡ false = (rw (← e) at d) in grind (arith, same, h)

-- a text that begins with no `r` is no refusal
pub no_refusal : (text : List ℕ) (s : Subject) (c : Cause) → eqb (get_or text 0 0) 114 ≡ false → text ≡ answer_text (Refused s c) → ⊥
no_refusal text s c d e = differ 0 text (answer_text (Refused s c)) d e

-- ---- causes that no fetch gives

abbrev pub IsBehindFetch : Cause → Type 0
IsBehindFetch cause.NoSuchFile = ⊥
IsBehindFetch cause.TooLong = ⊥
IsBehindFetch (cause.StrayByte at) = ⊤
IsBehindFetch cause.TooManyTokens = ⊤
IsBehindFetch (cause.Syntax p) = ⊤
IsBehindFetch (cause.TooDeep p) = ⊤
IsBehindFetch (cause.Mistyped fault p) = ⊤
IsBehindFetch (cause.TooManyObjects n) = ⊤
IsBehindFetch cause.NoAgent = ⊤
IsBehindFetch (cause.TooManyAgents n) = ⊤
IsBehindFetch (cause.TooManyAtoms n) = ⊤
IsBehindFetch (cause.TooManyActions n) = ⊤
IsBehindFetch (cause.TooManyEvents n) = ⊤
IsBehindFetch (cause.TooLarge p) = ⊤
IsBehindFetch (cause.TooLargeTask n) = ⊤
IsBehindFetch (cause.AtomTwice name) = ⊤
IsBehindFetch (cause.TooManyVaried n) = ⊤
IsBehindFetch (cause.TooManyWorlds n) = ⊤
IsBehindFetch cause.NoDesignated = ⊤
IsBehindFetch (cause.NotS5Initial agent) = ⊤
IsBehindFetch (cause.NotS5Action action agent) = ⊤
IsBehindFetch cause.OtherTask = ⊤
IsBehindFetch (cause.UnknownAction line) = ⊤
IsBehindFetch cause.WrongCount = ⊤
IsBehindFetch cause.WrongCost = ⊤

pub text_cause_behind : (e : TextError) (c : Cause) → IsTextCause e c → IsBehindFetch c
text_cause_behind (text_error.Stray at) c is = subst IsBehindFetch (sym is) tt
text_cause_behind text_error.TooManyTokens c is = subst IsBehindFetch (sym is) tt
text_cause_behind (text_error.Syntax token line) c is = subst IsBehindFetch (sym is) tt
text_cause_behind (text_error.TooDeep token line) c is = subst IsBehindFetch (sym is) tt
text_cause_behind text_error.OutOfMemory c is = absurd is

abbrev line : Cause → List ℕ
line cause = cause_text cause ++ 10 ∷ []

cause_not_missing : (c : Cause) → IsBehindFetch c → line c ≡ line cause.NoSuchFile → ⊥
cause_not_missing cause.NoSuchFile b e = absurd b
cause_not_missing cause.TooLong b e = absurd b
cause_not_missing (cause.StrayByte at) b e = differ 0 _ _ refl e
cause_not_missing cause.TooManyTokens b e = differ 0 _ _ refl e
cause_not_missing (cause.Syntax p) b e = differ 0 _ _ refl e
cause_not_missing (cause.TooDeep p) b e = differ 0 _ _ refl e
cause_not_missing (cause.Mistyped type_fault.TooManyParameters p) b e = differ 0 _ _ refl e
cause_not_missing (cause.Mistyped type_fault.Duplicate p) b e = differ 0 _ _ refl e
cause_not_missing (cause.Mistyped type_fault.Unknown p) b e = differ 0 _ _ refl e
cause_not_missing (cause.Mistyped type_fault.WrongArity p) b e = differ 0 _ _ refl e
cause_not_missing (cause.Mistyped type_fault.WrongType p) b e = differ 0 _ _ refl e
cause_not_missing (cause.Mistyped type_fault.NotAgent p) b e = differ 2 _ _ refl e
cause_not_missing (cause.Mistyped type_fault.EmptyGroup p) b e = differ 0 _ _ refl e
cause_not_missing (cause.Mistyped type_fault.NotObjective p) b e = differ 0 _ _ refl e
cause_not_missing (cause.TooManyObjects n) b e = differ 0 _ _ refl e
cause_not_missing cause.NoAgent b e = differ 3 _ _ refl e
cause_not_missing (cause.TooManyAgents n) b e = differ 0 _ _ refl e
cause_not_missing (cause.TooManyAtoms n) b e = differ 0 _ _ refl e
cause_not_missing (cause.TooManyActions n) b e = differ 0 _ _ refl e
cause_not_missing (cause.TooManyEvents n) b e = differ 0 _ _ refl e
cause_not_missing (cause.TooLarge p) b e = differ 0 _ _ refl e
cause_not_missing (cause.TooLargeTask n) b e = differ 0 _ _ refl e
cause_not_missing (cause.AtomTwice name) b e = differ 0 _ _ refl e
cause_not_missing (cause.TooManyVaried n) b e = differ 0 _ _ refl e
cause_not_missing (cause.TooManyWorlds n) b e = differ 0 _ _ refl e
cause_not_missing cause.NoDesignated b e = differ 3 _ _ refl e
cause_not_missing (cause.NotS5Initial agent) b e = differ 2 _ _ refl e
cause_not_missing (cause.NotS5Action action agent) b e = differ 2 _ _ refl e
cause_not_missing cause.OtherTask b e = differ 0 _ _ refl e
cause_not_missing (cause.UnknownAction line) b e = differ 0 _ _ refl e
cause_not_missing cause.WrongCount b e = differ 0 _ _ refl e
cause_not_missing cause.WrongCost b e = differ 0 _ _ refl e

cause_not_long : (c : Cause) → IsBehindFetch c → line c ≡ line cause.TooLong → ⊥
cause_not_long cause.NoSuchFile b e = absurd b
cause_not_long cause.TooLong b e = absurd b
cause_not_long (cause.StrayByte at) b e = differ 0 _ _ refl e
cause_not_long cause.TooManyTokens b e = differ 4 _ _ refl e
cause_not_long (cause.Syntax p) b e = differ 0 _ _ refl e
cause_not_long (cause.TooDeep p) b e = differ 4 _ _ refl e
cause_not_long (cause.Mistyped type_fault.TooManyParameters p) b e = differ 4 _ _ refl e
cause_not_long (cause.Mistyped type_fault.Duplicate p) b e = differ 0 _ _ refl e
cause_not_long (cause.Mistyped type_fault.Unknown p) b e = differ 0 _ _ refl e
cause_not_long (cause.Mistyped type_fault.WrongArity p) b e = differ 0 _ _ refl e
cause_not_long (cause.Mistyped type_fault.WrongType p) b e = differ 0 _ _ refl e
cause_not_long (cause.Mistyped type_fault.NotAgent p) b e = differ 0 _ _ refl e
cause_not_long (cause.Mistyped type_fault.EmptyGroup p) b e = differ 0 _ _ refl e
cause_not_long (cause.Mistyped type_fault.NotObjective p) b e = differ 0 _ _ refl e
cause_not_long (cause.TooManyObjects n) b e = differ 4 _ _ refl e
cause_not_long cause.NoAgent b e = differ 0 _ _ refl e
cause_not_long (cause.TooManyAgents n) b e = differ 4 _ _ refl e
cause_not_long (cause.TooManyAtoms n) b e = differ 4 _ _ refl e
cause_not_long (cause.TooManyActions n) b e = differ 4 _ _ refl e
cause_not_long (cause.TooManyEvents n) b e = differ 4 _ _ refl e
cause_not_long (cause.TooLarge p) b e = differ 0 _ _ refl e
cause_not_long (cause.TooLargeTask n) b e = differ 1 _ _ refl e
cause_not_long (cause.AtomTwice name) b e = differ 0 _ _ refl e
cause_not_long (cause.TooManyVaried n) b e = differ 4 _ _ refl e
cause_not_long (cause.TooManyWorlds n) b e = differ 4 _ _ refl e
cause_not_long cause.NoDesignated b e = differ 0 _ _ refl e
cause_not_long (cause.NotS5Initial agent) b e = differ 0 _ _ refl e
cause_not_long (cause.NotS5Action action agent) b e = differ 0 _ _ refl e
cause_not_long cause.OtherTask b e = differ 0 _ _ refl e
cause_not_long (cause.UnknownAction line) b e = differ 0 _ _ refl e
cause_not_long cause.WrongCount b e = differ 0 _ _ refl e
cause_not_long cause.WrongCost b e = differ 0 _ _ refl e

-- ---- refusals with the same text

abbrev is_no_colon : ℕ → Bool
is_no_colon c = not (c == 58)

-- what stands behind the first colon
behind_colon : (a b x y : List ℕ) → list_all is_no_colon a ≡ true → list_all is_no_colon b ≡ true → a ++ 58 ∷ x ≡ b ++ 58 ∷ y → x ≡ y
behind_colon [] [] x y p q e = ap (drop 1) e
behind_colon [] (d ∷ b) x y p q e = let h : 58 ≡ d = ap (λ l. get_or l 0 0) e in absurd (grind (rules, q, h))
behind_colon (c ∷ a) [] x y p q e = let h : c ≡ 58 = ap (λ l. get_or l 0 0) e in absurd (grind (rules, p, h))
behind_colon (c ∷ a) (d ∷ b) x y p q e = behind_colon a b x y (grind (rules, p)) (grind (rules, q)) (ap (drop 1) e)

no_colon : (s : Subject) → list_all is_no_colon (subject_text s) ≡ true
no_colon Task = refl
no_colon Plan = refl
no_colon FirstPlan = refl
no_colon SecondPlan = refl
no_colon Formula = refl

behind_refused : (s : Subject) (c : Cause) → drop 9 (answer_text (Refused s c)) ≡ subject_text s ++ 58 ∷ 32 ∷ line c
behind_refused s c = append_assoc (subject_text s ++ codes ": ") (cause_text c) (10 ∷ []) ∙ append_assoc (subject_text s) (codes ": ") (line c)

same_cause : (s t : Subject) (c d : Cause) → answer_text (Refused s c) ≡ answer_text (Refused t d) → line c ≡ line d
same_cause s t c d e =
    ap (drop 1) (behind_colon (subject_text s) (subject_text t) (32 ∷ line c) (32 ∷ line d) (no_colon s) (no_colon t) (sym (behind_refused s c) ∙ ap (drop 9) e ∙ behind_refused t d))

-- ---- answers that no fetch gives

refusal : (s : Subject) (c : Cause) → IsBehindFetch c → IsBehind (answer_status (Refused s c)) (answer_text (Refused s c))
refusal s c b = record {
  written = tt;
  no_fault = λ e. cc;
  no_usage = λ e. cc;
  not_missing = λ t e. cause_not_missing c b (same_cause s t c cause.NoSuchFile e);
  not_long = λ t f e. cause_not_long c b (same_cause s t c cause.TooLong e);
}

pub refusal_is_behind : (status : Status) (text : List ℕ) (s : Subject) (c : Cause) → IsBehindFetch c → Answers status text ≡ answers (Refused s c) → IsBehind status text
refusal_is_behind status text s c b e =
    let p : status ≡ answer_status (Refused s c) = cc in
    let t : text ≡ answer_text (Refused s c) = cc in
    rw (p, t) (refusal s c b)

-- a text that begins with no `r`
pub other_is_behind : (status : Status) (text : List ℕ) → IsWritten status → status ≢ done.ReadFault → status ≢ done.Usage → eqb (get_or text 0 0) 114 ≡ false → IsBehind status text
other_is_behind status text w n u d = record {
  written = w;
  no_fault = n;
  no_usage = u;
  not_missing = λ s e. no_refusal text s cause.NoSuchFile d e;
  not_long = λ s f e. no_refusal text s cause.TooLong d e;
}

pub answers_are : (status other : Status) (text told : List ℕ) → Answers status text ≡ Answers other told → IsBehind other told → IsBehind status text
answers_are status other text told e b =
    let p : status ≡ other = cc in
    let t : text ≡ told = cc in
    rw (p, t) b

-- the texts of misused words
pub usage_no_fetch : (s : Subject) (c : Cause) → answer_text Misused ≡ answer_text (Refused s c) → ⊥
usage_no_fetch s c e = no_refusal (answer_text Misused) s c refl e

pub no_guide_no_fetch : (s : Subject) (c : Cause) → answer_text NoSuchGuide ≡ answer_text (Refused s c) → ⊥
no_guide_no_fetch s c e = no_refusal (answer_text NoSuchGuide) s c refl e

-- ---- a formula that is too long

formula_not_file : (s : Subject) → IsOfFile s → answer_text (Refused Formula cause.TooLong) ≡ answer_text (Refused s cause.TooLong) → ⊥
formula_not_file Task f e = differ 9 _ _ refl e
formula_not_file Plan f e = differ 9 _ _ refl e
formula_not_file FirstPlan f e = differ 10 _ _ refl e
formula_not_file SecondPlan f e = differ 9 _ _ refl e
formula_not_file Formula f e = absurd f

long_formula : IsBehind (answer_status (Refused Formula cause.TooLong)) (answer_text (Refused Formula cause.TooLong))
long_formula = record {
  written = tt;
  no_fault = λ e. cc;
  no_usage = λ e. cc;
  not_missing = λ t e. differ 0 (line cause.TooLong) (line cause.NoSuchFile) refl (same_cause Formula t cause.TooLong cause.NoSuchFile e);
  not_long = formula_not_file;
}

pub long_formula_is_behind : (status : Status) (text : List ℕ) → Answers status text ≡ answers (Refused Formula cause.TooLong) → IsBehind status text
long_formula_is_behind status text e = answers_are status _ text _ e long_formula

-- ---- a run that stops

pub stopped_is_behind : (whose : Whose) (stop : RunStop) (status : Status) (text : List ℕ) → Answers status text ≡ answers (Stopped whose stop) → IsBehind status text
stopped_is_behind whose (Stuck k) status text e = answers_are status done.No text _ e (other_is_behind done.No _ tt (λ e. cc) (λ e. cc) refl)
stopped_is_behind whose (SpentWorlds k n) status text e = answers_are status done.Undecided text _ e (other_is_behind done.Undecided _ tt (λ e. cc) (λ e. cc) refl)
stopped_is_behind whose (SpentLinks k n) status text e = answers_are status done.Undecided text _ e (other_is_behind done.Undecided _ tt (λ e. cc) (λ e. cc) refl)
