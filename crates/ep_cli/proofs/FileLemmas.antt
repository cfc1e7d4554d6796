-- The files that commands name.
use Rattle.std.proofs.Common.{◌≡◌, ℕ, IfSome, Option, List, [], ◌∷◌, ◌++◌, Result, Ok, Err, refl, sym, subst}
use Rattle.std.specs.Bool.{⊤}
use Rattle.ep_io.specs.Library.{FileMap, LibraryState}
use Rattle.ep_trial.specs.TrialText.{trial_text}
use Rattle.ep_words.specs.declared.command.Command.{Command}
use Rattle.ep_words.specs.declared.command.Command.TheVariants as command
use Rattle.ep_answer.specs.declared.answer.Answer.{Answer}
use Rattle.ep_answer.specs.declared.status.Status.{Status}
use Rattle.ep_answer.specs.declared.answer.Stop.{Stop}
use Rattle.ep_answer.specs.declared.answer.Stop.TheVariants.{Told, OutOfMemory}
use Rattle.ep_planning.specs.Planning.{Guided}
use Rattle.ep_planning.specs.Trials.{Tries}
use Rattle.ep_reading.specs.Fetches.{Fetches, plan_files}
use Rattle.ep_reading.specs.Served.{Answers, Ending, TaskRead, answers}
use Rattle.ep_reading.specs.Steps.{EndsBy}
use Rattle.ep_cli.specs.Commands.{CommandWork, Work, files_of, word_at}

module _ (words : List (List ℕ)) (old new : LibraryState) (k d : Command) (is : k ≡ d) where
  of_command : Fetches (files_of words d) old new → Fetches (files_of words k) old new
  of_command h = subst (λ (k : Command). Fetches (files_of words k) old new) (sym is) h

pub fetches_task : (words : List (List ℕ)) (old new : LibraryState) (k d : Command) (file : List ℕ) → k ≡ d → files_of words d ≡ word_at words 1 ∷ []
    → file ≡ word_at words 1 → Fetches (file ∷ []) old new → Fetches (files_of words k) old new
fetches_task words old new k d file is all e h =
    of_command words old new k d is (subst (λ (l : List (List ℕ)). Fetches l old new) (sym all) (subst (λ (f : List ℕ). Fetches (f ∷ []) old new) e h))

pub fetches_plan : (words : List (List ℕ)) (old new : LibraryState) (k d : Command) (file plan : List ℕ) → k ≡ d → files_of words d ≡ word_at words 1 ∷ plan_files (word_at words 2)
    → file ≡ word_at words 1 → plan ≡ word_at words 2 → Fetches (file ∷ plan_files plan) old new → Fetches (files_of words k) old new
fetches_plan words old new k d file plan is all e p h =
    of_command words old new k d is
    (subst (λ (l : List (List ℕ)). Fetches l old new) (sym all) (subst (λ (f : List ℕ). Fetches (f ∷ plan_files (word_at words 2)) old new) e (subst (λ (p : List ℕ). Fetches (file ∷ plan_files p) old new) p h)))

pub fetches_two : (words : List (List ℕ)) (old new : LibraryState) (file one two : List ℕ) → file ≡ word_at words 1 → one ≡ word_at words 2 → two ≡ word_at words 3
    → Fetches (file ∷ (plan_files one ++ plan_files two)) old new → Fetches (word_at words 1 ∷ (plan_files (word_at words 2) ++ plan_files (word_at words 3))) old new
fetches_two words old new file one two e p q h =
    subst (λ (f : List ℕ). Fetches (f ∷ (plan_files (word_at words 2) ++ plan_files (word_at words 3))) old new) e
    (subst (λ (p : List ℕ). Fetches (file ∷ (plan_files p ++ plan_files (word_at words 3))) old new) p
    (subst (λ (q : List ℕ). Fetches (file ∷ (plan_files one ++ plan_files q)) old new) q h))

pub fetches_compared : (words : List (List ℕ)) (old new : LibraryState) (k d : Command) → k ≡ d → files_of words d ≡ word_at words 1 ∷ (plan_files (word_at words 2) ++ plan_files (word_at words 3))
    → Fetches (word_at words 1 ∷ (plan_files (word_at words 2) ++ plan_files (word_at words 3))) old new → Fetches (files_of words k) old new
fetches_compared words old new k d is all h = of_command words old new k d is (subst (λ (l : List (List ℕ)). Fetches l old new) (sym all) h)

-- ---- commands that name no file

abbrev NamesAFile : Command → Type 0
NamesAFile (command.Trial n) = ⊥
NamesAFile _ = ⊤

pub names_a_file : (words : List (List ℕ)) (k d : Command) → k ≡ d → NamesAFile d → files_of words k ≡ [] → ⊥
names_a_file words k d is some none = has_a_file d some (subst (λ (k : Command). files_of words k ≡ []) is none)
  where
    has_a_file : (d : Command) → NamesAFile d → files_of words d ≡ [] → ⊥
    has_a_file (command.Plan b guide mode) some e = cc
    has_a_file command.Validate some e = cc
    has_a_file command.Eval some e = cc
    has_a_file command.State some e = cc
    has_a_file command.Contract some e = cc
    has_a_file command.Same some e = cc
    has_a_file command.Check some e = cc
    has_a_file (command.Trial n) some e = absurd some
    has_a_file command.Apart some e = cc

tells_more : (work more : Ending → Type 0) (r : Result Answer Stop) → ((o : Ending) → work o → more o) → EndsBy work r → EndsBy more r
tells_more work more (Ok answer) f h = f (answers answer) h
tells_more work more (Err (Told answer)) f h = f (answers answer) h
tells_more work more (Err OutOfMemory) f h = h

-- a trial is answered so, whatever files there are
pub trial_of_any : (words : List (List ℕ)) (guides n : ℕ) (r : Result Answer Stop) (k : Command) → k ≡ command.Trial n
    → EndsBy (Guided guides 0 (TaskRead (trial_text n) (Tries n))) r → EndsBy (λ o. (files : FileMap) → CommandWork files words guides k o) r
trial_of_any words guides n r k is h =
    tells_more (Guided guides 0 (TaskRead (trial_text n) (Tries n))) (λ o. (files : FileMap) → CommandWork files words guides k o) r
    (λ o w files. subst (λ (k : Command). CommandWork files words guides k o) (sym is) w) h

-- ---- what is served by the status of an answer

pub served_by : (words : List (List ℕ)) (guides : ℕ) (held : Option FileMap) (s t : Status) (text : List ℕ) → s ≡ t
    → IfSome held (λ files. Work files words guides (Answers t text)) → IfSome held (λ files. Work files words guides (Answers s text))
served_by words guides held s t text e h = subst (λ (u : Status). IfSome held (λ files. Work files words guides (Answers u text))) (sym e) h
