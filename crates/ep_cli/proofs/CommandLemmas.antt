-- What a command answers, by its words.
use Rattle.std.proofs.Common.{◌≡◌, ◌≤◌, ℕ, List, Result, inl, inr, sym, subst, ◌∙◌}
use Rattle.ep_logic.specs.declared.ids.ActionId.{ActionId}
use Rattle.ep_ground.specs.Task.{GroundTask}
use Rattle.ep_io.specs.Library.{LibraryState}
use Rattle.ep_trial.specs.TrialText.{trial_text}
use Rattle.ep_words.specs.declared.command.Command.{Command}
use Rattle.ep_words.specs.declared.command.Command.TheVariants as command
use Rattle.ep_cli.specs.Commands.{CommandWork, ComparedWords, LacksGuide, Names, NamesOne, NamesTwo, word_at}
use Rattle.ep_planning.specs.Planning.{Guided, Plans}
use Rattle.ep_question.specs.Questions.{PlanWork, Contractions, Evals, States, Validates, TaskAndPlan}
use Rattle.ep_compare.specs.Comparing.{CompareWork, TaskAndPlans}
use Rattle.ep_compare.specs.declared.comparison.Comparison.{Comparison}
use Rattle.ep_answer.specs.declared.answer.Answer.{Answer}
use Rattle.ep_answer.specs.declared.answer.Stop.{Stop}
use Rattle.ep_answer.specs.declared.cause.Subject.{Subject}
use Rattle.ep_answer.specs.declared.cause.Subject.TheVariants.{Task}
use Rattle.ep_checking.specs.Checking.{Checks}
use Rattle.ep_planning.specs.Trials.{Tries}
use Rattle.ep_reading.specs.Served.{Ending, TaskFile, TaskRead}
use Rattle.ep_reading.specs.Steps.{OnlyFile, Serves, EndsBy}
use Rattle.ep_reading.proofs.CallerLemmas.{Serves-more}
use Rattle.ep_planning.proofs.CallerLemmas.{serves_told_guide, trial_is_behind}
use Rattle.ep_bounds.specs.declared.bounds.Bounds.{Bounds}
use Rattle.ep_bounds.specs.declared.bounds.Mode.{Mode}
use Rattle.ep_words.specs.declared.command.Command.TheVariants.{Plan, Check}

-- ---- the commands with one plan

one_names : (words : List (List ℕ)) (file plan : List ℕ) → file ≡ word_at words 1 → plan ≡ word_at words 2
    → (s : Subject) (name : List ℕ) → TaskAndPlan file plan s name → NamesOne words s name
one_names words file plan e p s name (inl o) = subst (λ t. NamesOne words t name) (sym o.0) (o.1 ∙ e)
one_names words file plan e p s name (inr o) = subst (λ t. NamesOne words t name) (sym o.0) (o.1.0 ∙ p, λ k. o.1.1 (p ∙ k))

pub serves_one : (words : List (List ℕ)) (file plan : List ℕ) (ask : GroundTask → List ActionId → Ending → Type 0) (old new : LibraryState) (r : Result Answer Stop)
    → file ≡ word_at words 1 → plan ≡ word_at words 2
    → Serves (λ files. PlanWork files file plan ask) (TaskAndPlan file plan) ⊥ old new r
    → Serves (λ files. PlanWork files (word_at words 1) (word_at words 2) ask) (NamesOne words) ⊥ old new r
serves_one words file plan ask old new r e p h =
    Serves-more (λ files. PlanWork files file plan ask) (λ files. PlanWork files (word_at words 1) (word_at words 2) ask) (TaskAndPlan file plan) (NamesOne words) ⊥ old new r
    (λ files o w. subst (λ f. PlanWork files f (word_at words 2) ask o) e (subst (λ p. PlanWork files file p ask o) p w)) (one_names words file plan e p) h

-- one command after the other, by its variant
abbrev pub ServesCommand : List (List ℕ) → ℕ → LibraryState → LibraryState → Result Answer Stop → Command → Type 0
ServesCommand words guides old new r k = Serves (λ files. CommandWork files words guides k) (Names words k) (LacksGuide guides k) old new r

pub serves_validate : (words : List (List ℕ)) (guides : ℕ) (file plan : List ℕ) (old new : LibraryState) (r : Result Answer Stop) (k : Command) → k ≡ command.Validate
    → file ≡ word_at words 1 → plan ≡ word_at words 2
    → Serves (λ files. PlanWork files file plan Validates) (TaskAndPlan file plan) ⊥ old new r → ServesCommand words guides old new r k
serves_validate words guides file plan old new r k is e p h = subst (ServesCommand words guides old new r) (sym is) (serves_one words file plan Validates old new r e p h)

pub serves_eval : (words : List (List ℕ)) (guides : ℕ) (file plan formula : List ℕ) (old new : LibraryState) (r : Result Answer Stop) (k : Command) → k ≡ command.Eval
    → file ≡ word_at words 1 → plan ≡ word_at words 2 → formula ≡ word_at words 3
    → Serves (λ files. PlanWork files file plan (Evals formula)) (TaskAndPlan file plan) ⊥ old new r → ServesCommand words guides old new r k
serves_eval words guides file plan formula old new r k is e p f h =
    let by_word = subst (λ f. Serves (λ files. PlanWork files file plan (Evals f)) (TaskAndPlan file plan) ⊥ old new r) f h in
    subst (ServesCommand words guides old new r) (sym is) (serves_one words file plan (Evals (word_at words 3)) old new r e p by_word)

pub serves_state : (words : List (List ℕ)) (guides : ℕ) (file plan : List ℕ) (old new : LibraryState) (r : Result Answer Stop) (k : Command) → k ≡ command.State
    → file ≡ word_at words 1 → plan ≡ word_at words 2
    → Serves (λ files. PlanWork files file plan States) (TaskAndPlan file plan) ⊥ old new r → ServesCommand words guides old new r k
serves_state words guides file plan old new r k is e p h = subst (ServesCommand words guides old new r) (sym is) (serves_one words file plan States old new r e p h)

pub serves_contract : (words : List (List ℕ)) (guides : ℕ) (file plan : List ℕ) (old new : LibraryState) (r : Result Answer Stop) (k : Command) → k ≡ command.Contract
    → file ≡ word_at words 1 → plan ≡ word_at words 2
    → Serves (λ files. PlanWork files file plan Contractions) (TaskAndPlan file plan) ⊥ old new r → ServesCommand words guides old new r k
serves_contract words guides file plan old new r k is e p h = subst (ServesCommand words guides old new r) (sym is) (serves_one words file plan Contractions old new r e p h)

-- ---- check

only_task : (words : List (List ℕ)) (file : List ℕ) → file ≡ word_at words 1 → (s : Subject) (name : List ℕ) → OnlyFile Task file s name → Names words Check s name
only_task words file e s name p = subst (λ t. Names words Check t name) (sym p.0) (p.1 ∙ e)

pub serves_check : (words : List (List ℕ)) (guides : ℕ) (file : List ℕ) (old new : LibraryState) (r : Result Answer Stop) → file ≡ word_at words 1
    → Serves (λ files. TaskFile files file Checks) (OnlyFile Task file) ⊥ old new r
    → Serves (λ files. CommandWork files words guides Check) (Names words Check) ⊥ old new r
serves_check words guides file old new r e h =
    Serves-more (λ files. TaskFile files file Checks) (λ files. CommandWork files words guides Check) (OnlyFile Task file) (Names words Check) ⊥ old new r
    (λ files o w. subst (λ f. TaskFile files f Checks o) e w) (only_task words file e) h

pub serves_check_command : (words : List (List ℕ)) (guides : ℕ) (file : List ℕ) (old new : LibraryState) (r : Result Answer Stop) (k : Command) → k ≡ command.Check
    → file ≡ word_at words 1 → Serves (λ files. TaskFile files file Checks) (OnlyFile Task file) ⊥ old new r → ServesCommand words guides old new r k
serves_check_command words guides file old new r k is e h = subst (ServesCommand words guides old new r) (sym is) (serves_check words guides file old new r e h)

-- ---- same and apart

two_names : (words : List (List ℕ)) (file one two : List ℕ) → file ≡ word_at words 1 → one ≡ word_at words 2 → two ≡ word_at words 3
    → (s : Subject) (name : List ℕ) → TaskAndPlans file one two s name → NamesTwo words s name
two_names words file one two e p q s name (inl o) = subst (λ t. NamesTwo words t name) (sym o.0) (o.1 ∙ e)
two_names words file one two e p q s name (inr (inl o)) = subst (λ t. NamesTwo words t name) (sym o.0) (o.1.0 ∙ p, λ k. o.1.1 (p ∙ k))
two_names words file one two e p q s name (inr (inr o)) = subst (λ t. NamesTwo words t name) (sym o.0) (o.1.0 ∙ q, λ k. o.1.1 (q ∙ k))

pub serves_two : (words : List (List ℕ)) (comparison : Comparison) (file one two : List ℕ) (old new : LibraryState) (r : Result Answer Stop)
    → file ≡ word_at words 1 → one ≡ word_at words 2 → two ≡ word_at words 3
    → Serves (λ files. CompareWork files comparison file one two) (TaskAndPlans file one two) ⊥ old new r
    → Serves (λ files. ComparedWords files words comparison) (NamesTwo words) ⊥ old new r
serves_two words comparison file one two old new r e p q h =
    Serves-more (λ files. CompareWork files comparison file one two) (λ files. ComparedWords files words comparison) (TaskAndPlans file one two) (NamesTwo words) ⊥ old new r
    (λ files o w. subst (λ f. CompareWork files comparison f (word_at words 2) (word_at words 3) o) e (subst (λ p. CompareWork files comparison file p (word_at words 3) o) p (subst (λ q. CompareWork files comparison file one q o) q w)))
    (two_names words file one two e p q) h

pub serves_same : (words : List (List ℕ)) (guides : ℕ) (old new : LibraryState) (r : Result Answer Stop) (k : Command) → k ≡ command.Same
    → Serves (λ files. ComparedWords files words Comparison.Same) (NamesTwo words) ⊥ old new r → ServesCommand words guides old new r k
serves_same words guides old new r k is h = subst (ServesCommand words guides old new r) (sym is) h

pub serves_apart : (words : List (List ℕ)) (guides : ℕ) (old new : LibraryState) (r : Result Answer Stop) (k : Command) → k ≡ command.Apart
    → Serves (λ files. ComparedWords files words Comparison.Apart) (NamesTwo words) ⊥ old new r → ServesCommand words guides old new r k
serves_apart words guides old new r k is h = subst (ServesCommand words guides old new r) (sym is) h

-- ---- plan and trial

pub serves_plan : (words : List (List ℕ)) (guides : ℕ) (b : Bounds) (guide : ℕ) (mode : Mode) (file : List ℕ) (old new : LibraryState) (r : Result Answer Stop) (k : Command) → k ≡ Plan b guide mode → file ≡ word_at words 1
    → Serves (λ files. Guided guides guide (TaskFile files file (Plans b mode))) (OnlyFile Task file) (guides ≤ guide) old new r
    → Serves (λ files. CommandWork files words guides k) (Names words k) (LacksGuide guides k) old new r
serves_plan words guides b guide mode file old new r k is e h =
    subst (λ (k : Command). Serves (λ files. CommandWork files words guides k) (Names words k) (LacksGuide guides k) old new r) (sym is)
    (Serves-more (λ files. Guided guides guide (TaskFile files file (Plans b mode))) (λ files. CommandWork files words guides (Plan b guide mode)) (OnlyFile Task file) (Names words (Plan b guide mode)) (guides ≤ guide) old new r
    (λ files o w. subst (λ f. Guided guides guide (TaskFile files f (Plans b mode)) o) e w) (λ s name p. subst (λ t. Names words (Plan b guide mode) t name) (sym p.0) (p.1 ∙ e)) h)

pub serves_trial : (words : List (List ℕ)) (guides n : ℕ) (library : LibraryState) (r : Result Answer Stop) (k : Command) → k ≡ command.Trial n
    → EndsBy (Guided guides 0 (TaskRead (trial_text n) (Tries n))) r → ServesCommand words guides library library r k
serves_trial words guides n library r k is h =
    subst (ServesCommand words guides library library r) (sym is)
    (serves_told_guide guides (TaskRead (trial_text n) (Tries n)) (Names words (command.Trial n)) library r (trial_is_behind n (trial_text n)) h)
