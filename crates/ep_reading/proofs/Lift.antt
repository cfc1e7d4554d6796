-- From the answer of a step to the answer of its command.
use Rattle.std.proofs.Common.{◌≡◌, ◌≤◌, ◌↔◌, ◌+◌, ◌-◌, ◌^◌, min, ℕ, List, length, IfSome, IfNone, IsSome, Option, Some, None, MatchOption, Result, inl, inr, sym, subst, arith}
use Rattle.std.proofs.lemmas.Result.{MatchResult-weaker}
use Rattle.ep_io.specs.Library.{LibraryState, FileMap, file_of}
use Rattle.ep_tree.specs.declared.tree.TaskTree.{TaskTree}
use Rattle.ep_lex.specs.Tokens.{Lexed}
use Rattle.ep_types.specs.Faults.{first_fault}
use Rattle.ep_types.specs.Tasks.{declarations, task_uses}
use Rattle.ep_types.specs.declared.fault.TypeFault.{TypeFault}
use Rattle.ep_ground.specs.Task.{GroundTask}
use Rattle.ep_ground.specs.Grounding.{fault_of, task_of}
use Rattle.ep_ground.specs.declared.fault.GroundError.{GroundError}
use Rattle.ep_ground.specs.declared.fault.GroundError.TheVariants as fault
use Rattle.ep_ground.specs.declared.fault.S5Place.TheVariants as place
use Rattle.ep_answer.specs.declared.answer.Answer.{Answer}
use Rattle.ep_answer.specs.declared.answer.Answer.TheVariants.{Refused}
use Rattle.ep_answer.specs.declared.answer.Stop.{Stop}
use Rattle.ep_answer.specs.declared.answer.Stop.TheVariants.{Told, OutOfMemory}
use Rattle.ep_answer.specs.declared.cause.Cause.{Cause}
use Rattle.ep_answer.specs.declared.cause.Cause.TheVariants as cause
use Rattle.ep_answer.specs.declared.cause.Subject.{Subject}
use Rattle.ep_answer.specs.declared.cause.Subject.TheVariants.{Task}
use Rattle.ep_answer.specs.declared.status.Status.{Status}
use Rattle.ep_answer.specs.declared.status.Status.TheVariants as done
use Rattle.ep_answer.specs.Answer.{answer_status, answer_text}
use Rattle.ep_reading.specs.Run.{GoesOn, IsAnswerOf}
use Rattle.ep_reading.specs.Served.{Ending, Answers, StopsAt, Sized, Fetched, TaskRead, TaskFile, TellsCause, Grounded, answers, place_at}
use Rattle.ep_reading.specs.Steps.{OnlyFile, IsFetched, IsTaskFile, StopsAtFetch, StopsAtTask, Serves, StopsAnswer, StopsBy, StopsWork, nothing_behind}
use Rattle.ep_reading.proofs.Steps.{Fetched-weaker, TaskRead-weaker, TaskRead-behind}
use Rattle.ep_reading.specs.Guides.{AnswerNeeds, NeedsGuide, StopNeeds}
use Rattle.ep_reading.proofs.Told.{IsBehind, IsBehindFetch, refusal_is_behind, text_cause_behind}
use Rattle.ep_base.specs.Counts.{Rose, RoseBeyond}
use Rattle.ep_lex.specs.declared.limits.TheConstants.{MOST_BYTES}

pub some_map : {A : Type 0} {P Q : A → Type 0} (o : Option A) → ((x : A) → P x → Q x) → IfSome o P → IfSome o Q
some_map None f h = h
some_map (Some x) f h = f x h

both_map : {A : Type 0} {P Q R : A → Type 0} (o : Option A) → ((x : A) → P x → Q x → R x) → IfSome o P → IfSome o Q → IfSome o R
both_map None f h k = h
both_map (Some x) f h k = f x h k

-- ---- answers of more work

-- what one work may end with the other may, over what the library holds
pub IsAnswerOf-held : (work more : FileMap → Ending → Type 0) (names others : Subject → List ℕ → Type 0) (one other : Type 0)
    (old new : LibraryState) (status : Status) (text : List ℕ) → (one ↔ other)
    → IfSome old.held (λ files. (o : Ending) → work files o → more files o) → ((s : Subject) (name : List ℕ) → names s name → others s name)
    → IsAnswerOf work names one old new status text → IsAnswerOf more others other old new status text
IsAnswerOf-held work more names others one other old new status text m f g h = record {
  possible = h.possible;
  usage = (λ e. m.0 (h.usage.0 e), λ o. h.usage.1 (m.1 o));
  served = λ n. both_map old.held (λ files k w. k (Answers status text) w) f (h.served n);
  fault = λ e. let p = h.fault e in (
    p.0,
    p.1,
    record {
      since = p.2.since;
      named = g p.0 p.1 p.2.named;
      blamed = p.2.blamed;
      told = p.2.told;
      first = both_map old.held (λ files k w. k (StopsAt p.0 p.1) w) f p.2.first;
    },
  );
  missing = h.missing;
  too_long = h.too_long;
}

pub all_held : {P : FileMap → Type 0} (held : Option FileMap) → ((files : FileMap) → P files) → IfSome held P
all_held None f = tt
all_held (Some files) f = f files

pub StopsWork-more : (work more : FileMap → Ending → Type 0) (names others : Subject → List ℕ → Type 0) (old new : LibraryState) (stop : Stop)
    → ((files : FileMap) (o : Ending) → work files o → more files o) → ((s : Subject) (name : List ℕ) → names s name → others s name)
    → StopsWork work names old new stop → StopsWork more others old new stop
StopsWork-more work more names others old new (Told answer) f g h =
    IsAnswerOf-held work more names others ⊥ ⊥ old new (answer_status answer) (answer_text answer) (λ x. x, λ x. x) (all_held old.held f) g h
StopsWork-more work more names others old new OutOfMemory f g h = h

-- what is told behind the fetches is the answer
pub behind_is_answer : (work : FileMap → Ending → Type 0) (names : Subject → List ℕ → Type 0) (old new : LibraryState) (status : Status) (text : List ℕ)
    → IsBehind status text → IfSome old.held (λ files. work files (Answers status text)) → IsAnswerOf work names ⊥ old new status text
behind_is_answer work names old new status text b h = record {
  possible = b.written;
  usage = (λ e. b.no_usage e, λ x. absurd x);
  served = λ n. h;
  fault = λ e. absurd (b.no_fault e);
  missing = λ s e. absurd (b.not_missing s e);
  too_long = λ s f e. absurd (b.not_long s f e);
}

-- ---- refusals of the reading of a task

-- what follows from a refusal behind the fetch
abbrev pub FromRefusal : Status → List ℕ → Type 0 → Type 0
FromRefusal status text R = (c : Cause) → IsBehindFetch c → Answers status text ≡ answers (Refused Task c) → R

module _ (status : Status) (text : List ℕ) (R : Type 0) (refused : FromRefusal status text R) where
  by_cause : (found : Lexed) (e : GroundError) → TellsCause found e (Answers status text) → R
  by_cause found (fault.TooManyObjects n) h = refused (cause.TooManyObjects n) tt (subst (λ c. Answers status text ≡ answers (Refused Task c)) h.1 h.2)
  by_cause found fault.NoAgent h = refused cause.NoAgent tt (subst (λ c. Answers status text ≡ answers (Refused Task c)) h.1 h.2)
  by_cause found (fault.TooManyAgents n) h = refused (cause.TooManyAgents n) tt (subst (λ c. Answers status text ≡ answers (Refused Task c)) h.1 h.2)
  by_cause found (fault.TooManyAtoms n) h = refused (cause.TooManyAtoms n) tt (subst (λ c. Answers status text ≡ answers (Refused Task c)) h.1 h.2)
  by_cause found (fault.TooManyActions n) h = refused (cause.TooManyActions n) tt (subst (λ c. Answers status text ≡ answers (Refused Task c)) h.1 h.2)
  by_cause found (fault.TooManyEvents s n) h = refused (cause.TooManyEvents n) tt (subst (λ c. Answers status text ≡ answers (Refused Task c)) h.1 h.2)
  by_cause found (fault.TooLargeFormula t) h = refused (cause.TooLarge (place_at found t)) tt (subst (λ c. Answers status text ≡ answers (Refused Task c)) h.1 h.2)
  by_cause found (fault.TooLargeTask n) h = refused (cause.TooLargeTask n) tt (subst (λ c. Answers status text ≡ answers (Refused Task c)) h.1 h.2)
  by_cause found (fault.AtomTwice name) h = refused (cause.AtomTwice name) tt (subst (λ c. Answers status text ≡ answers (Refused Task c)) h.1 h.2)
  by_cause found (fault.TooManyVaried n) h = refused (cause.TooManyVaried n) tt (subst (λ c. Answers status text ≡ answers (Refused Task c)) h.1 h.2)
  by_cause found (fault.TooManyWorlds n) h = refused (cause.TooManyWorlds n) tt (subst (λ c. Answers status text ≡ answers (Refused Task c)) h.1 h.2)
  by_cause found fault.NoDesignated h = refused cause.NoDesignated tt (subst (λ c. Answers status text ≡ answers (Refused Task c)) h.1 h.2)
  by_cause found (fault.NotS5 place.Initial agent) h = refused (cause.NotS5Initial agent) tt (subst (λ c. Answers status text ≡ answers (Refused Task c)) h.1 h.2)
  by_cause found (fault.NotS5 (place.Action action) agent) h = refused (cause.NotS5Action action agent) tt (subst (λ c. Answers status text ≡ answers (Refused Task c)) h.1 h.2)
  by_cause found fault.OutOfMemory h = absurd h.1

  by_ground : (found : Lexed) (tree : TaskTree) (P : GroundTask → Ending → Type 0) (first : Option GroundError) → ((g : GroundTask) → P g (Answers status text) → R)
      → MatchOption first (P (task_of tree) (Answers status text)) (λ e. TellsCause found e (Answers status text)) → R
  by_ground found tree P None f h = f (task_of tree) h
  by_ground found tree P (Some e) f h = by_cause found e h

  by_types : (found : Lexed) (tree : TaskTree) (P : GroundTask → Ending → Type 0) (first : Option (TypeFault × ℕ)) → ((g : GroundTask) → P g (Answers status text) → R)
      → MatchOption first (Grounded found tree P (Answers status text)) (λ fault. Answers status text ≡ answers (Refused Task (cause.Mistyped fault.0 (place_at found fault.1)))) → R
  by_types found tree P None f h = by_ground found tree P (fault_of (declarations tree) tree) f h
  by_types found tree P (Some fault) f h = refused (cause.Mistyped fault.0 (place_at found fault.1)) tt h

  -- the text is refused, or what stands behind the reading is told
  pub by_reading : (bytes : List ℕ) (P : GroundTask → Ending → Type 0) → ((g : GroundTask) → P g (Answers status text) → R) → TaskRead bytes P (Answers status text) → R
  unfolding TaskRead
  by_reading bytes P f (inl fault) = refused fault.cause (text_cause_behind fault.error fault.cause fault.is_cause) fault.told
  by_reading bytes P f (inr (found, tree, is, h)) = by_types found tree P (first_fault (task_uses tree)) f h

pub read_is_behind : (bytes : List ℕ) (P : GroundTask → Ending → Type 0) (status : Status) (text : List ℕ)
    → ((g : GroundTask) → P g (Answers status text) → IsBehind status text)
    → TaskRead bytes P (Answers status text) → IsBehind status text
read_is_behind bytes P status text f h = by_reading status text (IsBehind status text) (λ c b e. refusal_is_behind status text Task c b e) bytes P f h

needs_none : (status : Status) (text : List ℕ) (c : Cause) → Answers status text ≡ answers (Refused Task c) → NeedsGuide status text → ⊥
needs_none status text c e n = let p : status ≡ done.Refused = cc in absurd (subst (λ s. NeedsGuide s text) p n)

-- a refusal rests on no guide
pub read_needs_none : (bytes : List ℕ) (stop : Stop) → StopsBy (TaskRead bytes nothing_behind) stop → StopNeeds stop → ⊥
unfolding AnswerNeeds
read_needs_none bytes (Told answer) h n =
    by_reading (answer_status answer) (answer_text answer) ⊥ (λ c b e. needs_none (answer_status answer) (answer_text answer) c e n) bytes nothing_behind (λ g none. absurd none) h
read_needs_none bytes OutOfMemory h n = absurd n

-- ---- the ground task of a file

-- the file's bytes are these, and what is read of them is what is read of the file
pub file_read : (held : Option FileMap) (s : Subject) (name bytes : List ℕ) (next : List ℕ → Ending → Type 0) (o : Ending)
    → (length bytes ≤ MOST_BYTES) × IfSome held (λ files. file_of files name ≡ Some bytes) → next bytes o → IfSome held (λ files. Fetched files s name next o)
file_read held s name bytes next o fetched h =
    let M : Option (List ℕ) → Type 0 = λ f. MatchOption f (o ≡ answers (Refused s cause.NoSuchFile)) (λ b. Sized s b next o) in
    some_map held (λ files is. inr (subst M (sym is) (inr (fetched.0, h)))) fetched.1

pub stops_at_fetch : (old new : LibraryState) (file : List ℕ) (stop : Stop) → StopsAtFetch old new Task file stop → StopsAtTask old new file stop
stops_at_fetch old new file stop h =
    StopsWork-more (λ files. Fetched files Task file nothing_behind) (λ files. TaskFile files file nothing_behind) (OnlyFile Task file) (OnlyFile Task file) old new stop
    (λ files o w. Fetched-weaker files Task file nothing_behind (λ bytes. TaskRead bytes nothing_behind) o (λ bytes none. absurd none) w)
    (λ s name n. n) h

pub stops_at_read : (old new : LibraryState) (file bytes : List ℕ) (stop : Stop)
    → IsFetched old file bytes → StopsBy (TaskRead bytes nothing_behind) stop → StopsAtTask old new file stop
stops_at_read old new file bytes (Told answer) fetched h =
    behind_is_answer (λ files. TaskFile files file nothing_behind) (OnlyFile Task file) old new (answer_status answer) (answer_text answer)
    (read_is_behind bytes nothing_behind (answer_status answer) (answer_text answer) (λ g none. absurd none) h)
    (file_read old.held Task file bytes (λ bytes. TaskRead bytes nothing_behind) (answers answer) fetched h)
stops_at_read old new file bytes OutOfMemory fetched h = h

-- the work behind the ground task of the file
pub task_then : (library : LibraryState) (file : List ℕ) (g : GroundTask) (work : FileMap → Ending → Type 0) (P : FileMap → GroundTask → Ending → Type 0)
    → IsTaskFile library file g → ((files : FileMap) (o : Ending) → work files o → P files g o)
    → IfSome library.held (λ files. (o : Ending) → work files o → TaskFile files file (P files) o)
task_then library file g work P t f =
    let M : FileMap → Ending → Option (List ℕ) → Type 0 = λ files o found. MatchOption found (o ≡ answers (Refused Task cause.NoSuchFile)) (λ b. Sized Task b (λ c. TaskRead c (P files)) o) in
    some_map library.held (λ files is o w. inr (subst (M files o) (sym is) (inr (t.fetched.0, TaskRead-behind t.bytes g (P files) o t.is_task (f files o w))))) t.fetched.1

-- a command that stops at its task
pub stops_at_task : (old new : LibraryState) (file : List ℕ) (P : FileMap → GroundTask → Ending → Type 0) (names : Subject → List ℕ → Type 0) (stop : Stop)
    → ((s : Subject) (name : List ℕ) → OnlyFile Task file s name → names s name)
    → StopsAtTask old new file stop → StopsWork (λ files. TaskFile files file (P files)) names old new stop
stops_at_task old new file P names stop f h =
    StopsWork-more (λ files. TaskFile files file nothing_behind) (λ files. TaskFile files file (P files)) (OnlyFile Task file) names old new stop
    (λ files o w. Fetched-weaker files Task file (λ bytes. TaskRead bytes nothing_behind) (λ bytes. TaskRead bytes (P files)) o (λ bytes r. TaskRead-weaker bytes nothing_behind (P files) o (λ g none. absurd none) r) w)
    f h

-- a command that ends with an answer for its task
pub ends_with : (old new : LibraryState) (file : List ℕ) (g : GroundTask) (P : GroundTask → Ending → Type 0) (names : Subject → List ℕ → Type 0) (answer : Answer)
    → IsTaskFile old file g → P g (answers answer) → IsBehind (answer_status answer) (answer_text answer)
    → IsAnswerOf (λ files. TaskFile files file P) names ⊥ old new (answer_status answer) (answer_text answer)
ends_with old new file g P names answer t h b =
    behind_is_answer (λ files. TaskFile files file P) names old new (answer_status answer) (answer_text answer) b
    (some_map old.held (λ files k. k (answers answer) h) (task_then old file g (λ files o. P g o) (λ files. P) t (λ files o w. w)))

-- ---- work behind other work on the library

less_min : (a b : ℕ) (c : ℕ) → a ≤ b → min a c ≤ min b c
less_min a b c h = grind arith

-- what the library did before is part of it
pub later : (work : FileMap → Ending → Type 0) (names : Subject → List ℕ → Type 0) (old mid new : LibraryState) (status : Status) (text : List ℕ)
    → GoesOn old mid → IsAnswerOf work names ⊥ mid new status text → IsAnswerOf work names ⊥ old new status text
later work names old mid new status text on h = record {
  possible = h.possible;
  usage = h.usage;
  served = λ n. subst (λ held. IfSome held (λ files. work files (Answers status text))) on.held (h.served n);
  fault = λ e. let p = h.fault e in (
    p.0,
    p.1,
    record {
      since = since_before old.faults mid.faults new.faults on.faults p.2.since;
      named = p.2.named;
      blamed = p.2.blamed;
      told = p.2.told;
      first = subst (λ held. IfSome held (λ files. work files (StopsAt p.0 p.1))) on.held p.2.first;
    },
  );
  missing = λ s e. subst IsSome on.held (h.missing s e);
  too_long = λ s f e. subst (λ held. IfNone held (RoseBeyond MOST_BYTES new.started new.taken)) on.held (h.too_long s f e);
}
  where
    since_before : (a b c : ℕ) → a ≤ b → Rose b c → Rose a c
    since_before a b c l h = let m = less_min (a + 1) (b + 1) (2 ^ 64 - 1) (omega (arith, l)) in omega (arith, m, h)

-- ---- commands

StopsAnswer-more : (work more : FileMap → Ending → Type 0) (names others : Subject → List ℕ → Type 0) (misuse : Type 0) (old new : LibraryState) (stop : Stop)
    → ((files : FileMap) (o : Ending) → work files o → more files o) → ((s : Subject) (name : List ℕ) → names s name → others s name)
    → StopsAnswer work names misuse old new stop → StopsAnswer more others misuse old new stop
StopsAnswer-more work more names others misuse old new (Told answer) f g h =
    IsAnswerOf-held work more names others misuse misuse old new (answer_status answer) (answer_text answer) (λ x. x, λ x. x) (all_held old.held f) g h
StopsAnswer-more work more names others misuse old new OutOfMemory f g h = h

pub Serves-more : (work more : FileMap → Ending → Type 0) (names others : Subject → List ℕ → Type 0) (misuse : Type 0) (old new : LibraryState) (r : Result Answer Stop)
    → ((files : FileMap) (o : Ending) → work files o → more files o) → ((s : Subject) (name : List ℕ) → names s name → others s name)
    → Serves work names misuse old new r → Serves more others misuse old new r
Serves-more work more names others misuse old new r f g h =
    MatchResult-weaker r h
    (λ answer k. IsAnswerOf-held work more names others misuse misuse old new (answer_status answer) (answer_text answer) (λ x. x, λ x. x) (all_held old.held f) g k)
    (λ stop k. StopsAnswer-more work more names others misuse old new stop f g k)
