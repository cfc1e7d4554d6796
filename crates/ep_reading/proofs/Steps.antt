-- How a step of the work goes on, and how it ends the work.
use Rattle.std.proofs.Common.{◌≡◌, ℕ, List, Option, Some, None, MatchOption, option_map, ◌⊎◌, inl, inr, sym, ap, subst}
use Rattle.ep_lex.specs.Tokens.{Lexed}
use Rattle.ep_reader.specs.Texts.{IsTextOf, IsTextFault}
use Rattle.ep_reader.specs.declared.text.TextError.{TextError}
use Rattle.ep_reader.specs.declared.text.TextError.TheVariants as text
use Rattle.ep_tree.specs.Formed.{IsFormedTask}
use Rattle.ep_tree.specs.Marks.{IsShallow}
use Rattle.ep_tree.specs.Grammar.{Grammar, tasks}
use Rattle.ep_tree.specs.declared.tree.TaskTree.{TaskTree}
use Rattle.ep_types.specs.Places.{Uses}
use Rattle.ep_types.specs.Faults.{error_at, first_error, first_fault}
use Rattle.ep_types.specs.Tasks.{HasNoFault, declarations, task_uses}
use Rattle.ep_types.specs.declared.fault.TypeFault.{TypeFault}
use Rattle.ep_types.specs.declared.fault.TypeError.TheVariants as type_error
use Rattle.ep_types.specs.declared.fault.TypeError.TheVariants.{At}
use Rattle.ep_base.specs.Refusals.{Reports}
use Rattle.ep_ground.specs.Task.{GroundTask}
use Rattle.ep_tree.specs.Grammar.{IsRead}
use Rattle.ep_tree.proofs.CallerLemmas.{is_read}
use Rattle.ep_ground.specs.Grounding.{fault_of, task_of}
use Rattle.ep_ground.specs.declared.fault.GroundError.{GroundError}
use Rattle.ep_ground.specs.declared.fault.GroundError.TheVariants as fault
use Rattle.ep_io.specs.Library.{FileMap, file_of}
use Rattle.ep_answer.specs.declared.answer.Answer.TheVariants.{Refused}
use Rattle.ep_answer.specs.declared.answer.Stop.{Stop}
use Rattle.ep_answer.specs.declared.answer.Stop.TheVariants.{Told, OutOfMemory}
use Rattle.ep_answer.specs.declared.cause.Cause.TheVariants as cause
use Rattle.ep_answer.specs.declared.cause.Subject.{Subject}
use Rattle.ep_answer.specs.declared.cause.Subject.TheVariants.{Task}
use Rattle.ep_reading.specs.Served.{Ending, Sized, Fetched, IsTextCause, Parsed, WellTyped, TellsCause, Grounded, TaskRead, answers, place_at}
use Rattle.ep_reading.specs.Steps.{IsTreeOf, IsTaskOf, StopsAtText, StopsBy, nothing_behind}

-- ---- what may stand behind a step

pub Sized-weaker : (s : Subject) (bytes : List ℕ) (P Q : List ℕ → Ending → Type 0) (o : Ending)
    → ((b : List ℕ) → P b o → Q b o) → Sized s bytes P o → Sized s bytes Q o
Sized-weaker s bytes P Q o f (inl long) = inl long
Sized-weaker s bytes P Q o f (inr p) = inr (p.0, f bytes p.1)

fetched_option : (s : Subject) (P Q : List ℕ → Ending → Type 0) (o : Ending) (file : Option (List ℕ))
    → ((b : List ℕ) → P b o → Q b o)
    → MatchOption file (o ≡ answers (Refused s cause.NoSuchFile)) (λ bytes. Sized s bytes P o)
    → MatchOption file (o ≡ answers (Refused s cause.NoSuchFile)) (λ bytes. Sized s bytes Q o)
fetched_option s P Q o None f e = e
fetched_option s P Q o (Some bytes) f h = Sized-weaker s bytes P Q o f h

pub Fetched-weaker : (files : FileMap) (s : Subject) (name : List ℕ) (P Q : List ℕ → Ending → Type 0) (o : Ending)
    → ((b : List ℕ) → P b o → Q b o) → Fetched files s name P o → Fetched files s name Q o
Fetched-weaker files s name P Q o f (inl stops) = inl stops
Fetched-weaker files s name P Q o f (inr h) = inr (fetched_option s P Q o (file_of files name) f h)

pub Parsed-weaker : {A : Type 0} (kind : Grammar A) (s : Subject) (bytes : List ℕ) (P Q : Lexed → A → Ending → Type 0) (o : Ending)
    → ((found : Lexed) (tree : A) → IsTextOf kind bytes found tree → P found tree o → Q found tree o)
    → Parsed kind s bytes P o → Parsed kind s bytes Q o
Parsed-weaker kind s bytes P Q o f (inl fault) = inl fault
Parsed-weaker kind s bytes P Q o f (inr p) = inr (p.0, p.1, p.2, f p.0 p.1 p.2 p.3)

-- the fault that is told is the text's
pub parsed_fault : {A : Type 0} (kind : Grammar A) (s : Subject) (bytes : List ℕ) (P : Lexed → A → Ending → Type 0) (e : TextError) (stop : Stop)
    → (e ≡ text.OutOfMemory) ⊎ IsTextFault kind bytes e → StopsAtText e s stop → StopsBy (Parsed kind s bytes P) stop
parsed_fault kind s bytes P e (Told answer) (inl want) h = absurd (subst (λ z. IsTextCause z h.0) want h.1)
parsed_fault kind s bytes P e (Told answer) (inr fault) h = inl (record { error = e; fault = fault; cause = h.0; is_cause = h.1; told = h.2 })
parsed_fault kind s bytes P e OutOfMemory f h = tt

judged_option : (s : Subject) (found : Lexed) (first : Option (TypeFault × ℕ)) (P Q : Ending → Type 0) (o : Ending) → (P o → Q o)
    → MatchOption first (P o) (λ fault. o ≡ answers (Refused s (cause.Mistyped fault.0 (place_at found fault.1))))
    → MatchOption first (Q o) (λ fault. o ≡ answers (Refused s (cause.Mistyped fault.0 (place_at found fault.1))))
judged_option s found None P Q o f h = f h
judged_option s found (Some fault) P Q o f h = h

pub WellTyped-weaker : (s : Subject) (found : Lexed) (uses : Uses) (P Q : Ending → Type 0) (o : Ending) → (P o → Q o)
    → WellTyped s found uses P o → WellTyped s found uses Q o
WellTyped-weaker s found uses P Q o f h = judged_option s found (first_fault uses) P Q o f h

-- ---- the ground task of a tree

ground_option : (found : Lexed) (tree : TaskTree) (first : Option GroundError) (P Q : GroundTask → Ending → Type 0) (o : Ending) → ((g : GroundTask) → P g o → Q g o)
    → MatchOption first (P (task_of tree) o) (λ e. TellsCause found e o) → MatchOption first (Q (task_of tree) o) (λ e. TellsCause found e o)
ground_option found tree None P Q o f h = f (task_of tree) h
ground_option found tree (Some e) P Q o f h = h

pub Grounded-weaker : (found : Lexed) (tree : TaskTree) (P Q : GroundTask → Ending → Type 0) (o : Ending) → ((g : GroundTask) → P g o → Q g o)
    → Grounded found tree P o → Grounded found tree Q o
Grounded-weaker found tree P Q o f h = ground_option found tree (fault_of (declarations tree) tree) P Q o f h

pub Grounded-behind : (found : Lexed) (tree : TaskTree) (g : GroundTask) (P : GroundTask → Ending → Type 0) (o : Ending)
    → fault_of (declarations tree) tree ≡ None → g ≡ task_of tree → P g o → Grounded found tree P o
Grounded-behind found tree g P o none whole h =
    let M : Option GroundError → Type 0 = λ first. MatchOption first (P (task_of tree) o) (λ e. TellsCause found e o) in
    subst M (sym none) (subst (λ t. P t o) whole h)

-- the fault that is told is the tree's
pub grounded_fault : (found : Lexed) (tree : TaskTree) (e : GroundError) (stop : Stop)
    → (e ≡ fault.OutOfMemory) ⊎ (fault_of (declarations tree) tree ≡ Some e) → StopsBy (TellsCause found e) stop → StopsBy (Grounded found tree nothing_behind) stop
grounded_fault found tree e (Told answer) (inl none) h = absurd (subst (λ e. TellsCause found e (answers answer)) none h).1
grounded_fault found tree e (Told answer) (inr is) h =
    let M : Option GroundError → Type 0 = λ first. MatchOption first (nothing_behind (task_of tree) (answers answer)) (λ e. TellsCause found e (answers answer)) in
    subst M (sym is) h
grounded_fault found tree e OutOfMemory is h = tt

-- ---- the task of some bytes

abbrev Typed : Lexed → (GroundTask → Ending → Type 0) → TaskTree → Ending → Type 0
Typed found P tree = WellTyped Task found (task_uses tree) (Grounded found tree P)

pub TaskRead-weaker : (bytes : List ℕ) (P Q : GroundTask → Ending → Type 0) (o : Ending)
    → ((g : GroundTask) → P g o → Q g o) → TaskRead bytes P o → TaskRead bytes Q o
unfolding TaskRead
TaskRead-weaker bytes P Q o f h =
    Parsed-weaker tasks Task bytes (λ found. Typed found P) (λ found. Typed found Q) o
    (λ found tree is. WellTyped-weaker Task found (task_uses tree) (Grounded found tree P) (Grounded found tree Q) o (Grounded-weaker found tree P Q o f)) h

judged_none : (found : Lexed) (tree : TaskTree) (P : GroundTask → Ending → Type 0) (o : Ending) → HasNoFault tree → Grounded found tree P o → Typed found P tree o
judged_none found tree P o none h =
    let M : Option (TypeFault × ℕ) → Type 0 = λ first. MatchOption first (Grounded found tree P o) (λ fault. o ≡ answers (Refused Task (cause.Mistyped fault.0 (place_at found fault.1)))) in
    subst M (sym none) h

pub TaskRead-tree : (bytes : List ℕ) (found : Lexed) (tree : TaskTree) (P : GroundTask → Ending → Type 0) (o : Ending)
    → IsTreeOf bytes found tree → Grounded found tree P o → TaskRead bytes P o
unfolding TaskRead
TaskRead-tree bytes found tree P o t h = inr (found, tree, t.text, judged_none found tree P o t.typed h)

pub TaskRead-behind : (bytes : List ℕ) (g : GroundTask) (P : GroundTask → Ending → Type 0) (o : Ending) → IsTaskOf bytes g → P g o → TaskRead bytes P o
TaskRead-behind bytes g P o t h =
    TaskRead-tree bytes t.found t.tree P o t.is_tree (Grounded-behind t.found t.tree g P o t.is_ground.sound t.is_ground.whole h)

-- ---- where the reading of a task ends

pub stops_at_text : (bytes : List ℕ) (stop : Stop) → StopsBy (Parsed tasks Task bytes (λ _. nothing_behind)) stop → StopsBy (TaskRead bytes nothing_behind) stop
unfolding TaskRead
stops_at_text bytes (Told answer) h =
    Parsed-weaker tasks Task bytes (λ _. nothing_behind) (λ found. Typed found nothing_behind) (answers answer) (λ found tree is none. absurd none) h
stops_at_text bytes OutOfMemory h = h

pub stops_at_types : (bytes : List ℕ) (found : Lexed) (tree : TaskTree) (stop : Stop) → IsTextOf tasks bytes found tree
    → StopsBy (WellTyped Task found (task_uses tree) (nothing_behind tree)) stop → StopsBy (TaskRead bytes nothing_behind) stop
unfolding TaskRead
stops_at_types bytes found tree (Told answer) is h =
    inr (found, tree, is, WellTyped-weaker Task found (task_uses tree) (nothing_behind tree) (Grounded found tree nothing_behind) (answers answer) (λ none. absurd none) h)
stops_at_types bytes found tree OutOfMemory is h = h

pub stops_at_ground : (bytes : List ℕ) (found : Lexed) (tree : TaskTree) (stop : Stop) → IsTreeOf bytes found tree
    → StopsBy (Grounded found tree nothing_behind) stop → StopsBy (TaskRead bytes nothing_behind) stop
stops_at_ground bytes found tree (Told answer) t h = TaskRead-tree bytes found tree nothing_behind (answers answer) t h
stops_at_ground bytes found tree OutOfMemory t h = h

-- ---- type faults

-- the first fault is told with its place
first_told : (found : Lexed) (next : Ending → Type 0) (f : TypeFault) (token : ℕ) (first : Option (TypeFault × ℕ)) → option_map error_at first ≡ Some (At f token)
    → MatchOption first (next (answers (Refused Task (cause.Mistyped f (place_at found token)))))
    (λ fault. answers (Refused Task (cause.Mistyped f (place_at found token))) ≡ answers (Refused Task (cause.Mistyped fault.0 (place_at found fault.1))))
first_told found next f token None e = absurd (cc)
first_told found next f token (Some p) e =
    let same : At p.0 p.1 ≡ At f token = cc in
    let kind : f ≡ p.0 = cc in
    let place : token ≡ p.1 = cc in
    (λ j. answers (Refused Task (cause.Mistyped (kind j) (place_at found (place j)))))

pub types_fault : (found : Lexed) (uses : Uses) (next : Ending → Type 0) (f : TypeFault) (token : ℕ) → Reports type_error.OutOfMemory (first_error uses) (At f token)
    → WellTyped Task found uses next (answers (Refused Task (cause.Mistyped f (place_at found token))))
types_fault found uses next f token (inl want) = absurd (cc)
types_fault found uses next f token (inr is) = first_told found next f token (first_fault uses) is

-- ---- what is known of the tree of a text

pub tree_of : (bytes : List ℕ) (found : Lexed) (tree typed : TaskTree) → IsTextOf tasks bytes found tree
    → (typed ≡ tree) × HasNoFault tree → IsTreeOf bytes found typed
tree_of bytes found tree typed is h = record {
  text = subst (IsTextOf tasks bytes found) (sym h.0) is;
  typed = subst HasNoFault (sym h.0) h.1;
}

pub text_is_read : (bytes : List ℕ) (found : Lexed) (tree : TaskTree) → IsTextOf tasks bytes found tree → IsRead tree
text_is_read bytes found tree t = is_read bytes found.tokens tree t.lexed.few t.reads

pub ground_formed : (tree : TaskTree) (g : GroundTask) → g ≡ task_of tree → IsFormedTask tree → IsFormedTask g.tree
ground_formed tree g whole h = subst IsFormedTask (sym (ap (λ (t : GroundTask). t.tree) whole)) h

pub ground_shallow : (tree : TaskTree) (g : GroundTask) → g ≡ task_of tree → IsShallow (tasks.marks tree) → IsShallow (tasks.marks g.tree)
ground_shallow tree g whole h = subst (λ t. IsShallow (tasks.marks t)) (sym (ap (λ (t : GroundTask). t.tree) whole)) h
