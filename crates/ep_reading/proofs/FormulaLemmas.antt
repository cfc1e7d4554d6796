-- The formula of a word, as a step of the work.
use Rattle.std.proofs.Common.{◌≡◌, ◌≤◌, ◌+◌, ℕ, List, length, Option, Some, None, MatchOption, inl, inr, refl, sym, subst}
use Rattle.ep_lex.specs.declared.limits.TheConstants.{MOST_BYTES}
use Rattle.ep_lex.specs.Tokens.{Lexed}
use Rattle.ep_reader.specs.Texts.{IsTextOf}
use Rattle.ep_logic.specs.declared.formula.Node.{Node}
use Rattle.ep_tree.specs.Grammar.{formulas}
use Rattle.ep_tree.specs.declared.tree.FormulaTree.{FormulaTree}
use Rattle.ep_types.specs.Tasks.{declarations}
use Rattle.ep_ground.specs.FormulaFaults.{formula_refusal}
use Rattle.ep_ground.specs.declared.formula_fault.FormulaFault.{FormulaFault}
use Rattle.ep_ground.specs.declared.formula_fault.FormulaFault.TheVariants as fault
use Rattle.ep_ground.specs.Task.{GroundTask}
use Rattle.ep_answer.specs.declared.answer.Answer.TheVariants.{Refused}
use Rattle.ep_answer.specs.declared.answer.Stop.{Stop}
use Rattle.ep_answer.specs.declared.answer.Stop.TheVariants.{Told, OutOfMemory}
use Rattle.ep_answer.specs.declared.cause.Cause.TheVariants as cause
use Rattle.ep_answer.specs.declared.cause.Subject.TheVariants.{Formula}
use Rattle.ep_answer.specs.declared.status.Status.{Status}
use Rattle.ep_reading.specs.FormulaWord.{Formed, FormulaRead, FormulaWord, TellsFormulaFault, ground_form}
use Rattle.ep_reading.specs.Served.{Ending, Answers, Parsed, answers, place_at}
use Rattle.ep_reading.specs.Steps.{IsFormOf, IsFormulaOf, StopsBy, nothing_behind}
use Rattle.ep_reading.proofs.Steps.{Parsed-weaker, Sized-weaker}
use Rattle.ep_reading.proofs.Told.{IsBehind, long_formula_is_behind, refusal_is_behind, text_cause_behind}

-- ---- ground forms

formed_option : (g : GroundTask) (found : Lexed) (tree : FormulaTree) (first : Option FormulaFault) (P Q : Node → Ending → Type 0) (o : Ending) → ((f : Node) → P f o → Q f o)
    → MatchOption first (P (ground_form g tree) o) (λ e. TellsFormulaFault found e o) → MatchOption first (Q (ground_form g tree) o) (λ e. TellsFormulaFault found e o)
formed_option g found tree None P Q o f h = f (ground_form g tree) h
formed_option g found tree (Some e) P Q o f h = h

pub Formed-weaker : (g : GroundTask) (found : Lexed) (tree : FormulaTree) (P Q : Node → Ending → Type 0) (o : Ending) → ((f : Node) → P f o → Q f o)
    → Formed g found tree P o → Formed g found tree Q o
Formed-weaker g found tree P Q o f h = formed_option g found tree (formula_refusal (declarations g.tree) tree) P Q o f h

pub Formed-behind : (g : GroundTask) (found : Lexed) (tree : FormulaTree) (f : Node) (P : Node → Ending → Type 0) (o : Ending)
    → IsFormOf g tree f → P f o → Formed g found tree P o
Formed-behind g found tree f P o is h =
    let M : Option FormulaFault → Type 0 = λ first. MatchOption first (P (ground_form g tree) o) (λ e. TellsFormulaFault found e o) in
    subst M (sym is.sound) (subst (λ f. P f o) is.whole h)

-- the refusal of the tree is told
pub formed_fault : (g : GroundTask) (found : Lexed) (tree : FormulaTree) (e : FormulaFault) (o : Ending)
    → formula_refusal (declarations g.tree) tree ≡ Some e → TellsFormulaFault found e o → Formed g found tree nothing_behind o
formed_fault g found tree e o is h =
    let M : Option FormulaFault → Type 0 = λ first. MatchOption first (nothing_behind (ground_form g tree) o) (λ e. TellsFormulaFault found e o) in
    subst M (sym is) h

fault_is_behind : (found : Lexed) (e : FormulaFault) (status : Status) (text : List ℕ) → TellsFormulaFault found e (Answers status text) → IsBehind status text
fault_is_behind found (fault.Typing t token) status text h = refusal_is_behind status text Formula (cause.Mistyped t (place_at found token)) tt h
fault_is_behind found (fault.TooLarge token) status text h = refusal_is_behind status text Formula (cause.TooLarge (place_at found token)) tt h
fault_is_behind found fault.OutOfMemory status text h = absurd h

formed_is_behind : (g : GroundTask) (found : Lexed) (tree : FormulaTree) (first : Option FormulaFault) (P : Node → Ending → Type 0) (status : Status) (text : List ℕ)
    → ((f : Node) → P f (Answers status text) → IsBehind status text)
    → MatchOption first (P (ground_form g tree) (Answers status text)) (λ e. TellsFormulaFault found e (Answers status text)) → IsBehind status text
formed_is_behind g found tree None P status text b h = b (ground_form g tree) h
formed_is_behind g found tree (Some e) P status text b h = fault_is_behind found e status text h

-- ---- texts

pub FormulaRead-weaker : (g : GroundTask) (text : List ℕ) (P Q : Node → Ending → Type 0) (o : Ending) → ((f : Node) → P f o → Q f o)
    → FormulaRead g text P o → FormulaRead g text Q o
FormulaRead-weaker g text P Q o f h =
    Parsed-weaker formulas Formula text (λ found tree. Formed g found tree P) (λ found tree. Formed g found tree Q) o
    (λ found tree is. Formed-weaker g found tree P Q o f) h

pub FormulaRead-behind : (g : GroundTask) (text : List ℕ) (f : Node) (P : Node → Ending → Type 0) (o : Ending) → IsFormulaOf g text f → P f o → FormulaRead g text P o
FormulaRead-behind g text f P o is h = inr (is.found, is.tree, is.is_text, Formed-behind g is.found is.tree f P o is.form h)

pub stops_at_formula_text : (g : GroundTask) (text : List ℕ) (stop : Stop)
    → StopsBy (Parsed formulas Formula text (λ _. nothing_behind)) stop → StopsBy (FormulaRead g text nothing_behind) stop
stops_at_formula_text g text (Told answer) h =
    Parsed-weaker formulas Formula text (λ _. nothing_behind) (λ found tree. Formed g found tree nothing_behind) (answers answer) (λ found tree is none. absurd none) h
stops_at_formula_text g text OutOfMemory h = h

pub stops_at_form : (g : GroundTask) (text : List ℕ) (found : Lexed) (tree : FormulaTree) (stop : Stop) → IsTextOf formulas text found tree
    → StopsBy (Formed g found tree nothing_behind) stop → StopsBy (FormulaRead g text nothing_behind) stop
stops_at_form g text found tree (Told answer) is h = inr (found, tree, is, h)
stops_at_form g text found tree OutOfMemory is h = h

-- ---- words

pub FormulaWord-weaker : (g : GroundTask) (word : List ℕ) (P Q : Node → Ending → Type 0) (o : Ending) → ((f : Node) → P f o → Q f o)
    → FormulaWord g word P o → FormulaWord g word Q o
unfolding FormulaWord
FormulaWord-weaker g word P Q o f h = Sized-weaker Formula word (λ text. FormulaRead g text P) (λ text. FormulaRead g text Q) o (λ text r. FormulaRead-weaker g text P Q o f r) h

pub FormulaWord-long : (g : GroundTask) (word : List ℕ) → MOST_BYTES + 1 ≤ length word → StopsBy (FormulaWord g word nothing_behind) (Told (Refused Formula cause.TooLong))
unfolding FormulaWord
FormulaWord-long g word l = inl (l, refl)

pub FormulaWord-short : (g : GroundTask) (word : List ℕ) (stop : Stop) → length word ≤ MOST_BYTES → StopsBy (FormulaRead g word nothing_behind) stop → StopsBy (FormulaWord g word nothing_behind) stop
unfolding FormulaWord
FormulaWord-short g word (Told answer) l h = inr (l, h)
FormulaWord-short g word OutOfMemory l h = h

pub FormulaWord-behind : (g : GroundTask) (word : List ℕ) (f : Node) (P : Node → Ending → Type 0) (o : Ending) → IsFormulaOf g word f → P f o → FormulaWord g word P o
unfolding FormulaWord
FormulaWord-behind g word f P o is h = inr (is.few, FormulaRead-behind g word f P o is h)

pub formula_is_behind : (g : GroundTask) (word : List ℕ) (P : Node → Ending → Type 0) (status : Status) (text : List ℕ)
    → ((f : Node) → P f (Answers status text) → IsBehind status text)
    → FormulaWord g word P (Answers status text) → IsBehind status text
unfolding FormulaWord
formula_is_behind g word P status text b (inl long) = long_formula_is_behind status text long.1
formula_is_behind g word P status text b (inr (few, inl fault)) =
    refusal_is_behind status text Formula fault.cause (text_cause_behind fault.error fault.cause fault.is_cause) fault.told
formula_is_behind g word P status text b (inr (few, inr (found, tree, is, h))) =
    formed_is_behind g found tree (formula_refusal (declarations g.tree) tree) P status text b h
