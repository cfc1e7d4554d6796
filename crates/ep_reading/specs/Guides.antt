-- Answers that rest on the scores of a guide.
use Rattle.std.specs.Prelude.{◌≡◌, ℕ, ⊤, List, [], ◌++◌, Option, Some, Result, Ok, Err}
use Rattle.ep_lex.specs.Tokens.{Lexed}
use Rattle.ep_tree.specs.Grammar.{plans}
use Rattle.ep_tree.specs.declared.tree.PlanTree.{PlanTree}
use Rattle.ep_reader.specs.Texts.{IsTextOf}
use Rattle.ep_answer.specs.declared.answer.Answer.{Answer}
use Rattle.ep_answer.specs.declared.answer.Stop.{Stop}
use Rattle.ep_answer.specs.declared.answer.Stop.TheVariants.{Told, OutOfMemory}
use Rattle.ep_answer.specs.declared.status.Status.{Status}
use Rattle.ep_answer.specs.declared.status.Status.TheVariants as status
use Rattle.ep_answer.specs.Answer.{answer_status, answer_text}

-- the text is a plan file that lists a call
pub record ListsACall (text : List ℕ) : Type 0 where
  pub found : Lexed
  pub tree : PlanTree
  pub file : IsTextOf plans text found tree
  pub lists : tree.calls ≡ [] → ⊥

-- what is told is a no, or a plan that is not empty
abbrev pub NeedsGuide : Status → List ℕ → Type 0
NeedsGuide status.No text = ⊤
NeedsGuide status.Ok text = ListsACall text
NeedsGuide _ text = ⊥

unfoldable pub AnswerNeeds : Answer → Type 0
AnswerNeeds answer = NeedsGuide (answer_status answer) (answer_text answer)

abbrev pub StopNeeds : Stop → Type 0
StopNeeds (Told answer) = AnswerNeeds answer
StopNeeds OutOfMemory = ⊥

abbrev pub ResultNeeds : Result Answer Stop → Type 0
ResultNeeds (Ok answer) = AnswerNeeds answer
ResultNeeds (Err stop) = StopNeeds stop

-- the status is a no, or it is ok and a plan that is not empty was written, where the sink tells what was
abbrev pub RestsOnScores : Status → Option (List ℕ) → Option (List ℕ) → Type 0
RestsOnScores status.No old new = ⊤
RestsOnScores status.Ok (Some xs) (Some ys) = (text : List ℕ) × (ys ≡ xs ++ text) × ListsACall text
RestsOnScores _ old new = ⊥
