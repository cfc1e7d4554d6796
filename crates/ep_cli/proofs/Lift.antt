-- What a command answers its words answer.
use Rattle.std.proofs.Common.{◌≡◌, ◌↔◌, ℕ, List, inl, inr, subst, Result, Ok, Err, IfOk}
use Rattle.ep_io.specs.Library.{LibraryState}
use Rattle.ep_words.specs.Words.{IsCommand}
use Rattle.ep_words.specs.declared.command.Command.{Command}
use Rattle.ep_answer.specs.declared.answer.Stop.TheVariants.{Told}
use Rattle.ep_answer.specs.declared.answer.Stop.{Stop}
use Rattle.ep_answer.specs.declared.answer.Answer.{Answer}
use Rattle.ep_answer.specs.declared.status.Status.{Status}
use Rattle.ep_cli.specs.Commands.{CommandWork, LacksGuide, Misuses, Names, Work}
use Rattle.ep_reading.specs.Run.{IsAnswerOf}
use Rattle.ep_cli.specs.Run.{IsAnswer, NamesFile}
use Rattle.ep_reading.proofs.CallerLemmas.{IsAnswerOf-held, all_held}

-- the words of a command are misused exactly where it asks for a guide that is not there
command_misuse : (words : List (List ℕ)) (guides : ℕ) (command : Command) → IsCommand words command → ((other : Command) → IsCommand words other → other ≡ command) → LacksGuide guides command ↔ Misuses words guides
command_misuse words guides command are only = (λ l. inr (command, are, l), back)
  where
    back : Misuses words guides → LacksGuide guides command
    back (inl none) = absurd (none command are)
    back (inr (other, is, l)) = subst (LacksGuide guides) (only other is) l

-- what the command may answer its words may answer
pub IsAnswer-command : (words : List (List ℕ)) (guides : ℕ) (command : Command) (old new : LibraryState) (status : Status) (text : List ℕ)
    → IsCommand words command → ((other : Command) → IsCommand words other → other ≡ command)
    → IsAnswerOf (λ files. CommandWork files words guides command) (Names words command) (LacksGuide guides command) old new status text → IsAnswer words guides old new status text
IsAnswer-command words guides command old new status text are only h =
    IsAnswerOf-held (λ files. CommandWork files words guides command) (λ files. Work files words guides) (Names words command) (NamesFile words) (LacksGuide guides command) (Misuses words guides) old new status text
    (command_misuse words guides command are only)
    (all_held old.held (λ files o w. inr (command, are, w))) (λ s name n. (command, are, n)) h

-- the answer that a stop tells
pub if_told : {E : Type 0} (P : Answer → Type 0) (r : Result Answer E) (stop : Stop) → IfOk r (λ answer. stop ≡ Told answer) → ((answer : Answer) → stop ≡ Told answer → P answer) → IfOk r P
if_told P (Ok answer) stop is f = f answer is
if_told P (Err error) stop is f = tt
