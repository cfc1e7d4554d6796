-- What a call did to the library, and why it has its status and its text.
use Rattle.std.specs.Prelude.{◌≡◌, ◌≢◌, ◌≤◌, ◌↔◌, ℕ, ⊤, List, IfSome, IfNone, IsSome, Some}
use Rattle.ep_io.specs.Library.{FileMap, LibraryState}
use Rattle.ep_answer.specs.declared.answer.Answer.TheVariants.{Refused, Unreadable}
use Rattle.ep_answer.specs.declared.cause.Cause.TheVariants.{NoSuchFile, TooLong}
use Rattle.ep_answer.specs.declared.cause.Subject.{Subject}
use Rattle.ep_answer.specs.declared.cause.Subject.TheVariants.{Formula}
use Rattle.ep_answer.specs.declared.status.Status.{Status}
use Rattle.ep_answer.specs.declared.status.Status.TheVariants.{ReadFault, Usage}
use Rattle.ep_answer.specs.Answer.{answer_text}
use Rattle.ep_reading.specs.Served.{Ending, Answers, StopsAt}
use Rattle.ep_answer.specs.Status.{IsWritten}
use Rattle.ep_base.specs.Counts.{Rose, RoseBeyond}
use Rattle.ep_lex.specs.declared.limits.TheConstants.{MOST_BYTES}

-- the library holds what it held, and no count fell
pub record GoesOn (old new : LibraryState) : Type 0 where
  pub held : new.held ≡ old.held
  pub faults : old.faults ≤ new.faults
  pub taken : old.taken ≤ new.taken

-- the text is one of a file, and not a word
abbrev pub IsOfFile : Subject → Type 0
IsOfFile Formula = ⊥
IsOfFile _ = ⊤

-- the library failed on this file, and nothing stood before that
pub record IsReadFault (work : FileMap → Ending → Type 0) (names : Subject → List ℕ → Type 0) (old new : LibraryState) (text : List ℕ) (subject : Subject) (name : List ℕ) : Type 0 where
  pub since : Rose old.faults new.faults
  -- the file is one that the work names
  pub named : names subject name
  pub blamed : new.blamed ≡ Some name
  pub told : text ≡ answer_text (Unreadable subject)
  -- no earlier cause stands in what the library holds
  pub first : IfSome old.held (λ files. work files (StopsAt subject name))

-- A text goes out with this status. `work` says how the work may end over the files of a library, `names` which files it names, and
-- `misuse` whether the words are misused, whatever the library holds.
pub record IsAnswerOf (work : FileMap → Ending → Type 0) (names : Subject → List ℕ → Type 0) (misuse : Type 0) (old new : LibraryState) (status : Status) (text : List ℕ) : Type 0 where
  pub possible : IsWritten status
  pub usage : (status ≡ Usage) ↔ misuse
  pub served : status ≢ ReadFault → IfSome old.held (λ files. work files (Answers status text))
  pub fault : status ≡ ReadFault → (subject : Subject) × (name : List ℕ) × IsReadFault work names old new text subject name
  -- only a library that tells its files can tell that one is missing
  pub missing : (subject : Subject) → text ≡ answer_text (Refused subject NoSuchFile) → IsSome old.held
  -- one that does not tell them took more bytes in the last fetch than a file may have
  pub too_long : (subject : Subject) → IsOfFile subject → text ≡ answer_text (Refused subject TooLong) → IfNone old.held (RoseBeyond MOST_BYTES new.started new.taken)
