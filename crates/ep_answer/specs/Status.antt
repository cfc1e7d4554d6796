-- The statuses, and which of them stand for an answer whose text was written.
use Rattle.std.specs.Prelude.{ℕ, ⊤}
use Rattle.ep_answer.specs.declared.status.Status.{Status}
use Rattle.ep_answer.specs.declared.status.Status.TheVariants as status

-- the exit code
abbrev pub code_of : Status → ℕ
code_of status.Ok = 0
code_of status.No = 1
code_of status.Usage = 2
code_of status.Refused = 3
code_of status.ReadFault = 4
code_of status.WriteFault = 5
code_of status.OutOfMemory = 6
code_of status.Undecided = 7

-- one put of the whole text succeeded
abbrev pub IsWritten : Status → Type 0
IsWritten status.WriteFault = ⊥
IsWritten status.OutOfMemory = ⊥
IsWritten _ = ⊤

-- words are misused, or nothing or a prefix of the text was written
abbrev pub IsUsageUnlessCut : Status → Type 0
IsUsageUnlessCut status.Usage = ⊤
IsUsageUnlessCut status.WriteFault = ⊤
IsUsageUnlessCut status.OutOfMemory = ⊤
IsUsageUnlessCut _ = ⊥
