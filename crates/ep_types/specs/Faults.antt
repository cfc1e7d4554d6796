-- The table of faults, row by row, and the first fault.
use Rattle.ep_types.specs.Atoms.{has_atom}
use Rattle.ep_types.specs.Names.{Text, Typings, declared, is_among, is_below}
use Rattle.ep_types.specs.Places.{type_of, Place, NewName, NewParam, ParamType, UsedName, UsedObject, UsedFluent, Fact, Argument, Agent, Group, Knowledge, Use, Uses, nothing, one, both}
use Rattle.ep_types.specs.declared.fault.TypeFault.{TypeFault}
use Rattle.ep_types.specs.declared.fault.TypeFault.TheVariants.{TooManyParameters, Duplicate, Unknown, WrongArity, WrongType, NotAgent, EmptyGroup, NotObjective}
use Rattle.ep_types.specs.declared.fault.TypeError.{TypeError}
use Rattle.ep_types.specs.declared.fault.TypeError.TheVariants.{At, OutOfMemory}
use Rattle.std.specs.Prelude.{◌≡◌, ℕ, Bool, false, not, nat_eq, List, [], ◌∷◌, length, Option, Some, None, option_map, Result, MatchResult, if◌then◌else◌, codes}
use Rattle.std.specs.Option.{is_some, is_none, option_or}
use Rattle.ep_base.specs.Refusals.{Reports}
use Rattle.ep_binding.specs.declared.limits.TheConstants.{MOST_PARAMETERS}

-- whether there is a type, and it is neither this one nor below it
abbrev pub is_apart : Typings → Text → Option Text → Bool
is_apart types wanted None = false
is_apart types wanted (Some kind) = not (is_below types kind wanted)

-- whether a fluent has another number of parameters
abbrev pub has_other_count : ℕ → Option (List Text) → Bool
has_other_count n None = false
has_other_count n (Some kinds) = not (nat_eq n (length kinds))

-- a parameter or parameter type behind as many as a list may have
abbrev pub is_one_too_many : Place → Bool
is_one_too_many (NewParam n x s) = nat_eq n MOST_PARAMETERS
is_one_too_many (ParamType n x names) = nat_eq n MOST_PARAMETERS
is_one_too_many _ = false

-- a declared name that its list already has, a parameter named like an object or a parameter in force, and a fact that is varied
abbrev pub is_duplicate : Place → Bool
is_duplicate (NewName x taken) = is_among x taken
is_duplicate (NewParam n x s) = is_some (type_of s x)
is_duplicate (Fact x args varied s) = has_atom (x ∷ args) varied
is_duplicate _ = false

-- a used name that is not declared
abbrev pub is_unknown : Place → Bool
is_unknown (ParamType n x names) = not (is_among x names)
is_unknown (UsedName x names) = not (is_among x names)
is_unknown (UsedObject x s) = is_none (type_of s x)
is_unknown (UsedFluent x n s) = is_none (declared x s.names.fluents)
is_unknown (Fact x args varied s) = is_none (declared x s.names.fluents)
is_unknown (Argument x wanted s) = is_none (type_of s x)
is_unknown (Agent x s) = is_none (type_of s x)
is_unknown _ = false

-- an atom with another number of arguments than declared
abbrev pub is_wrong_arity : Place → Bool
is_wrong_arity (UsedFluent x n s) = has_other_count n (declared x s.names.fluents)
is_wrong_arity (Fact x args varied s) = has_other_count (length args) (declared x s.names.fluents)
is_wrong_arity _ = false

-- an argument whose type is neither the declared one nor below it
abbrev pub is_wrong_type : Place → Bool
is_wrong_type (Argument x wanted s) = is_apart s.names.types wanted (type_of s x)
is_wrong_type _ = false

-- a name after `knows` or in a group whose type is neither `agent` nor below it
abbrev pub is_no_agent : Place → Bool
is_no_agent (Agent x s) = is_apart s.names.types (codes "agent") (type_of s x)
is_no_agent _ = false

-- a group without a member
abbrev pub is_empty_group : Place → Bool
is_empty_group (Group n) = nat_eq n 0
is_empty_group _ = false

-- `knows` or `common` where no knowledge is allowed
abbrev pub is_not_objective : Place → Bool
is_not_objective (Knowledge allowed) = not allowed
is_not_objective _ = false

-- the table: each fault, and whether it is at what stands there
abbrev pub table : Place → List (Bool × TypeFault)
table p =
    (is_one_too_many p, TooManyParameters)
    ∷ (is_duplicate p, Duplicate)
    ∷ (is_unknown p, Unknown)
    ∷ (is_wrong_arity p, WrongArity)
    ∷ (is_wrong_type p, WrongType)
    ∷ (is_no_agent p, NotAgent)
    ∷ (is_empty_group p, EmptyGroup)
    ∷ (is_not_objective p, NotObjective)
    ∷ []

abbrev pub first_row : List (Bool × TypeFault) → Option TypeFault
first_row [] = None
first_row (row ∷ rows) = if row.0 then Some row.1 else first_row rows

-- the fault at a token: the first row that holds there
abbrev pub fault_at : Use → Option TypeFault
fault_at u = first_row (table u.place)

abbrev pub located : ℕ → Option TypeFault → Option (TypeFault × ℕ)
located t None = None
located t (Some f) = Some (f, t)

-- the first token with a fault
abbrev pub first_fault : Uses → Option (TypeFault × ℕ)
first_fault nothing = None
first_fault (one u) = located u.token (fault_at u)
first_fault (both us vs) = option_or (first_fault us) (first_fault vs)

-- the error of a fault at a token
abbrev pub error_at : TypeFault × ℕ → TypeError
error_at p = At p.0 p.1

-- the error of the first fault
abbrev pub first_error : Uses → Option TypeError
first_error us = option_map error_at (first_fault us)

-- no fault where the answer is Ok, and else the first one, or want of memory
abbrev pub IsJudged : {A : Type 0} → Uses → Result A TypeError → Type 0
IsJudged us r = MatchResult r (λ _. first_fault us ≡ None) (Reports OutOfMemory (first_error us))
