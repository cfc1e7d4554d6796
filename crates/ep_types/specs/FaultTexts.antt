-- The words for a type fault.
use Rattle.std.specs.Prelude.{ℕ, List, codes}
use Rattle.ep_types.specs.declared.fault.TypeFault.{TypeFault}
use Rattle.ep_types.specs.declared.fault.TypeFault.TheVariants as type_fault

abbrev pub fault_text : TypeFault → List ℕ
fault_text type_fault.TooManyParameters = codes "too many parameters"
fault_text type_fault.Duplicate = codes "duplicate name"
fault_text type_fault.Unknown = codes "unknown name"
fault_text type_fault.WrongArity = codes "wrong number of arguments"
fault_text type_fault.WrongType = codes "wrong type"
fault_text type_fault.NotAgent = codes "not an agent"
fault_text type_fault.EmptyGroup = codes "empty group"
fault_text type_fault.NotObjective = codes "knowledge not allowed"
