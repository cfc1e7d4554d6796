pub mod RepeatLemmas
pub mod MadeLemmas
pub mod MarkLemmas
pub mod RowLemmas
pub mod BuiltLemmas
pub mod KindLemmas
pub mod CallerLemmas
pub mod EquivalenceLemmas
