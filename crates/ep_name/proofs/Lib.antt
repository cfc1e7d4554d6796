pub mod PrintLemmas
pub mod LawsLemmas
pub mod TableLemmas
pub mod CallerLemmas
