pub mod TreeEquations
pub mod MarkTexts
pub mod NestingLemmas
pub mod ReadLemmas
pub mod CallerLemmas
