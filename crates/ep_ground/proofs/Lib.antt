pub mod FirstLemmas
pub mod FitLemmas
pub mod FrameLemmas
pub mod ReadLemmas
pub mod TaskLemmas
pub mod TextLemmas
pub mod WithinLemmas
