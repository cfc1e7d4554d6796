pub mod RowBytesLemmas
pub mod BytesLemmas
pub mod WordLemmas
pub mod WritingLemmas
pub mod ToldLemmas
pub mod ReadingLemmas
pub mod CallerLemmas
