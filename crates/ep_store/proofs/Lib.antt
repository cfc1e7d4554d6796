pub mod PlaceLemmas
pub mod PathLemmas
pub mod KeyLemmas
pub mod AddLemmas
pub mod CaseLemmas
pub mod CallerLemmas
