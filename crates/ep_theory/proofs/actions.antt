pub mod ProductLemmas
pub mod ProductLaws
pub mod FourLemmas
pub mod ProductUnique
pub mod EquivalenceLemmas
pub mod ClassLemmas
pub mod TriedLemmas
