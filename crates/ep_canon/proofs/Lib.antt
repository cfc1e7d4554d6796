pub mod QuotientLemmas
pub mod MapLemmas
pub mod CanonLemmas
