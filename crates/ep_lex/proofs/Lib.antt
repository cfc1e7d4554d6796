pub mod Scanned
pub mod Splits
pub mod Prefixes
pub mod TokenLaws
pub mod Progress
pub mod Faults
pub mod LaidOut
pub mod CallerLemmas
