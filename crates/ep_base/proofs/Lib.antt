pub mod AsciiLemmas
pub mod RefusalLemmas
pub mod CallerLemmas
