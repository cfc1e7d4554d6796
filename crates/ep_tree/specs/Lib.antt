pub mod Terminals
pub mod Marks
pub mod Nesting
pub mod Spelling
pub mod Formed
pub mod Bare
pub mod Grammar
