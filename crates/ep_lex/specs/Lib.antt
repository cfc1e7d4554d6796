pub mod Pieces
pub mod Scan
pub mod Tokens
