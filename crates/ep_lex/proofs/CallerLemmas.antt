-- What the crates above cite of the proofs of this one. All else is its own.
pub use Rattle.ep_lex.proofs.Faults.{stray-no_tokens, stray-unique}
pub use Rattle.ep_lex.proofs.LaidOut.{AreLaid, Laid, laid, laid_pieces, laid_split}
pub use Rattle.ep_lex.proofs.TokenLaws.{IsSpelled, lexed-unique, spellings-are, texts_of, token-spelled, tokens-unique}
