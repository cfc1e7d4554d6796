-- A text has tokens or a stray byte, and not both.
use Rattle.std.proofs.Common.{◌≡◌, ℕ, ◌⊎◌, inl, inr, List, [], length, Result, Ok, Err, refl, arith}
use Rattle.ep_lex.specs.declared.token.Token.{Token}
use Rattle.ep_lex.specs.Pieces.{Piece, IsStray}
use Rattle.ep_lex.specs.Tokens.{tokens_behind, AreTokens}
use Rattle.ep_lex.proofs.Splits.{IsSplit, split, split_is, Split-found, Stray-found}

pub stray-unique : (bytes : List ℕ) (at before : ℕ) → IsStray bytes at → IsStray bytes before → at ≡ before
stray-unique bytes at before s t = let e = Stray-found bytes at s in let f = Stray-found bytes before t in cc

pub stray-no_tokens : (bytes : List ℕ) (at : ℕ) (ts : List Token) → IsStray bytes at → AreTokens bytes ts → ⊥
stray-no_tokens bytes at ts s t =
    let e = Stray-found bytes at s in let f = Split-found (length bytes) bytes t.pieces (omega arith) t.split in absurd (cc)

pub some_answer : (bytes : List ℕ) → ((ts : List Token) × AreTokens bytes ts) ⊎ ((at : ℕ) × IsStray bytes at)
some_answer bytes = by_split (split (length bytes) bytes) (split_is (length bytes) bytes (omega arith))
  where
    by_split : (r : Result (List Piece) ℕ) → IsSplit bytes r → ((ts : List Token) × AreTokens bytes ts) ⊎ ((at : ℕ) × IsStray bytes at)
    by_split (Ok ps) s = inl (tokens_behind [] ps, record { pieces = ps; split = s; tokens_are = refl })
    by_split (Err at) s = inr (at, s)
