-- Texts of ASCII bytes alone, by a test and by a fact.
use Rattle.std.proofs.Common.{ℕ, suc, ◌<◌, List, [], ◌∷◌, All, IsTrue, refl}
use Rattle.std.specs.Char.{is_ascii}
use Rattle.std.specs.List.{list_all}
use Rattle.std.specs.Str.{IsAscii}
use Rattle.std.proofs.lemmas.Bool.{lt-ltb, ltb-true, and_from, and_parts}
use Rattle.std.proofs.lemmas.List.Elements.{All-nil, All-cons}

pub passes : (bytes : List ℕ) → IsAscii bytes → IsTrue (list_all is_ascii bytes)
passes [] h = refl
passes (byte ∷ bytes) h = and_from (is_ascii byte) (list_all is_ascii bytes) (lt-ltb byte 128 (h 0)) (passes bytes (λ i. h (suc i)))

pub all_below : (bytes : List ℕ) → IsTrue (list_all is_ascii bytes) → All (λ b. b < 128) bytes
all_below [] h = All-nil (λ b. b < 128)
all_below (byte ∷ bytes) h =
    let parts = and_parts (is_ascii byte) (list_all is_ascii bytes) h in
    All-cons (λ b. b < 128) byte bytes (ltb-true byte 128 parts.0) (all_below bytes parts.1)
