-- Each line of a list may stand at its place.
use Rattle.std.proofs.Common.{◌≡◌, ℕ, zero, suc, ◌<◌, ◌+◌, List, [], ◌∷◌, length, slice_index_or, subst, arith}
use Rattle.ep_apart.specs.declared.lines.Line.{Line}
use Rattle.ep_apart.specs.Lines.{AreLines, IsLine}

line_from : (agents atoms k i : ℕ) (ls : List Line) → AreLines agents atoms k ls → i < length ls → IsLine agents atoms (k + i) (slice_index_or ls i Line.True)
line_from agents atoms k i [] are within = absurd (omega (arith, within))
line_from agents atoms k zero (l ∷ ls) are within = let e : k ≡ k + 0 = omega arith in subst (λ n. IsLine agents atoms n l) e are.0
line_from agents atoms k (suc i) (l ∷ ls) are within =
    let e : suc k + i ≡ k + suc i = omega arith in
    subst (λ n. IsLine agents atoms n (slice_index_or ls i Line.True)) e (line_from agents atoms (suc k) i ls are.1 (omega (arith, within)))

pub line_at : (agents atoms i : ℕ) (ls : List Line) → AreLines agents atoms 0 ls → i < length ls → IsLine agents atoms i (slice_index_or ls i Line.True)
line_at agents atoms i ls are within = let e : 0 + i ≡ i = omega arith in subst (λ n. IsLine agents atoms n (slice_index_or ls i Line.True)) e (line_from agents atoms 0 i ls are within)
