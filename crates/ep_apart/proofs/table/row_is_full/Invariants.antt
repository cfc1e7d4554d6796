use Rattle.std.proofs.Common.{◌≡◌, ℕ, ◌<◌, None, slice_index_or}
use Rattle.ep_apart.proofs.table.row_is_full.Given as goal

abbrev pub invariant-loop-d : goal.invariant-loop-d
invariant-loop-d l = (d : ℕ) → d < l.d → (d ≡ l.fn.c → ⊥) → slice_index_or l.row d None ≡ None → ⊥
