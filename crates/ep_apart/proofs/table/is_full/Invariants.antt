use Rattle.std.proofs.Common.{ℕ, ◌<◌, [], slice_index_or}
use Rattle.ep_apart.specs.Tables.{IsFullRow}
use Rattle.ep_apart.proofs.table.is_full.Given as goal

abbrev pub invariant-loop-c : goal.invariant-loop-c
invariant-loop-c l = (c : ℕ) → c < l.c → IsFullRow (slice_index_or l.table c []) c
