use Rattle.std.proofs.Common.{◌≡◌, ◌≤◌, ◌<◌, ℕ, length, get_or, vec_len}
use Rattle.ep_update.specs.Places.{place_row}
use Rattle.ep_update.proofs.originals.originals_of.Given as goal

abbrev pub invariant-loop-i : goal.invariant-loop-i
invariant-loop-i l = record {
  long : length l.originals.items ≡ l.i;
  no_later : (k : ℕ) → k < l.i → get_or l.originals.items k 0 ≤ k;
  slots : vec_len l.hint ≡ vec_len l.initial.hint;
  equal : (k : ℕ) → k < l.i → place_row l.s l.a l.agent (get_or l.originals.items k 0) ≡ place_row l.s l.a l.agent k;
}
