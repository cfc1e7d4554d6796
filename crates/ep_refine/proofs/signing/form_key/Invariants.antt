use Rattle.std.proofs.Common.{◌≡◌, ℕ, ◌<◌, ◌≤◌, [], length, slice_index, slice_index_or}
use Rattle.ep_refine.proofs.signing.form_key.Given as goal

abbrev pub invariant-loop-a : goal.invariant-loop-a
invariant-loop-a g l = record {
  long : length l.numbers ≡ 8;
  numbers : (b : ℕ) → b < l.a → slice_index l.numbers b ≡ slice_index (slice_index_or l.columns b []) l.k;
  rest : (b : ℕ) → l.a ≤ b → slice_index l.numbers b ≡ 0;
}
