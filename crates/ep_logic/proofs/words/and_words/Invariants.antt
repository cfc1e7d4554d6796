use Rattle.std.proofs.Common.{◌≡◌, ℕ, ◌<◌, ◌≤◌, length, get_or, bit_and}
use Rattle.ep_logic.proofs.words.and_words.Given as goal

abbrev pub invariant-loop-i : goal.invariant-loop-i
invariant-loop-i l = record {
  long : length l.a ≡ length l.initial.a;
  done : (k : ℕ) → k < l.i → get_or l.a k 0 ≡ bit_and (get_or l.initial.a k 0) (get_or l.b k 0);
  left : (k : ℕ) → l.i ≤ k → get_or l.a k 0 ≡ get_or l.initial.a k 0;
}
