use Rattle.std.proofs.Common.{◌≡◌, ◌≤◌, ◌<◌, ℕ, length, get_or, vec_len}
use Rattle.ep_theory.specs.Kripke.{links_of, successors}
use Rattle.ep_refine.proofs.images.originals_of.Given as goal

abbrev pub invariant-loop-i : goal.invariant-loop-i
invariant-loop-i l = record {
  long : length l.originals.items ≡ l.i;
  no_later : (k : ℕ) → k < l.i → get_or l.originals.items k 0 ≤ k;
  slots : vec_len l.hint ≡ vec_len l.initial.hint;
  equal : (k : ℕ) → k < l.i → successors (links_of l.s l.fn.a.n) (get_or l.chosen (get_or l.originals.items k 0) 0) ≡ successors (links_of l.s l.fn.a.n) (get_or l.chosen k 0);
}
