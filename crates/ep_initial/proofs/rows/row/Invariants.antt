use Rattle.std.proofs.Common.{◌≡◌, ℕ, ◌<◌, length, get_or, false}
use Rattle.ep_initial.specs.Valuations.{value_of}
use Rattle.ep_initial.proofs.rows.row.Given as goal

abbrev pub invariant-loop-atom : goal.invariant-loop-atom
invariant-loop-atom l = record {
  long : length l.row ≡ length l.facts;
  told : (k : ℕ) → k < l.atom → get_or l.row k false ≡ value_of l.varied l.valuation k (get_or l.facts k false);
}
