use Rattle.std.proofs.Common.{◌≡◌, ℕ, ◌<◌, length}
use Rattle.ep_truth.specs.Labels.{atom_test}
use Rattle.ep_logic.specs.Rows.{value_at}
use Rattle.ep_truth.proofs.labels.label_atom.Given as goal

abbrev pub invariant-loop-w : goal.invariant-loop-w
invariant-loop-w l = record {
  long : length l.row ≡ l.s.worlds;
  told : (k : ℕ) → k < l.w → value_at l.row k ≡ atom_test l.s l.p.n k;
}
