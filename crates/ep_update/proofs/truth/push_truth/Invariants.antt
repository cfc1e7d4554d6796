use Rattle.std.proofs.Common.{◌≡◌, ◌++◌, ◌∷◌, [], take}
use Rattle.ep_logic.specs.Numbers.{table}
use Rattle.ep_theory.specs.Events.{event_at}
use Rattle.ep_update.specs.Assigned.{atom_with}
use Rattle.ep_update.proofs.truth.push_truth.Given as goal

abbrev pub invariant-loop-i : goal.invariant-loop-i
invariant-loop-i l = record {
  width : l.table.width ≡ l.s.atoms;
  rows : l.table.rows ≡ l.fn.table.rows ++ table (atom_with l.s l.w (take l.i (event_at l.a l.e).sets)) l.s.atoms ∷ [];
}
