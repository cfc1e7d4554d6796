use Rattle.std.proofs.Common.{◌≡◌, ◌≤◌, ◌*◌, take, drop}
use Rattle.ep_ground.specs.Faults.{node_total, too_large}
use Rattle.ep_ground.proofs.formulas.node_total.Given as goal

abbrev pub invariant-loop-written : goal.invariant-loop-written
invariant-loop-written l = record {
  total : l.total ≡ node_total l.universe.names (take l.written-index l.formulas);
  most : l.total ≤ l.written-index * 67108864;
  left : too_large l.universe.names l.formulas ≡ too_large l.universe.names (drop l.written-index l.formulas);
}
