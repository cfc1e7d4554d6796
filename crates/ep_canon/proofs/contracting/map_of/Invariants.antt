use Rattle.std.proofs.Common.{◌≡◌}
use Rattle.ep_logic.specs.Numbers.{table}
use Rattle.ep_refine.specs.Kept.{kept_before}
use Rattle.ep_canon.specs.Contracting.{class_at}
use Rattle.ep_canon.proofs.contracting.map_of.Given as goal

abbrev pub invariant-loop-w : goal.invariant-loop-w
invariant-loop-w l = record {
  map : l.map ≡ table (class_at l.reached l.classes) l.w;
  next : l.next ≡ kept_before l.reached l.w;
}
