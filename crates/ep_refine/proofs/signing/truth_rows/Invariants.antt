use Rattle.std.proofs.Common.{◌≡◌, map, take}
use Rattle.ep_refine.proofs.signing.truth_rows.Given as goal

abbrev pub invariant-loop-w : goal.invariant-loop-w
invariant-loop-w l = map (λ row. row.items) l.rows.items ≡ take l.w l.s.truth
