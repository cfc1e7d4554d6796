use Rattle.std.proofs.Common.{◌≡◌, ◌++◌}
use Rattle.std.specs.List.{flat_map}
use Rattle.ep_logic.specs.Numbers.{table}
use Rattle.ep_theory.specs.Kripke.{links_of, successors}
use Rattle.ep_bytes.specs.Bytes.{row_bytes}
use Rattle.ep_kripke.specs.Interning.{row_of}
use Rattle.ep_bytes.proofs.writing.put_successors.Given as goal

abbrev pub invariant-loop-w : goal.invariant-loop-w
invariant-loop-w l = l.bytes.items ≡ l.fn.bytes.items ++ flat_map row_bytes (table (λ w. row_of l.s.worlds (successors (links_of l.s l.fn.a.n) w)) l.w)
