use Rattle.std.proofs.Common.{◌≡◌}
use Rattle.ep_logic.specs.Numbers.{table}
use Rattle.ep_update.specs.Places.{place_rows}
use Rattle.ep_update.proofs.rows.relations_of.Given as goal

abbrev pub invariant-loop-agent : goal.invariant-loop-agent
invariant-loop-agent l = l.relations ≡ table (place_rows l.s l.a) l.agent
