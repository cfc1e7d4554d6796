use Rattle.std.proofs.Common.{◌≡◌}
use Rattle.ep_logic.specs.Numbers.{numbers_where, table}
use Rattle.ep_event.specs.Built.{has_link}
use Rattle.ep_event.proofs.relations.rows.Given as goal

abbrev pub invariant-loop-event : goal.invariant-loop-event
invariant-loop-event l = l.rows ≡ table (λ e. numbers_where (has_link l.links l.agent e) l.events) l.event
