use Rattle.std.proofs.Common.{◌≡◌, ◌+◌, ◌*◌}
use Rattle.ep_logic.specs.Numbers.{table}
use Rattle.ep_bytes.specs.Reading.{told_rows, links_begin, agent_size}
use Rattle.ep_bytes.proofs.reading.relations.Given as goal

abbrev pub invariant-loop-a : goal.invariant-loop-a
invariant-loop-a l = l.relations ≡ table (λ a. told_rows l.bytes (links_begin l.sizes + a * agent_size l.sizes) l.sizes.worlds) l.a
