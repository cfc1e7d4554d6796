use Rattle.ep_audit.proofs.WritingLemmas.{wrote_none, wrote_more, wrote_end}
use Rattle.ep_audit.proofs.laws.lines_are_written_in_turn.Goals as goal

pub returns : goal.returns
returns c = record { none = wrote_none; more = wrote_more; last = wrote_end }
