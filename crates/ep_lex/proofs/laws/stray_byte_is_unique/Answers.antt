use Rattle.ep_lex.proofs.Faults.{stray-unique}
use Rattle.ep_lex.proofs.laws.stray_byte_is_unique.Goals as goal

pub returns : goal.returns
returns c = stray-unique
