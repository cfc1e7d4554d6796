use Rattle.std.proofs.Common.{sym}
use Rattle.ep_reader.proofs.Sources.{number_no_name, mark_no_name}
use Rattle.ep_reader.proofs.reader.is_name.Goals as goal

pub returns-in-Number : goal.returns-in-Number
returns-in-Number c = sym (number_no_name c.args.text.now (rw c.in-Number.is at c.requires))

pub returns-in-Mark : goal.returns-in-Mark
returns-in-Mark c = sym (mark_no_name c.args.text.now (rw c.in-Mark.is at c.requires))
