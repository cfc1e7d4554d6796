use Rattle.std.proofs.Common.{sym}
use Rattle.ep_reader.proofs.CountLaws.{word_no_count, mark_no_count}
use Rattle.ep_reader.proofs.reader.is_count.Goals as goal

pub returns-in-Word : goal.returns-in-Word
returns-in-Word c = sym (word_no_count c.args.text.now (rw c.in-Word.is at c.requires))

pub returns-in-Mark : goal.returns-in-Mark
returns-in-Mark c = sym (mark_no_count c.args.text.now (rw c.in-Mark.is at c.requires))
