use Rattle.std.proofs.Common.{arith}
use Rattle.ep_logic.proofs.WordLemmas.{cut_kept, cut_past}
use Rattle.ep_logic.proofs.words.clear_past.Goals as goal

pub returns-then-used-ne0-clause-kept : goal.returns-then-used-ne0-clause-kept
returns-then-used-ne0-clause-kept c = cut_kept c.args.words.now c.args.len (omega (arith, c.requires, c.if-used-ne0.true))

pub returns-then-used-ne0-clause-past : goal.returns-then-used-ne0-clause-past
returns-then-used-ne0-clause-past c = cut_past c.args.words.now c.args.len (omega (arith, c.requires, c.if-used-ne0.true)) c.requires
