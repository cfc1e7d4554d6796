use Rattle.std.proofs.Common.{refl}
use Rattle.ep_refine.proofs.TouchLemmas.{listed_none}
use Rattle.ep_refine.proofs.touching.no_worlds.Goals as goal

pub returns-clause-listed : goal.returns-clause-listed
returns-clause-listed c = listed_none c.args.worlds c.args.worlds c.in_ok-ones.field-0 c.new.result.items c.in_ok-ones.ensures c.new.ensures.items refl
