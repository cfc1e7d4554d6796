use Rattle.std.proofs.Common.{ℕ, map, sym, subst}
use Rattle.std.specs.Result.{OnOk}
use Rattle.std.proofs.lemmas.Result.{on_ok_weaker}
use Rattle.ep_kripke.specs.declared.row_set.Kept.{Kept}
use Rattle.ep_kripke.specs.Relations.{members, Extends}
use Rattle.ep_kripke.specs.Kept.{kept_rows}
use Rattle.ep_kripke.proofs.NamingLemmas.{members_extend}
use Rattle.ep_kripke.proofs.naming.name_of.Goals as goal

pub returns-in-Packed-clause-more : goal.returns-in-Packed-clause-more
returns-in-Packed-clause-more c =
    subst (λ (k : Kept). OnOk c.name_of_bits.result (Extends (kept_rows k) (map members c.name_of_bits.new.table.rows))) (sym c.in-Packed.is)
    (on_ok_weaker c.name_of_bits.result (members_extend c.in-Packed.table.rows c.name_of_bits.new.table.rows) c.name_of_bits.ensures.more)
