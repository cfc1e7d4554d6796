use Rattle.std.proofs.Common.{not, map, ap, ◌∙◌}
use Rattle.ep_logic.proofs.WordLemmas.{not_false}
use Rattle.ep_logic.proofs.bits.Bits.ones.Goals as goal

pub returns : goal.returns
returns c = c.flip.ensures ∙ ap (map not) c.in_ok-row.ensures ∙ not_false c.args.len
