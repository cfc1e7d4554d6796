use Rattle.std.proofs.Common.{false, get_or, length, sym, ap, ◌∙◌}
use Rattle.ep_kripke.proofs.WordLemmas.{unpacked-get}
use Rattle.ep_kripke.proofs.row.Row.get.Goals as goal

pub returns : goal.returns
returns c =
    c.bit_of.ensures
    ∙ sym (unpacked-get c.words.result.now (length c.args.self.now) c.args.i false c.requires)
    ∙ ap (λ r. get_or r c.args.i false) c.words.ensures.value
