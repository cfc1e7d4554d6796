use Rattle.std.proofs.Common.{ap, sym, ◌∙◌}
use Rattle.ep_logic.specs.Packed.{unpacked}
use Rattle.ep_kripke.proofs.InterningLemmas.{row_again}
use Rattle.ep_kripke.proofs.row.Row.words_over.Goals as goal

pub returns-then-len-worlds-clause-value : goal.returns-then-len-worlds-clause-value
returns-then-len-worlds-clause-value c =
    ap (unpacked c.words.result.now) (sym c.if-len-worlds.true ∙ c.len.ensures) ∙ c.words.ensures.value
    ∙ row_again c.args.worlds c.args.self.now (sym c.len.ensures ∙ c.if-len-worlds.true)
