use Rattle.std.proofs.Common.{◌≡◌, [], get_or, ap, sym, ◌∙◌}
use Rattle.ep_logic.specs.Packed.{unpacked}
use Rattle.ep_kripke.specs.Interning.{row_of}
use Rattle.ep_kripke.specs.Relations.{members}
use Rattle.ep_kripke.proofs.WordLemmas.{length-unpacked}
use Rattle.ep_kripke.proofs.InterningLemmas.{row_again}
use Rattle.ep_kripke.proofs.row_set.words_of.Goals as goal

pub returns-then-width-worlds-clause-value : goal.returns-then-width-worlds-clause-value
returns-then-width-worlds-clause-value c =
    let ws = c.row.result.now in
    let is : unpacked c.row.result.now c.args.worlds ≡ get_or c.args.table.now.rows c.args.r [] = ap (unpacked ws) (sym c.if-width-worlds.true ∙ c.width.ensures) ∙ c.row.ensures.value in
    row_again c.args.worlds (unpacked ws c.args.worlds) (length-unpacked ws c.args.worlds) ∙ ap (λ row. row_of c.args.worlds (members row)) is
