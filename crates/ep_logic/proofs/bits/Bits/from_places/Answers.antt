use Rattle.std.proofs.Common.{take, ap, ◌∙◌}
use Rattle.std.proofs.lemmas.List.{take_all}
use Rattle.ep_logic.specs.Numbers.{has_number, table}
use Rattle.ep_logic.proofs.NumberLemmas.{row_is_table}
use Rattle.ep_logic.proofs.bits.Bits.from_places.Goals as goal

pub returns : goal.returns
returns c =
    row_is_table (has_number (take c.loop-place.place-index c.args.places.now)) c.args.len c.loop-place.row c.loop-place.invariant.long c.loop-place.invariant.each
    ∙ ap (λ xs. table (has_number xs) c.args.len) (take_all c.loop-place.place-index c.args.places.now c.loop-place-test.false)
