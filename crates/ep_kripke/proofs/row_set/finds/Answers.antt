use Rattle.std.proofs.Common.{sym, ◌∙◌}
use Rattle.std.proofs.lemmas.List.Sorted.{searched}
use Rattle.ep_kripke.proofs.StateLemmas.{found, never_falls}
use Rattle.ep_kripke.proofs.row_set.finds.Goals as goal

pub returns : goal.returns
returns c =
    let xs = c.args.numbers.now in
    let r = found c.args.numbers.now c.args.number c.binary_search.result
    (searched c.args.numbers.now c.args.number c.binary_search.result c.binary_search.ensures.position (never_falls c.args.numbers.now c.requires)) in
    (λ t. r.0 (sym c.is_ok.ensures.value ∙ t), λ i. c.is_ok.ensures.value ∙ r.1 i)
