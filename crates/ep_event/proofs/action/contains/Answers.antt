use Rattle.std.proofs.Common.{sym, ◌∙◌}
use Rattle.ep_theory.proofs.CallerLemmas.{to_has_number, from_has_number}
use Rattle.ep_event.proofs.action.contains.Goals as goal

pub returns : goal.returns
returns c =
    let xs = c.args.numbers.now in
    let x = c.args.number in
    (λ h. from_has_number xs x (sym c.contains.ensures.value ∙ h), λ i. c.contains.ensures.value ∙ to_has_number xs x i)
