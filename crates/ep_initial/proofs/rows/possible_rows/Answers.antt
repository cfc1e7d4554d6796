use Rattle.std.proofs.Common.{◌≡◌, IfOk, length, ap, subst, ◌∙◌}
use Rattle.ep_logic.specs.Numbers.{has_number, table}
use Rattle.ep_initial.specs.Valuations.{numbers_of, valued_rows}
use Rattle.ep_initial.proofs.ValuationLemmas.{filled_candidates}
use Rattle.ep_initial.proofs.rows.possible_rows.Goals as goal

pub returns : goal.returns
returns c =
    let facts = numbers_of c.args.universe.now.names c.args.facts.now in
    subst (λ n. IfOk c.fill_rows.result (λ rows. rows ≡ valued_rows n c.args.varied.now facts)) c.atoms-atoms.ensures.value
    (filled_candidates c.atoms-atoms.result c.args.varied.now facts c.in_ok-facts.facts
    (c.in_ok-facts.ensures ∙ ap (λ xs. table (has_number xs) c.atoms-atoms.result) (c.as_slice.ensures ∙ c.in_ok-numbers.ensures)) c.fill_rows.result c.fill_rows.ensures)
