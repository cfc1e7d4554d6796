use Rattle.ep_kripke.proofs.StateLemmas.{rows_fit}
use Rattle.ep_kripke.proofs.state.State.from_rows.Goals as goal

pub named_relations-requires-clause-fit : goal.named_relations-requires-clause-fit
named_relations-requires-clause-fit c =
    rw (c.as_slice.ensures, c.as_slice-2.ensures) (rows_fit c.args.agents c.args.atoms c.args.truth c.args.relations c.args.designated c.requires.valid c.requires.rows)
