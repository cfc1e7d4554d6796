use Rattle.std.proofs.Common.{◌∙◌, sym, ap, sum_by, length, ℕ, arith}
use Rattle.ep_theory.proofs.CallerLemmas.{sum_by-pairs}
use Rattle.ep_kripke.proofs.state.State.from_relations.Goals as goal

pub total_of-links-requires : goal.total_of-links-requires
total_of-links-requires c = rw c.as_slice.ensures (omega (arith, sum_by-pairs c.args.relations, c.requires.bounded.links))

pub invariant_of-result : goal.invariant_of-result
invariant_of-result c = (
  record {
    rows = c.requires.rows;
    valid = c.requires.valid;
    bounded = c.requires.bounded;
    count = c.total_of-links.ensures ∙ ap (sum_by (sum_by (length {A = ℕ}))) c.as_slice.ensures ∙ sym (sum_by-pairs c.args.relations);
  },
  c.requires.width,
)
