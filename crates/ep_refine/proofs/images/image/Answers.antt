use Rattle.std.proofs.Common.{◌∙◌, slice_index, sym, ap, subst, length}
use Rattle.std.proofs.lemmas.List.{length-map}
use Rattle.ep_logic.specs.Rows.{value_at}
use Rattle.ep_logic.specs.Tables.{Table}
use Rattle.ep_theory.specs.Kripke.{IsState, truth_of}
use Rattle.ep_refine.proofs.ImageLemmas.{made_rows, made_state, made_bounded, made_image}
use Rattle.ep_refine.proofs.images.image.Goals as goal

pub from_relations-requires-clause-rows : goal.from_relations-requires-clause-rows
from_relations-requires-clause-rows c = made_rows c.args.s.now c.designated.ensures.valid c.designated.ensures.bounded (value_at c.args.keep.now) (slice_index c.args.numbers.now) c.args.chosen.now c.requires.choice c.requires.few
    c.agents.result c.atoms.result c.in_ok-truth.truth.value.rows c.in_ok-relations.relations c.designated.result.now c.from_vec-designated.result
    c.agents.ensures.value c.atoms.ensures.value (ap (λ (t : Table). t.rows) c.in_ok-truth.ensures) c.in_ok-relations.ensures c.designated.ensures.value (c.from_vec-designated.ensures ∙ c.in_ok-designated.ensures)

pub from_relations-requires-clause-valid : goal.from_relations-requires-clause-valid
from_relations-requires-clause-valid c = made_state c.args.s.now c.designated.ensures.valid c.designated.ensures.bounded (value_at c.args.keep.now) (slice_index c.args.numbers.now) c.args.chosen.now c.requires.choice c.requires.few
    c.agents.result c.atoms.result c.in_ok-truth.truth.value.rows c.in_ok-relations.relations c.designated.result.now c.from_vec-designated.result
    c.agents.ensures.value c.atoms.ensures.value (ap (λ (t : Table). t.rows) c.in_ok-truth.ensures) c.in_ok-relations.ensures c.designated.ensures.value (c.from_vec-designated.ensures ∙ c.in_ok-designated.ensures)

pub from_relations-requires-clause-bounded : goal.from_relations-requires-clause-bounded
from_relations-requires-clause-bounded c = made_bounded c.args.s.now c.designated.ensures.valid c.designated.ensures.bounded (value_at c.args.keep.now) (slice_index c.args.numbers.now) c.args.chosen.now c.requires.choice c.requires.few
    c.agents.result c.atoms.result c.in_ok-truth.truth.value.rows c.in_ok-relations.relations c.designated.result.now c.from_vec-designated.result
    c.agents.ensures.value c.atoms.ensures.value (ap (λ (t : Table). t.rows) c.in_ok-truth.ensures) c.in_ok-relations.ensures c.designated.ensures.value (c.from_vec-designated.ensures ∙ c.in_ok-designated.ensures)

pub returns : goal.returns
returns c = record {
  image = made_image c.args.s.now c.designated.ensures.valid c.designated.ensures.bounded (value_at c.args.keep.now) (slice_index c.args.numbers.now) c.args.chosen.now c.requires.choice c.requires.few
      c.agents.result c.atoms.result c.in_ok-truth.truth.value.rows c.in_ok-relations.relations c.designated.result.now c.from_vec-designated.result
      c.agents.ensures.value c.atoms.ensures.value (ap (λ (t : Table). t.rows) c.in_ok-truth.ensures) c.in_ok-relations.ensures c.designated.ensures.value (c.from_vec-designated.ensures ∙ c.in_ok-designated.ensures)
      c.from_relations.result c.from_relations.ensures;
  worlds = ap (λ q. q.worlds) c.from_relations.ensures ∙ ap (λ (t : Table). length t.rows) c.in_ok-truth.ensures ∙ length-map c.args.chosen.now (truth_of c.args.s.now);
  valid = subst IsState (sym c.from_relations.ensures) (made_state c.args.s.now c.designated.ensures.valid c.designated.ensures.bounded (value_at c.args.keep.now) (slice_index c.args.numbers.now) c.args.chosen.now c.requires.choice c.requires.few
      c.agents.result c.atoms.result c.in_ok-truth.truth.value.rows c.in_ok-relations.relations c.designated.result.now c.from_vec-designated.result
      c.agents.ensures.value c.atoms.ensures.value (ap (λ (t : Table). t.rows) c.in_ok-truth.ensures) c.in_ok-relations.ensures c.designated.ensures.value (c.from_vec-designated.ensures ∙ c.in_ok-designated.ensures));
}
