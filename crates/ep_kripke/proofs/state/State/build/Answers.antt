use Rattle.std.proofs.Common.{◌≡◌, ◌∙◌, ap, subst, sym, map, ℕ, List}
use Rattle.ep_logic.specs.Numbers.{table}
use Rattle.ep_base.proofs.CallerLemmas.{told_none}
use Rattle.ep_theory.proofs.CallerLemmas.{All-from_each}
use Rattle.ep_kripke.specs.declared.parts.StateParts.{StateParts}
use Rattle.std.proofs.Common.{length}
use Rattle.std.specs.List.{AllByRecursion}
use Rattle.ep_logic.specs.Tables.{Table}
use Rattle.ep_theory.specs.Kripke.{IsState}
use Rattle.ep_kripke.specs.States.{state_of, IsBounded}
use Rattle.ep_theory.specs.Relations.{all_pairs}
use Rattle.ep_kripke.specs.Parts.{IsMadeOf, fault_of, linked_pairs, named_worlds}
use Rattle.ep_kripke.proofs.PartsLemmas.{NoFault, no_fault, valid_state, bounded_state, made_state}
use Rattle.ep_kripke.proofs.state.State.build.Goals as goal

pub relations_of-requires-clause-within : goal.relations_of-requires-clause-within
relations_of-requires-clause-within c = rw (c.as_slice.ensures, c.as_slice-2.ensures) (All-from_each _ c.args.parts.links (no_fault c.args.parts (told_none (fault_of c.args.parts) tt c.in_ok-check.ensures)).ends)

-- what is known once all is sorted
record IsSorted (p : StateParts) (relations : List (List (List ℕ))) (designated : List ℕ) : Type 0 where
  fine : NoFault p
  pairs : map all_pairs relations ≡ table (linked_pairs p.links) p.agents
  named : designated ≡ named_worlds p.designated

sorted : (c : goal.In_ok-truth) → IsSorted c.args.parts c.in_ok-relations.relations c.in_ok-designated.designated
sorted c = record {
  fine = no_fault c.args.parts (told_none (fault_of c.args.parts) tt c.in_ok-check.ensures);
  pairs = c.in_ok-relations.ensures.pairs ∙ ap (λ ls. table (linked_pairs ls) c.args.parts.agents) c.as_slice-2.ensures;
  named = c.in_ok-designated.ensures ∙ ap named_worlds c.as_slice-3.ensures;
}

rows_are : (c : goal.In_ok-truth) → c.in_ok-truth.truth.value.rows ≡ c.args.parts.truth
rows_are c = ap (λ (t : Table). t.rows) c.in_ok-truth.ensures ∙ c.as_slice-4.ensures

pub shared_truth-requires-clause-width : goal.shared_truth-requires-clause-width
shared_truth-requires-clause-width c = subst (λ rows. AllByRecursion (λ row. length row ≡ c.args.parts.atoms) rows) (sym c.as_slice-4.ensures) (All-from_each (λ row. length row ≡ c.args.parts.atoms) c.args.parts.truth (no_fault c.args.parts (told_none (fault_of c.args.parts) tt c.in_ok-check.ensures)).widths)

pub from_relations-requires-clause-width : goal.from_relations-requires-clause-width
from_relations-requires-clause-width c = ap (λ (t : Table). t.width) c.in_ok-truth.ensures

pub from_relations-requires-clause-rows : goal.from_relations-requires-clause-rows
from_relations-requires-clause-rows c = rw (rows_are c, ← c.as_slice.ensures) c.in_ok-relations.ensures.rows

pub from_relations-requires-clause-valid : goal.from_relations-requires-clause-valid
from_relations-requires-clause-valid c =
    let s = sorted c in
    subst (λ rows. IsState (state_of c.args.parts.agents c.args.parts.atoms rows c.in_ok-relations.relations c.in_ok-designated.designated)) (sym (rows_are c))
    (valid_state c.args.parts c.in_ok-relations.relations c.in_ok-designated.designated s.fine s.pairs s.named)

pub from_relations-requires-clause-bounded : goal.from_relations-requires-clause-bounded
from_relations-requires-clause-bounded c =
    let s = sorted c in
    subst (λ rows. IsBounded (state_of c.args.parts.agents c.args.parts.atoms rows c.in_ok-relations.relations c.in_ok-designated.designated)) (sym (rows_are c))
    (bounded_state c.args.parts c.in_ok-relations.relations c.in_ok-designated.designated s.fine s.pairs s.named c.requires.agents c.requires.atoms c.requires.truth c.requires.links)

pub returns-clause-made : goal.returns-clause-made
returns-clause-made c =
    let fine = no_fault c.args.parts (told_none (fault_of c.args.parts) tt c.in_ok-check.ensures) in
    let rows : c.in_ok-truth.truth.value.rows ≡ c.args.parts.truth = ap (λ (t : Table). t.rows) c.in_ok-truth.ensures ∙ c.as_slice-4.ensures in
    subst (IsMadeOf c.args.parts) (sym (c.from_relations.ensures ∙ ap (λ rows. state_of c.args.parts.agents c.args.parts.atoms rows c.in_ok-relations.relations c.in_ok-designated.designated) rows))
    (made_state c.args.parts c.in_ok-relations.relations c.in_ok-designated.designated fine
    (c.in_ok-relations.ensures.pairs ∙ ap (λ ls. table (linked_pairs ls) c.args.parts.agents) c.as_slice-2.ensures)
    (c.in_ok-designated.ensures ∙ ap named_worlds c.as_slice-3.ensures))
