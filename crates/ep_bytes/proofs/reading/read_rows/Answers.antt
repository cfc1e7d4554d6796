use Rattle.std.proofs.Common.{◌≡◌, [], length, sym, ap, subst, ◌∙◌, arith}
use Rattle.std.proofs.lemmas.Bool.{eqb-true}
use Rattle.std.proofs.lemmas.List.{nil_from_length}
use Rattle.ep_theory.specs.Kripke.{IsState}
use Rattle.ep_kripke.specs.States.{state_of, IsBounded, HaveRows}
use Rattle.ep_bytes.specs.Reading.{told_numbers, told_designated, told_truth}
use Rattle.ep_bytes.specs.declared.limits.TheConstants.{MOST_WRITTEN_WORLDS}
use Rattle.ep_bytes.proofs.ReadingLemmas.{tells_designated}
use Rattle.ep_bytes.proofs.ToldLemmas.{not_empty, told_have_rows, told_is_state, told_is_bounded}
use Rattle.ep_bytes.proofs.reading.read_rows.Goals as goal

pub returns-then-is_empty-clause-refused : goal.returns-then-is_empty-clause-refused
returns-then-is_empty-clause-refused c = λ D h.
    let bytes = c.args.bytes.now in
    let s = c.args.sizes.now in
    let v = c.in_ok-designated.designated in
    let told : v.items ≡ told_designated bytes s = c.in_ok-designated.ensures ∙ ap (λ at. told_numbers bytes at s.worlds) c.designated_start.ensures.value in
    let none : v.len ≡ 0 = eqb-true v.len 0 (sym c.if-is_empty.ensures) in
    let empty : v.items ≡ [] = nil_from_length v.items (omega (arith, none, v.ok.0)) in
    tells_designated MOST_WRITTEN_WORLDS bytes D h (omega arith) s c.requires.worlds c.requires.agents c.requires.atoms (sym told ∙ empty)

pub from_rows-requires-clause-rows : goal.from_rows-requires-clause-rows
from_rows-requires-clause-rows c =
    let bytes = c.args.bytes.now in
    let s = c.args.sizes.now in
    subst (λ t. HaveRows (length t) c.in_ok-relations.relations) (sym c.in_ok-truth.ensures)
    (subst (HaveRows (length (told_truth bytes s))) (sym c.in_ok-relations.ensures) (told_have_rows bytes s))

pub from_rows-requires-clause-valid : goal.from_rows-requires-clause-valid
from_rows-requires-clause-valid c =
    let bytes = c.args.bytes.now in
    let s = c.args.sizes.now in
    let v = c.in_ok-designated.designated in
    let told : v.items ≡ told_designated bytes s = c.in_ok-designated.ensures ∙ ap (λ at. told_numbers bytes at s.worlds) c.designated_start.ensures.value in
    let some = not_empty v.items (told_designated bytes s) v.len v.ok.0 c.if-is_empty.ensures told in
    subst IsState (sym (λ i. state_of s.agents s.atoms (c.in_ok-truth.ensures i) (c.in_ok-relations.ensures i) ((c.from_vec-designated.ensures ∙ told) i)))
    (told_is_state bytes s c.requires.small.some_world some)

pub from_rows-requires-clause-bounded : goal.from_rows-requires-clause-bounded
from_rows-requires-clause-bounded c =
    let bytes = c.args.bytes.now in
    let s = c.args.sizes.now in
    let named : c.from_vec-designated.result ≡ told_designated bytes s =
    c.from_vec-designated.ensures ∙ c.in_ok-designated.ensures ∙ ap (λ at. told_numbers bytes at s.worlds) c.designated_start.ensures.value in
    subst IsBounded (sym (λ i. state_of s.agents s.atoms (c.in_ok-truth.ensures i) (c.in_ok-relations.ensures i) (named i))) (told_is_bounded bytes s c.requires.small)

pub returns-clause-valid : goal.returns-clause-valid
returns-clause-valid c =
    let bytes = c.args.bytes.now in
    let s = c.args.sizes.now in
    let v = c.in_ok-designated.designated in
    let told : v.items ≡ told_designated bytes s = c.in_ok-designated.ensures ∙ ap (λ at. told_numbers bytes at s.worlds) c.designated_start.ensures.value in
    let some = not_empty v.items (told_designated bytes s) v.len v.ok.0 c.if-is_empty.ensures told in
    subst IsState (sym (c.in_ok-state.ensures ∙ (λ i. state_of s.agents s.atoms (c.in_ok-truth.ensures i) (c.in_ok-relations.ensures i) ((c.from_vec-designated.ensures ∙ told) i))))
    (told_is_state bytes s c.requires.small.some_world some)
