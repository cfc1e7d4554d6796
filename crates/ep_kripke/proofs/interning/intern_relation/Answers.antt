use Rattle.std.proofs.Common.{◌≡◌, ℕ, length, map, sum_by, sym, ap, subst, ◌∙◌}
use Rattle.ep_kripke.specs.Relations.{named_rows}
use Rattle.ep_kripke.specs.Interning.{row_of, ArePlaces}
use Rattle.ep_kripke.proofs.InterningLemmas.{rows_again, places_of_names}
use Rattle.ep_kripke.proofs.interning.intern_relation.Goals as goal

pub from_named-requires-clause-count : goal.from_named-requires-clause-count
from_named-requires-clause-count c =
    let n = c.names.ensures in
    c.total-links.ensures
    ∙ ap (sum_by (length {A = ℕ})) (sym (rows_again c.args.worlds c.names.result.1.now c.names.result.0.now c.in_ok-names.names.items c.args.relation.now c.from_shared.result c.in_ok-shared.field-0.rows
    n.within n.rows c.requires c.in_ok-names.ensures.items c.in_ok-shared.ensures.rows c.from_shared.ensures))

pub returns-clause-relation : goal.returns-clause-relation
returns-clause-relation c =
    let n = c.names.ensures in
    c.in_ok-from_named.ensures
    ∙ rows_again c.args.worlds c.names.result.1.now c.names.result.0.now c.in_ok-names.names.items c.args.relation.now c.from_shared.result c.in_ok-shared.field-0.rows
    n.within n.rows c.requires c.in_ok-names.ensures.items c.in_ok-shared.ensures.rows c.from_shared.ensures

pub returns-clause-places : goal.returns-clause-places
returns-clause-places c =
    let n = c.names.ensures in
    let all = c.intern_rows.new.table in
    let ps : c.deref.result.now ≡ c.in_ok-shared.field-0.places.items = c.deref.ensures.value in
    subst (λ rows. ArePlaces c.intern_rows.new.table c.in_ok-places.places.items (map (row_of c.args.worlds) rows)) n.rows
    (subst (λ qs. ArePlaces c.intern_rows.new.table qs (map (row_of c.args.worlds) (named_rows c.names.result.0.now c.names.result.1.now))) (sym c.in_ok-places.ensures)
    (places_of_names all c.deref.result.now c.args.worlds c.names.result.1.now c.names.result.0.now
    (subst (λ qs. ArePlaces c.intern_rows.new.table qs (map (row_of c.args.worlds) c.names.result.1.now)) (sym ps) c.in_ok-shared.ensures.places) n.within))
