use Rattle.std.proofs.Common.{◌≡◌, ◌∷◌, ◌++◌, [], length, map, slice_get, Some, sym, ap, subst, ◌∙◌}
use Rattle.std.specs.List.{AllByRecursion, flat_map}
use Rattle.ep_logic.specs.Tables.{Table}
use Rattle.ep_theory.specs.Kripke.{Kripke}
use Rattle.ep_kripke.specs.States.{AreRow}
use Rattle.ep_kripke.specs.Interning.{row_of, ArePlaces, IsKeyOf}
use Rattle.ep_kripke.proofs.StateLemmas.{rows_fit}
use Rattle.ep_kripke.proofs.InterningLemmas.{keeps_more, places_kept, state_stands}
use Rattle.ep_kripke.proofs.state.State.intern.Goals as goal

pub intern_relations-requires : goal.intern_relations-requires
intern_relations-requires c =
    let s = c.self.inside in
    let w : c.worlds-worlds.result ≡ length c.self.inside.truth.value.rows = c.worlds-worlds.ensures.value ∙ sym (ap (λ (S : Kripke). S.worlds) c.self.view_is) in
    subst (λ n. AllByRecursion (AllByRecursion (AreRow n)) c.as_slice.result.now) (sym w)
    (subst (AllByRecursion (AllByRecursion (AreRow (length c.self.inside.truth.value.rows)))) (sym c.as_slice.ensures)
    (rows_fit s.agents s.atoms s.truth.value.rows s.relations s.designated c.self.invariant.0.valid c.self.invariant.0.rows))

pub returns-clause-key : goal.returns-clause-key
returns-clause-key c =
    let s = c.self.inside in
    let all = c.worlds_place.new.table in
    let w : c.worlds-worlds.result ≡ length c.self.inside.truth.value.rows = c.worlds-worlds.ensures.value ∙ sym (ap (λ (S : Kripke). S.worlds) c.self.view_is) in
    let t = c.in_ok-truth_rows.ensures in
    let r = c.in_ok-relations.ensures in
    let d = c.in_ok-last.ensures in
    let truth : ArePlaces c.worlds_place.new.table c.deref-2.result.now c.self.inside.truth.value.rows =
    subst (λ rows. ArePlaces c.worlds_place.new.table c.deref-2.result.now rows) (ap (λ (x : Table). x.rows) c.deref.ensures)
    (subst (λ ps. ArePlaces c.worlds_place.new.table ps c.deref.result.now.rows) (sym c.deref-2.ensures.value)
    (places_kept c.truth_places.new.table all c.in_ok-truth_rows.truth_rows.items c.deref.result.now.rows (keeps_more c.truth_places.new.table c.intern_relations.new.table all r.kept d.kept) t.places)) in
    let links : ArePlaces c.worlds_place.new.table c.deref-3.result.now (flat_map (map (row_of (length c.self.inside.truth.value.rows))) c.self.inside.relations) =
    subst (λ n. ArePlaces c.worlds_place.new.table c.deref-3.result.now (flat_map (map (row_of n)) c.self.inside.relations)) w
    (subst (λ rs. ArePlaces c.worlds_place.new.table c.deref-3.result.now (flat_map (map (row_of c.worlds-worlds.result)) rs)) c.as_slice.ensures
    (subst (λ ps. ArePlaces c.worlds_place.new.table ps (flat_map (map (row_of c.worlds-worlds.result)) c.as_slice.result.now)) (sym c.deref-3.ensures.value)
    (places_kept c.intern_relations.new.table all c.in_ok-relations.field-0.places.items (flat_map (map (row_of c.worlds-worlds.result)) c.as_slice.result.now) d.kept r.places))) in
    let last : slice_get c.worlds_place.new.table c.in_ok-last.last ≡ Some (row_of (length c.self.inside.truth.value.rows) c.self.inside.designated) =
    subst (λ n. slice_get c.worlds_place.new.table c.in_ok-last.last ≡ Some (row_of n c.self.inside.designated)) w
    (d.place ∙ ap (λ xs. Some (row_of c.worlds-worlds.result xs)) (c.designated.ensures.value ∙ sym (ap (λ (S : Kripke). S.designated) c.self.view_is))) in
    subst (λ (S : Kripke). IsKeyOf c.worlds_place.new.table S c.in_ok-key.key) c.self.view_is (record {
      places = c.deref-2.result.now ++ (c.deref-3.result.now ++ c.in_ok-last.last ∷ []);
      whole = c.in_ok-key.ensures ∙ ap (λ n. n ∷ c.self.inside.agents ∷ c.self.inside.atoms ∷ (c.deref-2.result.now ++ (c.deref-3.result.now ++ c.in_ok-last.last ∷ []))) w;
      stand = state_stands all s.agents s.atoms s.truth.value.rows s.relations s.designated c.deref-2.result.now c.deref-3.result.now c.in_ok-last.last c.self.invariant.0.rows truth links last;
    })

pub returns-clause-kept : goal.returns-clause-kept
returns-clause-kept c =
    keeps_more c.args.table.now c.truth_places.new.table c.worlds_place.new.table c.in_ok-truth_rows.ensures.kept
    (keeps_more c.truth_places.new.table c.intern_relations.new.table c.worlds_place.new.table c.in_ok-relations.ensures.kept c.in_ok-last.ensures.kept)
