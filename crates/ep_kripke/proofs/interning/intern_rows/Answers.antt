use Rattle.std.proofs.Common.{◌≡◌, ◌<◌, ◌∷◌, ◌++◌, [], get_or, length, map, sym, ◌∙◌, arith}
use Rattle.std.proofs.lemmas.List.{get_or-map, length-map, take_more, take_all}
use Rattle.std.proofs.lemmas.Option.{same_Some}
use Rattle.ep_kripke.specs.Interning.{row_of}
use Rattle.ep_kripke.proofs.InterningLemmas.{places_next, places_all, keeps_more}
use Rattle.ep_kripke.proofs.interning.intern_rows.Goals as goal

pub loop-at-preserved : goal.loop-at-preserved
loop-at-preserved c =
    let l = c.loop-at in
    let n = c.in_ok-place.ensures in
    let rows = map (row_of c.args.worlds) c.args.rows.now in
    let inside : c.loop-at.at < length c.args.rows.now = omega (arith, c.loop-at-test.true, c.len-at-end.ensures, c.requires) in
    let within : c.loop-at.at < length (map (row_of c.args.worlds) c.args.rows.now) = omega (arith, inside, length-map c.args.rows.now (row_of c.args.worlds)) in
    let row : c.in_ok-row.row ≡ get_or (map (row_of c.args.worlds) c.args.rows.now) c.loop-at.at [] = c.in_ok-row.ensures ∙ sym (get_or-map (row_of c.args.worlds) c.args.rows.now l.at [] [] inside) in
    let shared : c.in_ok-share.field-0 ≡ get_or (map (row_of c.args.worlds) c.args.rows.now) c.loop-at.at [] = c.in_ok-share.ensures ∙ same_Some _ _ (sym c.row-in-loop-at.ensures.value ∙ n.place) ∙ row in
    record {
      rows = c.in_ok-push.ensures.ok ∙ (λ i. l.invariant.rows i ++ shared i ∷ []) ∙ sym (take_more rows l.at [] within);
      stand = places_next l.table c.number.new.self l.places.items c.push-in-loop-at.new.self.items rows l.at c.in_ok-place.place c.in_ok-row.row n.kept l.invariant.stand n.place within row c.in_ok-push-2.ensures.items;
      kept = keeps_more c.args.table.now l.table c.number.new.self l.invariant.kept n.kept;
    }

pub returns-in_err-push-clause-kept : goal.returns-in_err-push-clause-kept
returns-in_err-push-clause-kept c = keeps_more c.args.table.now c.loop-at.table c.number.new.self c.loop-at.invariant.kept c.in_ok-place.ensures.kept

pub returns-in_err-push-2-clause-kept : goal.returns-in_err-push-2-clause-kept
returns-in_err-push-2-clause-kept c = keeps_more c.args.table.now c.loop-at.table c.number.new.self c.loop-at.invariant.kept c.in_ok-place.ensures.kept

pub returns-clause-rows : goal.returns-clause-rows
returns-clause-rows c =
    c.loop-at.invariant.rows
    ∙ take_all c.loop-at.at (map (row_of c.args.worlds) c.args.rows.now) (omega (arith, c.loop-at-test.false, c.len-at-end.ensures, c.requires, length-map c.args.rows.now (row_of c.args.worlds)))

pub returns-clause-places : goal.returns-clause-places
returns-clause-places c =
    places_all c.loop-at.table c.loop-at.places.items (map (row_of c.args.worlds) c.args.rows.now) c.loop-at.at c.loop-at.invariant.stand
    (omega (arith, c.loop-at-test.false, c.len-at-end.ensures, c.requires, length-map c.args.rows.now (row_of c.args.worlds)))
