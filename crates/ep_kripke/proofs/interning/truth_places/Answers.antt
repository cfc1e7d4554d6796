use Rattle.std.proofs.Common.{◌≡◌, [], get_or, ap, ◌∙◌, arith}
use Rattle.ep_logic.specs.Packed.{unpacked}
use Rattle.ep_kripke.proofs.InterningLemmas.{places_next, places_all, keeps_more}
use Rattle.ep_kripke.proofs.interning.truth_places.Goals as goal

pub loop-w-preserved : goal.loop-w-preserved
loop-w-preserved c =
    let l = c.loop-w in
    let n = c.in_ok-number.ensures in
    let row : c.in_ok-row.row ≡ get_or c.args.truth.now.rows c.loop-w.w [] = c.in_ok-row.ensures ∙ ap (unpacked c.row.result.now) c.width.ensures ∙ c.row.ensures.value in
    record {
      stand = places_next l.table c.number.new.self l.places.items c.push.new.self.items c.args.truth.now.rows l.w c.in_ok-number.field-0 c.in_ok-row.row n.kept l.invariant.stand n.place
          (omega (arith, c.loop-w-test.true, c.len-w-end.ensures)) row c.in_ok-push.ensures.items;
      kept = keeps_more c.args.table.now l.table c.number.new.self l.invariant.kept n.kept;
    }

pub returns-clause-places : goal.returns-clause-places
returns-clause-places c = places_all c.loop-w.table c.loop-w.places.items c.args.truth.now.rows c.loop-w.w c.loop-w.invariant.stand (omega (arith, c.loop-w-test.false, c.len-w-end.ensures))
