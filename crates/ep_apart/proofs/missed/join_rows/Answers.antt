use Rattle.std.proofs.Common.{[], length, ◌∙◌, refl, sym, ap, get_or}
use Rattle.std.proofs.lemmas.List.{get_or_default}
use Rattle.ep_logic.specs.Rows.{either}
use Rattle.ep_logic.proofs.CallerLemmas.{either_long}
use Rattle.ep_apart.proofs.MissedLemmas.{joined_more, all_joined}
use Rattle.ep_apart.proofs.missed.join_rows.Goals as goal

pub loop-x-preserved : goal.loop-x-preserved
loop-x-preserved c =
    let rows = c.args.rows.now in
    let i = c.loop-x.x-index in
    let x = get_or c.args.chosen.now i 0 in
    let b = c.requires.within i 0 c.loop-x-test.true in
    let row = c.index-rows-x.is ∙ get_or_default rows x c.index-rows-x.result [] b in
    record {
      long = ap length c.or_with.ensures ∙ either_long c.loop-x.row c.index-rows-x.result (c.loop-x.invariant.long ∙ sym (c.requires.wide.wide x b) ∙ ap length (sym row)) ∙ c.loop-x.invariant.long;
      has = joined_more rows c.args.chosen.now i x c.loop-x.row c.or_with.new.self refl (c.or_with.ensures ∙ ap (either c.loop-x.row) row) c.loop-x.invariant.has;
    }

pub returns-clause-joins : goal.returns-clause-joins
returns-clause-joins c = all_joined c.args.rows.now c.args.chosen.now c.loop-x.x-index c.loop-x.row c.loop-x-test.false c.loop-x.invariant.has
