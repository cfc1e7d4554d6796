use Rattle.std.proofs.Common.{◌≡◌, ◌<◌, ◌∙◌, ap, get_or, length, [], ◌∷◌, ◌++◌, arith, add-one}
use Rattle.ep_logic.specs.Numbers.{numbers_where, table}
use Rattle.ep_logic.specs.Rows.{true_places}
use Rattle.ep_logic.specs.Tables.{Table}
use Rattle.ep_logic.proofs.CallerLemmas.{get_or-table, true_places-table}
use Rattle.ep_event.specs.Built.{has_link}
use Rattle.ep_event.proofs.MarkLemmas.{square_long}
use Rattle.ep_event.proofs.relations.rows.Goals as goal

pub loop-event-preserved : goal.loop-event-preserved
loop-event-preserved c =
    let links = c.args.links.now in
    let a = c.args.agent in
    let n = c.args.events in
    let e = c.loop-event.event in
    let below : c.loop-event.event < c.args.events = omega arith in
    let row : c.in_ok-from_slice.field-0 ≡ numbers_where (has_link links a e) n =
    c.in_ok-from_slice.ensures ∙ c.as_slice.ensures ∙ c.in_ok-targets.ensures
    ∙ ap (λ (t : Table). true_places (get_or t.rows e [])) c.in_ok-square.ensures
    ∙ ap true_places (get_or-table (λ e. table (has_link links a e) n) n e [] below)
    ∙ true_places-table (has_link links a e) n in
    rw add-one (c.in_ok-push.ensures.ok ∙ (λ i. c.loop-event.invariant i ++ row i ∷ []))

pub places-requires : goal.places-requires
places-requires c = omega (arith, ap (λ (t : Table). length t.rows) c.in_ok-square.ensures, square_long c.args.links.now c.args.events c.args.agent)
