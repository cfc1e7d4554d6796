use Rattle.std.proofs.Common.{◌<◌, ◌≤◌, length, slice_index, subst, ap, ◌∙◌, arith}
use Rattle.ep_refine.specs.Blocks.{start_of, end_of}
use Rattle.ep_refine.specs.Touching.{Adds}
use Rattle.ep_refine.proofs.LeaveLemmas.{leaves}
use Rattle.ep_refine.proofs.leaving.leave_span.Goals as goal

pub note_places-requires-clause-rising : goal.note_places-requires-clause-rising
note_places-requires-clause-rising c =
    let p = c.largest.result in
    let w = c.world_at-kept.ensures.here in
    let h = (c.requires.closed p c.largest.ensures.from c.largest.ensures.to).0 in
    let e = c.start.ensures ∙ ap (start_of c.args.b.now) w in
    omega (arith, h, e)

pub note_places-requires-2-clause-rising : goal.note_places-requires-2-clause-rising
note_places-requires-2-clause-rising c =
    let p = c.largest.result in
    let w = c.world_at-kept.ensures.here in
    let h = (c.requires.closed p c.largest.ensures.from c.largest.ensures.to).1 in
    let e = c.end.ensures ∙ ap (end_of c.args.b.now) w in
    omega (arith, h, e)

pub returns-clause-leaves : goal.returns-clause-leaves
returns-clause-leaves c =
    let b = c.args.b.now in
    let n = length b.order.items in
    let p = c.largest.result in
    let w = c.world_at-kept.ensures.here in
    leaves n b c.requires.valid c.args.from c.args.to p c.requires.inside c.requires.closed c.largest.ensures.from c.largest.ensures.to c.largest.ensures.largest
    c.args.moved.now.items c.note_places.new.moved.items c.note_places-2.new.moved.items
    (subst (λ x. Adds (λ u. (u < n) × (c.args.from ≤ slice_index b.place.items u) × (slice_index b.place.items u < x)) c.args.moved.now.items c.note_places.new.moved.items) (c.start.ensures ∙ ap (start_of b) w) c.in_ok-note_places.ensures.adds)
    (subst (λ x. Adds (λ u. (u < n) × (x ≤ slice_index b.place.items u) × (slice_index b.place.items u < c.args.to)) c.note_places.new.moved.items c.note_places-2.new.moved.items) (c.end.ensures ∙ ap (end_of b) w) c.in_ok-note_places-2.ensures.adds)
