use Rattle.std.proofs.Common.{◌<◌, ◌+◌, ℕ, length, slice_index, ap₂, sym, subst, ◌∙◌, arith, true, false, Bool}
use Rattle.ep_refine.specs.Blocks.{IsCut, start_of, end_of, side_of, middle_at, SidesAt}
use Rattle.ep_refine.proofs.CutLemmas.{same_start, same_end, cut_as, left_room, sides_are}
use Rattle.ep_refine.proofs.blocks.cut.Goals as goal

between : (front : Bool) (from to len : ℕ) → from + len < to → 0 < len → (from < middle_at front from to len) × (middle_at front from to len < to)
between true from to len l s = (omega arith, omega arith)
between false from to len l s = (omega arith, omega arith)

pub cut_at-requires-clause-low : goal.cut_at-requires-clause-low
cut_at-requires-clause-low c =
    let n = length c.args.b.now.order.items in
    let f = c.start-from.ensures in let t = c.end-to.ensures in
    let room = left_room n c.args.front c.args.b.now c.gather.new.b c.args.worlds.now c.gather.ensures.valid c.gather.ensures.ranks c.gather.ensures.starts c.gather.ensures.ends
    c.gather.ensures.inside c.gather.ensures.gathered c.requires.left.0 c.requires.left.1 c.requires.left.2 c.requires.left.3 in
    let s = same_start n c.args.front c.args.b.now c.gather.new.b c.args.worlds.now c.gather.ensures.valid c.gather.ensures.ranks c.gather.ensures.starts c.gather.ensures.ends (slice_index c.args.worlds.now 0) in
    let m = (between c.args.front c.start-from.result c.end-to.result (length c.args.worlds.now) (omega (arith, room, f, t)) c.requires.some).0 in
    let e = c.middle_of.ensures in
    omega (arith, m, e, s, f)

pub cut_at-requires-clause-high : goal.cut_at-requires-clause-high
cut_at-requires-clause-high c =
    let n = length c.args.b.now.order.items in
    let f = c.start-from.ensures in let t = c.end-to.ensures in
    let room = left_room n c.args.front c.args.b.now c.gather.new.b c.args.worlds.now c.gather.ensures.valid c.gather.ensures.ranks c.gather.ensures.starts c.gather.ensures.ends
    c.gather.ensures.inside c.gather.ensures.gathered c.requires.left.0 c.requires.left.1 c.requires.left.2 c.requires.left.3 in
    let s = same_end n c.args.front c.args.b.now c.gather.new.b c.args.worlds.now c.gather.ensures.valid c.gather.ensures.ranks c.gather.ensures.starts c.gather.ensures.ends (slice_index c.args.worlds.now 0) in
    let m = (between c.args.front c.start-from.result c.end-to.result (length c.args.worlds.now) (omega (arith, room, f, t)) c.requires.some).1 in
    let e = c.middle_of.ensures in
    omega (arith, m, e, s, t)

pub returns : goal.returns
returns c =
    let n = length c.args.b.now.order.items in
    let side = side_of c.args.front c.args.worlds.now in
    let f = c.start-from.ensures in let t = c.end-to.ensures in
    let sides = sides_are n c.args.front c.args.b.now c.gather.new.b c.args.worlds.now c.gather.ensures.valid c.gather.ensures.ranks c.gather.ensures.starts c.gather.ensures.ends
    c.gather.ensures.inside c.gather.ensures.gathered (c.requires.one.within 0 c.requires.some) c.requires.one.within c.middle_of.result
    (c.middle_of.ensures ∙ ap₂ (λ a b. middle_at c.args.front a b (length c.args.worlds.now)) f t) in
    cut_as n c.args.front c.args.b.now c.gather.new.b c.args.worlds.now c.gather.ensures.valid c.gather.ensures.ranks c.gather.ensures.starts c.gather.ensures.ends side c.cut_at.new.b
    (subst (λ m. IsCut m side c.gather.new.b c.cut_at.new.b) c.gather.ensures.valid.orders
    (c.cut_at.ensures side (subst (λ m. SidesAt m (slice_index c.gather.new.b.place.items) (start_of c.gather.new.b (slice_index c.args.worlds.now 0)) c.middle_of.result (end_of c.gather.new.b (slice_index c.args.worlds.now 0)) side) (sym c.gather.ensures.valid.orders) sides)))
