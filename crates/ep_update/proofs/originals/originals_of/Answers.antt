use Rattle.std.proofs.Common.{◌≡◌, ◌≤◌, ◌<◌, ◌∙◌, ap, arith, length}
use Rattle.ep_logic.proofs.CallerLemmas.{length-snoc}
use Rattle.ep_theory.specs.Product.{places}
use Rattle.ep_update.specs.Places.{place_row}
use Rattle.ep_update.proofs.RowLemmas.{place_in}
use Rattle.ep_update.proofs.OriginalLemmas.{names_long, pair_in, pair_tells, worlds_in, original_more, slot_within}
use Rattle.ep_update.proofs.originals.originals_of.Goals as goal

pub pair_at-r-requires : goal.pair_at-r-requires
pair_at-r-requires c = omega (arith, (place_in c.args.s.now c.args.a.now c.args.list.now c.loop-i.i c.requires.list c.loop-i-test.true).0, names_long c.args.s.now c.args.a.now c.args.agent c.names.result.0.now c.names.result.1.now c.relation.result.now c.args.list.now c.names.ensures.rows c.relation.ensures.rows c.relation.ensures.each c.requires.list)

pub slot-at-requires-clause-event : goal.slot-at-requires-clause-event
slot-at-requires-clause-event c =
    let p = pair_in c.args.s.now c.args.a.now c.names.result.0.now (length c.names.result.1.now) c.loop-i.i c.args.list.now c.pair_at-r.result (names_long c.args.s.now c.args.a.now c.args.agent c.names.result.0.now c.names.result.1.now c.relation.result.now c.args.list.now c.names.ensures.rows c.relation.ensures.rows c.relation.ensures.each c.requires.list) c.names.ensures.within c.requires.list c.loop-i-test.true c.pair_at-r.ensures in
    omega (arith, p.event, c.events-events.ensures.value)

pub index-requires : goal.index-requires
index-requires c =
    let p = pair_in c.args.s.now c.args.a.now c.names.result.0.now (length c.names.result.1.now) c.loop-i.i c.args.list.now c.pair_at-r.result (names_long c.args.s.now c.args.a.now c.args.agent c.names.result.0.now c.names.result.1.now c.relation.result.now c.args.list.now c.names.ensures.rows c.relation.ensures.rows c.relation.ensures.each c.requires.list) c.names.ensures.within c.requires.list c.loop-i-test.true c.pair_at-r.ensures in
    let l : c.pair_at-r.result.0 < c.len.result = omega (arith, p.row, c.len.ensures) in
    let m : c.pair_at-r.result.1 < c.events-events.result = omega (arith, p.event, c.events-events.ensures.value) in
    omega (arith, slot_within c.pair_at-r.result.0 c.pair_at-r.result.1 c.len.result c.events-events.result l m, c.slot-at.ensures, c.loop-i.invariant.slots, c.in_ok-hint.ensures.len)

pub original_at-original-requires-clause-worlds : goal.original_at-original-requires-clause-worlds
original_at-original-requires-clause-worlds c = worlds_in c.args.s.now c.args.a.now (length c.names.result.0.now) c.args.list.now c.requires.list (names_long c.args.s.now c.args.a.now c.args.agent c.names.result.0.now c.names.result.1.now c.relation.result.now c.args.list.now c.names.ensures.rows c.relation.ensures.rows c.relation.ensures.each c.requires.list)

pub index_mut-requires : goal.index_mut-requires
index_mut-requires c =
    let p = pair_in c.args.s.now c.args.a.now c.names.result.0.now (length c.names.result.1.now) c.loop-i.i c.args.list.now c.pair_at-r.result (names_long c.args.s.now c.args.a.now c.args.agent c.names.result.0.now c.names.result.1.now c.relation.result.now c.args.list.now c.names.ensures.rows c.relation.ensures.rows c.relation.ensures.each c.requires.list) c.names.ensures.within c.requires.list c.loop-i-test.true c.pair_at-r.ensures in
    let l : c.pair_at-r.result.0 < c.len.result = omega (arith, p.row, c.len.ensures) in
    let m : c.pair_at-r.result.1 < c.events-events.result = omega (arith, p.event, c.events-events.ensures.value) in
    omega (arith, slot_within c.pair_at-r.result.0 c.pair_at-r.result.1 c.len.result c.events-events.result l m, c.slot-at.ensures, c.loop-i.invariant.slots, c.in_ok-hint.ensures.len)

pub loop-i-preserved : goal.loop-i-preserved
loop-i-preserved c = record {
  long = omega (arith, ap length c.in_ok-push.ensures.items, length-snoc c.loop-i.originals.items c.original_at-original.result, c.loop-i.invariant.long);
  no_later = original_more (λ k o. o ≤ k) c.loop-i.originals.items c.push.new.self.items c.loop-i.i c.original_at-original.result c.loop-i.invariant.long c.in_ok-push.ensures.items c.loop-i.invariant.no_later c.original_at-original.ensures.no_later;
  slots = c.loop-i.invariant.slots;
  equal = original_more (λ k o. place_row c.args.s.now c.args.a.now c.args.agent o ≡ place_row c.args.s.now c.args.a.now c.args.agent k) c.loop-i.originals.items c.push.new.self.items c.loop-i.i c.original_at-original.result
      c.loop-i.invariant.long c.in_ok-push.ensures.items c.loop-i.invariant.equal
      (pair_tells c.args.s.now c.args.a.now c.args.agent c.names.result.0.now c.names.result.1.now c.relation.result.now c.args.list.now c.names.ensures.rows c.relation.ensures.rows c.relation.ensures.each c.requires.list
      c.original_at-original.result c.loop-i.i (omega (arith, c.original_at-original.ensures.no_later, c.loop-i-test.true)) c.loop-i-test.true c.original_at-original.ensures.same);
}

pub returns : goal.returns
returns c =
    let all : c.loop-i.i ≡ length (places c.args.s.now c.args.a.now) = omega (arith, c.loop-i-test.false, c.loop-i.auto.i-end, ap length c.requires.list) in
    record {
      long = c.loop-i.invariant.long ∙ all;
      no_later = λ k l. c.loop-i.invariant.no_later k (omega (arith, l, all));
      equal = λ k l. c.loop-i.invariant.equal k (omega (arith, l, all));
    }
