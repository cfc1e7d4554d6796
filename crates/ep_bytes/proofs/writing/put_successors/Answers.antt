use Rattle.std.proofs.Common.{◌≡◌, ◌<◌, [], ◌++◌, length, get_or, ap, sym, ◌∙◌, arith}
use Rattle.std.specs.List.{flat_map}
use Rattle.std.proofs.lemmas.List.{append-nil}
use Rattle.ep_logic.specs.Numbers.{table}
use Rattle.ep_theory.specs.Kripke.{links_of, successors}
use Rattle.ep_kripke.proofs.CallerLemmas.{length-named}
use Rattle.ep_bytes.specs.Bytes.{row_size, row_bytes}
use Rattle.ep_kripke.specs.Interning.{row_of}
use Rattle.ep_bytes.proofs.WritingLemmas.{row_more, piece_inside, piece_is}
use Rattle.ep_bytes.proofs.writing.put_successors.Goals as goal

pub loop-w-init : goal.loop-w-init
loop-w-init c = sym (append-nil c.args.bytes.now.items)

pub piece-requires : goal.piece-requires
piece-requires c = piece_inside c.names.result.0.now c.deref.result.now c.names.result.1.now c.relation.result.now c.args.s.now.worlds c.worlds.result (row_size c.worlds-2.result) c.loop-w.w
    c.names.ensures.rows c.names.ensures.within c.loop-w-test.true (ap row_size c.worlds-2.ensures.value) c.worlds.ensures.value (c.deref.ensures.value ∙ c.in_ok-made.ensures)

pub loop-w-preserved : goal.loop-w-preserved
loop-w-preserved c =
    let S = c.args.s.now in
    let bytes : c.piece.result.now ≡ row_bytes (row_of S.worlds (get_or c.relation.result.now c.loop-w.w [])) =
    piece_is c.names.result.0.now c.deref.result.now c.names.result.1.now c.relation.result.now S.worlds c.worlds.result (row_size c.worlds-2.result) c.loop-w.w
    c.names.ensures.rows c.names.ensures.within c.loop-w-test.true (ap row_size c.worlds-2.ensures.value) c.worlds.ensures.value (c.deref.ensures.value ∙ c.in_ok-made.ensures)
    c.piece.result.now c.piece.ensures in
    let long = ap length c.names.ensures.rows in
    let named = length-named c.names.result.0.now c.names.result.1.now in
    let worlds = c.relation.ensures.rows in
    let test = c.loop-w-test.true in
    let inside : c.loop-w.w < S.worlds = omega (arith, test, long, named, worlds) in
    row_more row_bytes (λ w. row_of S.worlds (successors (links_of S c.args.a.n) w)) c.args.bytes.now.items c.loop-w.bytes.items c.extend_from_slice.new.self.items c.piece.result.now c.loop-w.w
    c.loop-w.invariant
    (bytes ∙ ap (λ xs. row_bytes (row_of S.worlds xs)) (c.relation.ensures.each c.loop-w.w inside))
    c.in_ok-extend_from_slice.ensures.items

pub returns : goal.returns
returns c =
    let S = c.args.s.now in
    let end = c.loop-w.auto.w-end in
    let test = c.loop-w-test.false in
    let long = ap length c.names.ensures.rows in
    let named = length-named c.names.result.0.now c.names.result.1.now in
    let worlds = c.relation.ensures.rows in
    let count : c.loop-w.w ≡ S.worlds = omega (arith, end, test, long, named, worlds) in
    c.loop-w.invariant ∙ ap (λ n. c.args.bytes.now.items ++ flat_map row_bytes (table (λ w. row_of S.worlds (successors (links_of S c.args.a.n) w)) n)) count
