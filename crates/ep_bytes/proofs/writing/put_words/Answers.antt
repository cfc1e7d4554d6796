use Rattle.std.proofs.Common.{◌≡◌, ◌++◌, length, sym, ap, ◌∙◌, arith}
use Rattle.ep_logic.specs.Numbers.{table}
use Rattle.ep_logic.specs.Packed.{unpacked}
use Rattle.ep_bytes.specs.Bytes.{row_byte, row_size}
use Rattle.ep_bytes.proofs.WordLemmas.{length-unpacked, byte_of_words}
use Rattle.ep_bytes.proofs.WritingLemmas.{one_more}
use Rattle.ep_bytes.proofs.writing.put_words.Goals as goal

pub loop-k-preserved : goal.loop-k-preserved
loop-k-preserved c =
    let byte = c.byte_of.ensures ∙ sym (byte_of_words c.args.words.now c.args.count c.loop-k.k c.requires.packed) in
    one_more (row_byte (unpacked c.args.words.now c.args.count)) c.args.bytes.now.items c.loop-k.bytes.items c.push.new.self.items c.byte_of.result c.loop-k.k c.loop-k.invariant byte c.in_ok-push.ensures.items

pub returns : goal.returns
returns c =
    let end = c.loop-k.auto.k-end in
    let test = c.loop-k-test.false in
    let count : c.loop-k.k ≡ row_size (length (unpacked c.args.words.now c.args.count)) =
    (let e : c.loop-k.k ≡ row_size c.args.count = omega (arith, end, test) in e) ∙ ap row_size (sym (length-unpacked c.args.words.now c.args.count)) in
    c.loop-k.invariant ∙ ap (λ k. c.args.bytes.now.items ++ table (row_byte (unpacked c.args.words.now c.args.count)) k) count
