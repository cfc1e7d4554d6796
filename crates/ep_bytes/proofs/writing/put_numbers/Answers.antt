use Rattle.ep_bytes.proofs.WritingLemmas.{packed_as, written_as}
use Rattle.ep_bytes.proofs.writing.put_numbers.Goals as goal

pub put_words-requires-clause-packed : goal.put_words-requires-clause-packed
put_words-requires-clause-packed c = packed_as c.words.result.now c.in_ok-row.row c.args.numbers.now c.args.count c.in_ok-row.ensures c.words.ensures.packed

pub returns : goal.returns
returns c = written_as c.put_words.result c.put_words.new.bytes.items c.args.bytes.now.items c.words.result.now c.in_ok-row.row c.args.numbers.now c.args.count
    c.in_ok-row.ensures c.words.ensures.value c.put_words.ensures
