use Rattle.std.proofs.Common.{◌≡◌, ◌+◌, ◌*◌, get_or, arith}
use Rattle.std.proofs.lemmas.Bool.{false≢true}
use Rattle.ep_bytes.specs.declared.reading.Sizes.{Sizes}
use Rattle.ep_bytes.proofs.ReadingLemmas.{not_short, are_small, are_few, are_long}
use Rattle.ep_bytes.proofs.reading.read_sizes.Goals as goal

pub returns-then-bytes-lt5-clause-refused : goal.returns-then-bytes-lt5-clause-refused
returns-then-bytes-lt5-clause-refused c = λ D h. not_short c.args.most_worlds c.args.bytes.now D h c.requires c.if-bytes-lt5.true

pub returns-then-not-are_small-clause-refused : goal.returns-then-not-are_small-clause-refused
returns-then-not-are_small-clause-refused c = λ D h.
    let bytes = c.args.bytes.now in
    let s : Sizes = record { worlds = c.from.result * 256 + c.from-2.result; agents = c.from-3.result; atoms = c.from-4.result * 256 + c.from-5.result } in
    let worlds : s.worlds ≡ get_or bytes 0 0 * 256 + get_or bytes 1 0 = omega (arith, c.from.ensures, c.from-2.ensures) in
    let atoms : s.atoms ≡ get_or bytes 3 0 * 256 + get_or bytes 4 0 = omega (arith, c.from-4.ensures, c.from-5.ensures) in
    false≢true (c.if-not-are_small.ensures.1 (are_small c.args.most_worlds bytes D h c.requires s worlds c.from-3.ensures atoms))

pub returns-then-sizes-most_worlds-clause-refused : goal.returns-then-sizes-most_worlds-clause-refused
returns-then-sizes-most_worlds-clause-refused c = λ D h.
    let bytes = c.args.bytes.now in
    let s : Sizes = record { worlds = c.from.result * 256 + c.from-2.result; agents = c.from-3.result; atoms = c.from-4.result * 256 + c.from-5.result } in
    let worlds : s.worlds ≡ get_or bytes 0 0 * 256 + get_or bytes 1 0 = omega (arith, c.from.ensures, c.from-2.ensures) in
    let atoms : s.atoms ≡ get_or bytes 3 0 * 256 + get_or bytes 4 0 = omega (arith, c.from-4.ensures, c.from-5.ensures) in
    let few = are_few c.args.most_worlds bytes D h c.requires s worlds c.from-3.ensures atoms in
    let more = c.if-sizes-most_worlds.true in
    absurd (omega (arith, few, more))

pub returns-then-bytes-length_of-clause-refused : goal.returns-then-bytes-length_of-clause-refused
returns-then-bytes-length_of-clause-refused c = λ D h.
    let bytes = c.args.bytes.now in
    let s : Sizes = record { worlds = c.from.result * 256 + c.from-2.result; agents = c.from-3.result; atoms = c.from-4.result * 256 + c.from-5.result } in
    let worlds : s.worlds ≡ get_or bytes 0 0 * 256 + get_or bytes 1 0 = omega (arith, c.from.ensures, c.from-2.ensures) in
    let atoms : s.atoms ≡ get_or bytes 3 0 * 256 + get_or bytes 4 0 = omega (arith, c.from-4.ensures, c.from-5.ensures) in
    let long = are_long c.args.most_worlds bytes D h c.requires s worlds c.from-3.ensures atoms in
    let other = c.if-bytes-length_of.true in
    let told = c.length_of.ensures in
    absurd (omega (arith, long, other, told))
