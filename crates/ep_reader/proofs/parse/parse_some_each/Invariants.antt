use Rattle.std.proofs.Common.{◌-◌}
use Rattle.ep_reader.specs.Reading.{some_each}
use Rattle.ep_reader.proofs.Loops.{Going}
use Rattle.ep_reader.proofs.parse.parse_some_each.Given as goal

abbrev pub invariant-loop : goal.invariant-loop
invariant-loop g l =
    Going g.T.Parse.starts g.T.Parse.reads (l.end - l.counter) l.items l.reader.0 l.reader.1 (some_each g.T.Parse.starts g.T.Parse.reads l.fn.reader.0 l.fn.reader.1)
