use Rattle.std.proofs.Common.{◌-◌}
use Rattle.ep_tree.specs.declared.terminal.Terminal.TheVariants as the
use Rattle.ep_reader.specs.Reading.{listed, behind_key}
use Rattle.ep_tree.specs.Terminals.{is}
use Rattle.ep_reader.proofs.Loops.{Going}
use Rattle.ep_reader.proofs.parse.parse_listed.Given as goal

abbrev pub invariant-loop : goal.invariant-loop
invariant-loop g l =
    Going (is the.Comma) (behind_key the.Comma g.T.Parse.reads) (l.end - l.counter) l.items l.reader.0 l.reader.1 (listed the.Comma g.T.Parse.reads l.fn.reader.0 l.fn.reader.1)
