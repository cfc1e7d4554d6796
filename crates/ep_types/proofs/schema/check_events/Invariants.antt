use Rattle.std.proofs.Common.{◌≡◌, ◌++◌, drop}
use Rattle.ep_types.specs.Faults.{first_fault}
use Rattle.ep_types.specs.Names.{names_of}
use Rattle.ep_types.specs.Places.{scope}
use Rattle.ep_types.specs.Tasks.{event_uses, event_names}
use Rattle.ep_types.proofs.schema.check_events.Given as goal

abbrev pub invariant-loop-entry : goal.invariant-loop-entry
invariant-loop-entry l =
    let s = scope l.names l.fn.frame in
    record {
      left : first_fault (event_uses (names_of l.fn.before) l.list s) ≡ first_fault (event_uses (names_of l.before) (drop l.entry-index l.list) s);
      kept : l.frame ≡ l.fn.frame;
      after : names_of l.fn.before ++ event_names l.list ≡ names_of l.before ++ event_names (drop l.entry-index l.list);
    }
