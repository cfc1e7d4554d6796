use Rattle.std.proofs.Common.{◌≡◌, ◌++◌, drop}
use Rattle.ep_types.specs.Faults.{first_fault}
use Rattle.ep_types.specs.Names.{names_of}
use Rattle.ep_types.specs.Places.{scope}
use Rattle.ep_types.specs.Tasks.{world_uses, world_names}
use Rattle.ep_types.proofs.init.check_worlds.Given as goal

abbrev pub invariant-loop-entry : goal.invariant-loop-entry
invariant-loop-entry l =
    let s = scope l.names l.frame in
    record {
      left : first_fault (world_uses (names_of l.fn.before) l.list s) ≡ first_fault (world_uses (names_of l.before) (drop l.entry-index l.list) s);
      after : names_of l.fn.before ++ world_names l.list ≡ names_of l.before ++ world_names (drop l.entry-index l.list);
    }
