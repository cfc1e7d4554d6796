use Rattle.std.proofs.Common.{◌≡◌, take}
use Rattle.std.specs.List.{flat_map}
use Rattle.ep_types.specs.Atoms.{texts}
use Rattle.ep_universe.proofs.names.object_names.Given as goal

abbrev pub invariant-loop-entry : goal.invariant-loop-entry
invariant-loop-entry l = l.names ≡ flat_map (λ e. texts e.names) (take l.entry-index l.typed.objects)
