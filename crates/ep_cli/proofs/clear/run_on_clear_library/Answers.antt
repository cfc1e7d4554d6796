use Rattle.std.proofs.Common.{arith}
use Rattle.ep_cli.proofs.clear.run_on_clear_library.Goals as goal

pub returns : goal.returns
returns g c e = absurd (omega (arith, c.run.ensures.read_fault e))
