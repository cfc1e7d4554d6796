use Rattle.std.proofs.Common.{arith}
use Rattle.ep_cli.proofs.clear.run_to_clear_sink.Goals as goal

pub returns : goal.returns
returns g c e = absurd (omega (arith, c.run.ensures.write_fault e))
