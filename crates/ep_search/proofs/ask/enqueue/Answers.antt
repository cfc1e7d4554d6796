use Rattle.std.proofs.Common.{length, ap, arith}
use Rattle.ep_search.proofs.SizeLemmas.{designated_few}
use Rattle.ep_search.proofs.ask.enqueue.Goals as goal

pub overflow_cast-view : goal.overflow_cast-view
overflow_cast-view g c =
    omega (arith, ap length c.designated.ensures.value, designated_few c.state-state.result.now c.designated.ensures.valid, c.designated.ensures.bounded.worlds)
