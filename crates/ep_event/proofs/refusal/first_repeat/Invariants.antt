use Rattle.std.proofs.Common.{◌≡◌, []}
use Rattle.ep_event.specs.Refusals.{is_repeated}
use Rattle.ep_logic.specs.Numbers.{numbers_where}
use Rattle.ep_event.proofs.refusal.first_repeat.Given as goal

abbrev pub invariant-loop-i : goal.invariant-loop-i
invariant-loop-i l = numbers_where (is_repeated l.sets) l.i ≡ []
