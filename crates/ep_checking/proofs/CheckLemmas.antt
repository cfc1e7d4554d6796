-- What `check` tells.
use Rattle.std.proofs.Common.{ℕ, List, refl}
use Rattle.ep_ground.specs.Task.{GroundTask}
use Rattle.ep_answer.specs.declared.status.Status.{Status}
use Rattle.ep_answer.specs.declared.status.Status.TheVariants as done
use Rattle.ep_checking.specs.Checking.{Checks}
use Rattle.ep_reading.specs.Served.{Answers}
use Rattle.ep_reading.proofs.CallerLemmas.{IsBehind, other_is_behind, answers_are}

pub checks_is_behind : (g : GroundTask) (status : Status) (text : List ℕ) → Checks g (Answers status text) → IsBehind status text
checks_is_behind g status text e = answers_are status done.Ok text _ e (other_is_behind done.Ok _ tt (λ e. cc) (λ e. cc) refl)
