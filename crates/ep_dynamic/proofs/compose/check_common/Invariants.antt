use Rattle.std.proofs.Common.{◌≡◌, drop}
use Rattle.ep_dynamic.specs.ComposeAnswers.{common_refusal, first_refusal}
use Rattle.ep_dynamic.proofs.compose.check_common.Given as goal

abbrev pub invariant-loop-f : goal.invariant-loop-f
invariant-loop-f l = first_refusal common_refusal 0 l.b.events ≡ first_refusal common_refusal l.f (drop l.f l.b.events)
