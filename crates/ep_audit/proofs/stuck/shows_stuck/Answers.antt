use Rattle.std.proofs.Common.{arith}
use Rattle.ep_theory.specs.Product.{IsStuckAt}
use Rattle.ep_audit.specs.Shown.{ShowsStuck}
use Rattle.ep_audit.proofs.AnswerLemmas.{ok_iff, never_true, stuck_one, stuck_none}
use Rattle.ep_audit.proofs.stuck.shows_stuck.Goals as goal

pub returns-in-Some : goal.returns-in-Some
returns-in-Some c = ok_iff c.is_stuck.result (IsStuckAt c.args.s.now c.args.a.now c.in-Some.w) (ShowsStuck c.args.s.now c.args.a.now c.args.digits.now)
    (λ k. (c.in-Some.w, c.in-Some.ensures.0, k))
    (λ h. stuck_one c.args.s.now c.args.a.now c.args.digits.now c.in-Some.w c.worlds.ensures.valid c.worlds.ensures.bounded.worlds (omega (arith, c.in-Some.ensures.1, c.worlds.ensures.value)) c.in-Some.ensures.0 h) c.is_stuck.ensures

pub returns-in-None : goal.returns-in-None
returns-in-None c = never_true _ (λ h. stuck_none c.args.s.now c.args.a.now c.args.digits.now c.worlds.ensures.valid (λ n l. c.in-None.ensures n (omega (arith, l, c.worlds.ensures.value))) h)
