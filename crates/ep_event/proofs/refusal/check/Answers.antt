-- The refusal, by what each test found.
use Rattle.std.proofs.Common.{◌≡◌, ℕ, ◌≤◌, nat_lt, false, length, refl, arith}
use Rattle.std.proofs.lemmas.Bool.Decides.{nat_tests}
use Rattle.std.proofs.lemmas.Result.{err_from_is_err_and}
use Rattle.ep_base.proofs.CallerLemmas.{told_none, told_some}
use Rattle.ep_event.specs.Refusals.{atom_twice}
use Rattle.ep_event.proofs.refusal.check.Goals as goal

few : (n : ℕ) → n ≤ 16 → nat_lt 16 n ≡ false
few n h = grind (arith, nat_tests)

pub returns-in-Some : goal.returns-in-Some
returns-in-Some c =
    rw (← c.as_slice-events.ensures, ← c.as_slice-links.ensures, ← c.as_slice-designated.ensures, ← c.if-is_empty.ensures, few (length c.as_slice-events.result.now) c.if-events-gt-MOST_EVENTS.false, ← c.in-Some.ensures) refl

pub returns-in-Some-first_event : goal.returns-in-Some-first_event
returns-in-Some-first_event c =
    rw (
      ← c.as_slice-events.ensures,
      ← c.as_slice-links.ensures,
      ← c.as_slice-designated.ensures,
      ← c.if-is_empty.ensures,
      few (length c.as_slice-events.result.now) c.if-events-gt-MOST_EVENTS.false,
      ← c.in_default.ensures,
      ← c.in-Some-first_event.ensures,
    ) refl

pub returns-in-Some-first_designated : goal.returns-in-Some-first_designated
returns-in-Some-first_designated c =
    rw (
      ← c.as_slice-events.ensures,
      ← c.as_slice-links.ensures,
      ← c.as_slice-designated.ensures,
      ← c.if-is_empty.ensures,
      few (length c.as_slice-events.result.now) c.if-events-gt-MOST_EVENTS.false,
      ← c.in_default.ensures,
      ← c.in_default-first_event.ensures,
      ← c.in-Some-first_designated.ensures,
    ) refl

pub returns-in_err-check_assignments : goal.returns-in_err-check_assignments
returns-in_err-check_assignments c =
    let p = err_from_is_err_and c.from_residual.result c.from_residual.ensures.1 in
    rw (
      p.1,
      p.2,
      ← c.as_slice-events.ensures,
      ← c.as_slice-links.ensures,
      ← c.as_slice-designated.ensures,
      ← c.if-is_empty.ensures,
      few (length c.as_slice-events.result.now) c.if-events-gt-MOST_EVENTS.false,
      ← c.in_default.ensures,
      ← c.in_default-first_event.ensures,
      ← c.in_default-first_designated.ensures,
      told_some (atom_twice c.as_slice-events.result.now) c.in_err-check_assignments.field-0.0 c.in_err-check_assignments.ensures,
    ) refl

pub returns-then-is_empty-2 : goal.returns-then-is_empty-2
returns-then-is_empty-2 c =
    rw (
      ← c.as_slice-events.ensures,
      ← c.as_slice-links.ensures,
      ← c.as_slice-designated.ensures,
      ← c.if-is_empty.ensures,
      few (length c.as_slice-events.result.now) c.if-events-gt-MOST_EVENTS.false,
      ← c.in_default.ensures,
      ← c.in_default-first_event.ensures,
      ← c.in_default-first_designated.ensures,
      told_none (atom_twice c.as_slice-events.result.now) tt c.in_ok-check_assignments.ensures,
      ← c.if-is_empty-2.ensures,
    ) refl

pub returns : goal.returns
returns c =
    rw (
      ← c.as_slice-events.ensures,
      ← c.as_slice-links.ensures,
      ← c.as_slice-designated.ensures,
      ← c.if-is_empty.ensures,
      few (length c.as_slice-events.result.now) c.if-events-gt-MOST_EVENTS.false,
      ← c.in_default.ensures,
      ← c.in_default-first_event.ensures,
      ← c.in_default-first_designated.ensures,
      told_none (atom_twice c.as_slice-events.result.now) tt c.in_ok-check_assignments.ensures,
      ← c.if-is_empty-2.ensures,
    ) refl
