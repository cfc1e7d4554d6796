-- Answers, one behind another.
use Rattle.std.proofs.Common.{◌≡◌, ℕ, Option, Some, None, Result, Ok, Err, refl, ap, option_map, ◌∙◌, inl, inr, ⊎_elim}
use Rattle.std.specs.Option.{option_or}
use Rattle.ep_base.specs.Refusals.{told}
use Rattle.ep_types.specs.Places.{Uses, both}
use Rattle.ep_types.specs.Faults.{error_at, first_error, first_fault, IsJudged}
use Rattle.ep_types.specs.declared.fault.TypeFault.{TypeFault}
use Rattle.ep_types.specs.declared.fault.TypeError.{TypeError}

told_at : (us : Uses) (o : Option (TypeFault × ℕ)) → first_fault us ≡ o → IsJudged us (told (option_map error_at o))
told_at us None h = h
told_at us (Some p) h = inr (ap (option_map error_at) h)

pub told_judged : (us : Uses) (r : Result (Unit {0}) TypeError) → r ≡ told (first_error us) → IsJudged us r
told_judged us r h = rw h (told_at us (first_fault us) refl)

-- what comes first has no fault
pub behind_judged : (us vs : Uses) (r : Result (Unit {0}) TypeError) → first_fault us ≡ None → IsJudged vs r → IsJudged (both us vs) r
behind_judged us vs (Ok u) e h = ap (λ o. option_or o (first_fault vs)) e ∙ h
behind_judged us vs (Err x) e h = ⊎_elim (λ want. inl want) (λ fault. inr (ap (λ o. option_map error_at (option_or o (first_fault vs))) e ∙ fault)) h
