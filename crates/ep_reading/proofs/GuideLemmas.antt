-- Refusals and faults rest on no guide.
use Rattle.std.proofs.Common.{Result, Ok, Err, IfErr, MatchResult}
use Rattle.ep_answer.specs.declared.answer.Answer.TheVariants.{Refused, Unreadable}
use Rattle.ep_answer.specs.declared.cause.Cause.{Cause}
use Rattle.ep_answer.specs.declared.cause.Subject.{Subject}
use Rattle.ep_reading.specs.Guides.{AnswerNeeds}

-- what follows from an error
pub MatchResult-err : {A E : Type 0} (P : A → Type 0) (Q R : E → Type 0) (r : Result A E) → MatchResult r P Q → ((e : E) → Q e → R e) → IfErr r R
MatchResult-err P Q R (Ok x) h f = tt
MatchResult-err P Q R (Err e) h f = f e h

-- refusals, faults and usages rest on no guide
pub refused_needs_none : (s : Subject) (c : Cause) → AnswerNeeds (Refused s c) → ⊥
unfolding AnswerNeeds
refused_needs_none s c n = absurd n

pub unreadable_needs_none : (s : Subject) → AnswerNeeds (Unreadable s) → ⊥
unfolding AnswerNeeds
unreadable_needs_none s n = absurd n
