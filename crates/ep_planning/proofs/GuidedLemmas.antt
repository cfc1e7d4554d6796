-- The guide at a place, if there is one.
use Rattle.std.proofs.Common.{◌≡◌, ◌<◌, ◌≤◌, ◌↔◌, ℕ, List, Result, inl, inr, refl, arith, Ok, Err}
use Rattle.std.proofs.lemmas.Result.{MatchResult-weaker}
use Rattle.ep_io.specs.Library.{LibraryState, FileMap}
use Rattle.ep_answer.specs.declared.answer.Answer.{Answer}
use Rattle.ep_answer.specs.declared.answer.Answer.TheVariants.{NoSuchGuide}
use Rattle.ep_answer.specs.declared.answer.Stop.{Stop}
use Rattle.ep_answer.specs.declared.answer.Stop.TheVariants.{Told, OutOfMemory}
use Rattle.ep_answer.specs.declared.cause.Cause.TheVariants as cause
use Rattle.ep_answer.specs.declared.cause.Subject.{Subject}
use Rattle.ep_answer.specs.declared.status.Status.{Status}
use Rattle.ep_answer.specs.declared.status.Status.TheVariants.{ReadFault}
use Rattle.ep_answer.specs.Answer.{answer_status, answer_text}
use Rattle.ep_planning.specs.Planning.{Guided}
use Rattle.ep_reading.specs.Run.{IsAnswerOf}
use Rattle.ep_reading.specs.Served.{Ending, Answers, answers}
use Rattle.ep_reading.specs.Steps.{Serves, StopsAnswer, StopsWork, EndsBy}
use Rattle.ep_reading.proofs.CallerLemmas.{IsBehind, no_guide_no_fetch, IsAnswerOf-held, all_held, behind_is_answer}

-- where there is no guide at the place
pub serves_no_guide : (guides place : ℕ) (work : FileMap → Ending → Type 0) (names : Subject → List ℕ → Type 0) (library : LibraryState) → guides ≤ place
    → IsAnswerOf (λ files. Guided guides place (work files)) names (guides ≤ place) library library (answer_status NoSuchGuide) (answer_text NoSuchGuide)
serves_no_guide guides place work names library l = record {
  possible = tt;
  usage = (λ e. l, λ x. refl);
  served = λ n. all_held library.held (λ files. inl (l, refl));
  fault = λ e. absurd (no_fault e);
  missing = λ s e. absurd (no_guide_no_fetch s cause.NoSuchFile e);
  too_long = λ s f e. absurd (no_guide_no_fetch s cause.TooLong e);
}
  where
    no_fault : answer_status NoSuchGuide ≡ ReadFault → ⊥
    no_fault e = cc

-- and where there is one
pub serves_guided : (guides place : ℕ) (work : FileMap → Ending → Type 0) (names : Subject → List ℕ → Type 0) (old new : LibraryState) (r : Result Answer Stop) → place < guides
    → Serves work names ⊥ old new r → Serves (λ files. Guided guides place (work files)) names (guides ≤ place) old new r
serves_guided guides place work names old new r l h =
    let none : ⊥ ↔ (guides ≤ place) = (λ x. absurd x, λ k. absurd (omega (arith, k, l))) in
    MatchResult-weaker r h
    (λ answer k. IsAnswerOf-held work (λ files. Guided guides place (work files)) names names ⊥ (guides ≤ place) old new (answer_status answer) (answer_text answer) none
    (all_held old.held (λ files o w. inr (l, w))) (λ s name n. n) k)
    (λ stop k. guided_stop stop k)
  where
    guided_stop : (stop : Stop) → StopsWork work names old new stop → StopsAnswer (λ files. Guided guides place (work files)) names (guides ≤ place) old new stop
    guided_stop (Told answer) k =
        IsAnswerOf-held work (λ files. Guided guides place (work files)) names names ⊥ (guides ≤ place) old new (answer_status answer) (answer_text answer)
        (λ x. absurd x, λ k. absurd (omega (arith, k, l))) (all_held old.held (λ files o w. inr (l, w))) (λ s name n. n) k
    guided_stop OutOfMemory k = k

pub tells_map : (work more : Ending → Type 0) (r : Result Answer Stop) → ((o : Ending) → work o → more o) → EndsBy work r → EndsBy more r
tells_map work more (Ok answer) f h = f (answers answer) h
tells_map work more (Err (Told answer)) f h = f (answers answer) h
tells_map work more (Err OutOfMemory) f h = h

told_guide : (guides : ℕ) (W : Ending → Type 0) (names : Subject → List ℕ → Type 0) (library : LibraryState) (status : Status) (text : List ℕ)
    → ((status : Status) (text : List ℕ) → W (Answers status text) → IsBehind status text)
    → Guided guides 0 W (Answers status text) → IsAnswerOf (λ files. Guided guides 0 W) names (guides ≤ 0) library library status text
told_guide guides W names library status text b (inl (none, told)) =
    let s : status ≡ answer_status NoSuchGuide = cc in
    let t : text ≡ answer_text NoSuchGuide = cc in
    rw (s, t) (serves_no_guide guides 0 (λ files. W) names library none)
told_guide guides W names library status text b (inr (some, w)) =
    IsAnswerOf-held (λ files. W) (λ files. Guided guides 0 W) names names ⊥ (guides ≤ 0) library library status text
    (λ x. absurd x, λ k. absurd (omega (arith, k, some))) (all_held library.held (λ files o v. inr (some, v))) (λ s name n. n)
    (behind_is_answer (λ files. W) names library library status text (b status text w) (all_held library.held (λ files. w)))

pub serves_told_guide : (guides : ℕ) (W : Ending → Type 0) (names : Subject → List ℕ → Type 0) (library : LibraryState) (r : Result Answer Stop)
    → ((status : Status) (text : List ℕ) → W (Answers status text) → IsBehind status text)
    → EndsBy (Guided guides 0 W) r → Serves (λ files. Guided guides 0 W) names (guides ≤ 0) library library r
serves_told_guide guides W names library (Ok answer) b h = told_guide guides W names library (answer_status answer) (answer_text answer) b h
serves_told_guide guides W names library (Err (Told answer)) b h = told_guide guides W names library (answer_status answer) (answer_text answer) b h
serves_told_guide guides W names library (Err OutOfMemory) b h = h
