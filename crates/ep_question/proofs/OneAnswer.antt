-- A contraction has one text, and `contract` one answer.
use Rattle.std.proofs.Common.{◌≡◌, ℕ, ◌⊎◌, inl, inr, List, ◌++◌, codes, refl, sym, ap, ◌∙◌, subst}
use Rattle.hex.specs.Hex.{encode_lower}
use Rattle.ep_logic.specs.declared.ids.ActionId.{ActionId}
use Rattle.ep_theory.specs.Kripke.{Kripke}
use Rattle.ep_theory.proofs.CallerLemmas.{one_contraction}
use Rattle.ep_bytes.specs.Bytes.{bytes_of}
use Rattle.ep_ground.specs.Task.{GroundTask}
use Rattle.ep_ground.specs.StateText.{state_text}
use Rattle.ep_plan.specs.Runs.{RunUnder}
use Rattle.ep_plan.specs.declared.runs.Outcome.{Outcome as Run}
use Rattle.ep_plan.specs.declared.runs.Outcome.TheVariants as run
use Rattle.ep_plan.proofs.CallerLemmas.{one_outcome}
use Rattle.ep_answer.specs.declared.run_stop.RunStop.{RunStop}
use Rattle.ep_answer.specs.declared.run_stop.RunStop.TheVariants as stop
use Rattle.ep_answer.specs.declared.run_stop.Whose.{Whose}
use Rattle.ep_answer.specs.declared.run_stop.Whose.TheVariants.{Only}
use Rattle.ep_answer.specs.declared.status.Status.TheVariants as status
use Rattle.ep_answer.specs.declared.answer.Answer.TheVariants.{Stopped}
use Rattle.ep_base.specs.Texts.{line}
use Rattle.ep_reading.specs.PlanFile.{RunStops, Ran, run_size}
use Rattle.ep_reading.specs.Served.{Ending, Answers, answers}
use Rattle.ep_question.specs.Questions.{ShowsContraction, Contractions}

pub one_text : (g : GroundTask) (S : Kripke) (x y : Ending) → ShowsContraction g S x → ShowsContraction g S y → x ≡ y
unfolding ShowsContraction
one_text g S x y h k =
    h.2 ∙ ap (λ (C : Kripke). Answers status.Ok (state_text g C ++ line (codes "bytes " ++ encode_lower (bytes_of C)))) (one_contraction S h.0 k.0 h.1 k.1) ∙ sym k.2

-- a stop as the outcome of a run, and back
as_run : RunStop → Run
as_run (stop.Stuck k) = run.Stuck k
as_run (stop.SpentWorlds k n) = run.SpentWorlds k n
as_run (stop.SpentLinks k n) = run.SpentLinks k n

stop_of : Run → RunStop
stop_of (run.After S) = stop.Stuck 0
stop_of (run.Stuck k) = stop.Stuck k
stop_of (run.SpentWorlds k n) = stop.SpentWorlds k n
stop_of (run.SpentLinks k n) = stop.SpentLinks k n

stop_back : (s : RunStop) → stop_of (as_run s) ≡ s
unfolding stop_of as_run
stop_back (stop.Stuck k) = refl
stop_back (stop.SpentWorlds k n) = refl
stop_back (stop.SpentLinks k n) = refl

stops_so : (g : GroundTask) (plan : List ActionId) (s : RunStop) → RunStops g plan s → RunUnder g.problem plan run_size (as_run s)
unfolding as_run
stops_so g plan (stop.Stuck k) h = h
stops_so g plan (stop.SpentWorlds k n) h = h
stops_so g plan (stop.SpentLinks k n) h = h

never_after : (s : RunStop) (S : Kripke) → as_run s ≡ run.After S → ⊥
unfolding as_run
never_after (stop.Stuck k) S e = cc
never_after (stop.SpentWorlds k n) S e = cc
never_after (stop.SpentLinks k n) S e = cc

-- a run goes on in one way, if what it leaves has one answer
module _ (whose : Whose) (g : GroundTask) (plan : List ActionId) (next : Kripke → Ending → Type 0)
    (one : (S : Kripke) (x y : Ending) → next S x → next S y → x ≡ y) where
  Stops : Ending → Type 0
  Stops x = (s : RunStop) × RunStops g plan s × (x ≡ answers (Stopped whose s))

  Leaves : Ending → Type 0
  Leaves x = (S : Kripke) × RunUnder g.problem plan run_size (run.After S) × next S x

  both : (x y : Ending) → Stops x ⊎ Leaves x → Stops y ⊎ Leaves y → x ≡ y
  unfolding Stops Leaves
  both x y (inl h) (inl k) =
      let e : as_run h.0 ≡ as_run k.0 = one_outcome g.problem plan run_size (as_run h.0) (as_run k.0) (stops_so g plan h.0 h.1) (stops_so g plan k.0 k.1) in
      let same : h.0 ≡ k.0 = sym (stop_back h.0) ∙ ap stop_of e ∙ stop_back k.0 in
      h.2 ∙ ap (λ (s : RunStop). answers (Stopped whose s)) same ∙ sym k.2
  both x y (inl h) (inr k) = absurd (never_after h.0 k.0 (one_outcome g.problem plan run_size (as_run h.0) (run.After k.0) (stops_so g plan h.0 h.1) k.1))
  both x y (inr h) (inl k) = absurd (never_after k.0 h.0 (one_outcome g.problem plan run_size (as_run k.0) (run.After h.0) (stops_so g plan k.0 k.1) h.1))
  both x y (inr h) (inr k) =
      let e : run.After h.0 ≡ run.After k.0 = one_outcome g.problem plan run_size (run.After h.0) (run.After k.0) h.1 k.1 in
      let same : h.0 ≡ k.0 = cc in
      one k.0 x y (subst (λ (S : Kripke). next S x) same h.2) k.2

  pub one_answer : (x y : Ending) → Ran whose g plan next x → Ran whose g plan next y → x ≡ y
  unfolding Ran Stops Leaves
  one_answer x y h k = both x y h k

pub one_contract : (g : GroundTask) (plan : List ActionId) (x y : Ending) → Contractions g plan x → Contractions g plan y → x ≡ y
one_contract g plan x y h k = one_answer Only g plan (ShowsContraction g) (one_text g) x y h k
