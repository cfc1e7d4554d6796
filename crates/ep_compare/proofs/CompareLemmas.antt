-- What `same` and `apart` tell, and how they put their steps together.
use Rattle.std.proofs.Common.{ℕ, List, refl, inl, inr, Result, Ok, Err, ap, subst, ◌≡◌, ◌<◌, arith}
use Rattle.ep_logic.specs.declared.ids.ActionId.{ActionId}
use Rattle.ep_logic.specs.declared.formula.Node.{Node}
use Rattle.ep_theory.specs.Kripke.{Kripke}
use Rattle.ep_theory.specs.Rising.{IsIn}
use Rattle.ep_theory.specs.Truth.{Truth}
use Rattle.ep_theory.specs.Canonical.{Contracts}
use Rattle.ep_theory.proofs.CallerLemmas.{bisimilar_sym, bisimilar_trans, same_at_some}
use Rattle.ep_ground.specs.Task.{GroundTask}
use Rattle.ep_answer.specs.declared.answer.Answer.{Answer}
use Rattle.ep_answer.specs.declared.answer.Answer.TheVariants.{Bisimilar, Different, WideContraction}
use Rattle.ep_answer.specs.declared.cause.Subject.{Subject}
use Rattle.ep_answer.specs.declared.run_stop.Whose.{Whose}
use Rattle.ep_answer.specs.declared.status.Status.{Status}
use Rattle.ep_answer.specs.declared.status.Status.TheVariants as done
use Rattle.ep_apart.specs.declared.limits.TheConstants.{MOST_TOLD}
use Rattle.ep_apart.specs.declared.lines.Apart.{Apart}
use Rattle.ep_apart.specs.declared.lines.Side.{Side}
use Rattle.ep_apart.specs.Lines.{formula_of, last_line}
use Rattle.ep_apart.specs.Telling.{TellsApart, state_across, state_at}
use Rattle.ep_compare.specs.Comparing.{Compared, Compares, Contracted, IsComparable, IsSmallContraction, TellsBoth, TellsStates, ToldContractions, ToldStates}
use Rattle.ep_compare.specs.declared.comparison.Comparison.{Comparison}
use Rattle.ep_reading.specs.Served.{Answers, answers, Ending}
use Rattle.ep_reading.proofs.CallerLemmas.{IsBehind, other_is_behind, answers_are, Serves-more, Ran-behind, Ran-weaker, ran_is_behind, stops_map, tells_is_served}
use Rattle.ep_theory.specs.Bisimulation as theory
use Rattle.ep_io.specs.Library.{FileMap, LibraryState}
use Rattle.ep_plan.specs.Runs.{RunUnder}
use Rattle.ep_plan.specs.declared.runs.Outcome.TheVariants as run
use Rattle.ep_answer.specs.declared.answer.Stop.{Stop}
use Rattle.ep_answer.specs.declared.run_stop.Whose.TheVariants.{First, Second}
use Rattle.ep_reading.specs.PlanFile.{Ran, run_size}
use Rattle.ep_reading.specs.Steps.{IsLeft, Serves, StopsBy, EndsBy, nothing_behind}

-- ---- what no fetch tells

pub compares_is_behind : (S R : Kripke) (status : Status) (text : List ℕ) → Compares S R (Answers status text) → IsBehind status text
unfolding Compares
compares_is_behind S R status text (inl h) = answers_are status done.Ok text _ h.1 (other_is_behind done.Ok _ tt (λ e. cc) (λ e. cc) refl)
compares_is_behind S R status text (inr h) = answers_are status done.No text _ h.1 (other_is_behind done.No _ tt (λ e. cc) (λ e. cc) refl)

contracted_is_behind : (whose : Whose) (S : Kripke) (P : Kripke → Ending → Type 0) (status : Status) (text : List ℕ)
    → ((C : Kripke) → P C (Answers status text) → IsBehind status text) → Contracted whose S P (Answers status text) → IsBehind status text
unfolding Contracted
contracted_is_behind whose S P status text f (C, is, inl wide) = answers_are status done.Undecided text _ wide.1 (other_is_behind done.Undecided _ tt (λ e. cc) (λ e. cc) refl)
contracted_is_behind whose S P status text f (C, is, inr h) = f C h.1

told_is_behind : (g : GroundTask) (S R C D : Kripke) (status : Status) (text : List ℕ) → ToldStates g S R C D (Answers status text) → IsBehind status text
told_is_behind g S R C D status text (inl h) = answers_are status done.Ok text _ h.1 (other_is_behind done.Ok _ tt (λ e. cc) (λ e. cc) refl)
told_is_behind g S R C D status text (inr h) = answers_are status done.No text _ h.told (other_is_behind done.No _ tt (λ e. cc) (λ e. cc) refl)

compared_is_behind : (comparison : Comparison) (g : GroundTask) (S R : Kripke) (status : Status) (text : List ℕ) → Compared comparison g S R (Answers status text) → IsBehind status text
compared_is_behind Comparison.Same g S R status text h = compares_is_behind S R status text h
compared_is_behind Comparison.Apart g S R status text h =
    contracted_is_behind First S (λ C. Contracted Second R (ToldStates g S R C)) status text
    (λ C k. contracted_is_behind Second R (ToldStates g S R C) status text (λ D. told_is_behind g S R C D status text) k) h

pub second_is_behind : (comparison : Comparison) (g : GroundTask) (S : Kripke) (plan : List ActionId) (status : Status) (text : List ℕ) → Ran Second g plan (Compared comparison g S) (Answers status text) → IsBehind status text
second_is_behind comparison g S plan status text h = ran_is_behind Second g plan (Compared comparison g S) status text (λ R e. compared_is_behind comparison g S R status text e) h

-- what follows from what the work may tell
pub tells_map : (work more : Ending → Type 0) (r : Result Answer Stop) → ((o : Ending) → work o → more o) → EndsBy work r → EndsBy more r
tells_map work more (Ok answer) f h = f (answers answer) h
tells_map work more (Err stop) f h = stops_map work more stop f h

-- ---- same

pub compares_same : (S R : Kripke) → theory.Bisimilar S R → Compares S R (answers Bisimilar)
unfolding Compares
compares_same S R h = inl (h, refl)

pub compares_apart : (S R : Kripke) → (theory.Bisimilar S R → ⊥) → Compares S R (answers Different)
unfolding Compares
compares_apart S R h = inr (h, refl)

-- ---- apart

pub wide_stops : (whose : Whose) (S C : Kripke) (n : ℕ) → Contracts S C → n ≡ C.worlds → MOST_TOLD < n → Contracted whose S nothing_behind (answers (WideContraction whose n))
unfolding Contracted
wide_stops whose S C n is e wide = (C, is, inl (subst (λ m. MOST_TOLD < m) e wide, ap (λ m. answers (WideContraction whose m)) e))

pub Contracted-weaker : (whose : Whose) (S : Kripke) (P : Kripke → Ending → Type 0) (o : Ending) → Contracted whose S nothing_behind o → Contracted whose S P o
unfolding Contracted
Contracted-weaker whose S P o (C, is, inl wide) = (C, is, inl wide)
Contracted-weaker whose S P o (C, is, inr h) = absurd h.1

pub Contracted-behind : (whose : Whose) (S C : Kripke) (P : Kripke → Ending → Type 0) (o : Ending) → IsSmallContraction S C → P C o → Contracted whose S P o
unfolding Contracted
Contracted-behind whose S C P o small h = (C, small.0, inr (small.1, h))

pub contraction_agents : (S C : Kripke) → Contracts S C → S.agents ≡ C.agents
contraction_agents S C c = c.bisimilar.1.agents

pub contraction_atoms : (S C : Kripke) → Contracts S C → S.atoms ≡ C.atoms
contraction_atoms S C c = c.bisimilar.1.atoms

-- the formula is true at some designated world
abbrev IsTrueSomewhere : Kripke → Node → Type 0
IsTrueSomewhere S f = (w : ℕ) × IsIn w S.designated × Truth S w f

-- it is true at none
abbrev IsTrueNowhere : Kripke → Node → Type 0
IsTrueNowhere S f = (w : ℕ) → IsIn w S.designated → Truth S w f → ⊥

true_here : (S R C D : Kripke) (f : Node) (side : Side) → theory.Bisimilar S C → theory.Bisimilar R D → IsTrueSomewhere (state_at C D side) f → IsTrueSomewhere (state_at S R side) f
true_here S R C D f Side.First b c h = (same_at_some S C b f).1 h
true_here S R C D f Side.Second b c h = (same_at_some R D c f).1 h

true_nowhere : (S R C D : Kripke) (f : Node) (side : Side) → theory.Bisimilar S C → theory.Bisimilar R D → IsTrueNowhere (state_across C D side) f → IsTrueNowhere (state_across S R side) f
true_nowhere S R C D f Side.First b c h w i t = let v = (same_at_some R D c f).0 (w, i, t) in h v.0 v.1 v.2
true_nowhere S R C D f Side.Second b c h w i t = let v = (same_at_some S C b f).0 (w, i, t) in h v.0 v.1 v.2

not_bisimilar : (S R : Kripke) (f : Node) (side : Side) → IsTrueSomewhere (state_at S R side) f → IsTrueNowhere (state_across S R side) f → theory.Bisimilar S R → ⊥
not_bisimilar S R f Side.First here nowhere b = let v = (same_at_some S R b f).0 here in nowhere v.0 v.1 v.2
not_bisimilar S R f Side.Second here nowhere b = let v = (same_at_some S R b f).1 here in nowhere v.0 v.1 v.2

-- what is told of the contractions holds of the states
pub told_of_states : (g : GroundTask) (S R C D : Kripke) (o : Ending) → Contracts S C → Contracts R D → ToldContractions g C D o → ToldStates g S R C D o
told_of_states g S R C D o c d (inl h) = inl (bisimilar_trans c.bisimilar (bisimilar_trans h.0 (bisimilar_sym d.bisimilar)), h.1)
told_of_states g S R C D o c d (inr h) =
    let a = h.0 in
    let f = formula_of a.lines (last_line a.lines) in
    let here = true_here S R C D f a.side c.bisimilar d.bisimilar h.1.here in
    let nowhere = true_nowhere S R C D f a.side c.bisimilar d.bisimilar h.1.nowhere in
    inr (record { apart = a; contractions = h.1; different = not_bisimilar S R f a.side here nowhere; here = here; nowhere = nowhere; told = h.2 })

-- ---- runs

-- what a plan leaves can be contracted
pub comparable : (g : GroundTask) (plan : List ActionId) (S : Kripke) → IsLeft g plan S → IsComparable g S
comparable g plan S left = record { worlds = omega (arith, left.worlds); agents = left.named_agents; atoms = left.named_atoms }

pub behind_run : (old new : LibraryState) (whose : Whose) (g : GroundTask) (plan : List ActionId) (S : Kripke) (P : FileMap → Kripke → Ending → Type 0) (names : Subject → List ℕ → Type 0) (r : Result Answer Stop)
    → RunUnder g.problem plan run_size (run.After S)
    → Serves (λ files. P files S) names ⊥ old new r → Serves (λ files. Ran whose g plan (P files)) names ⊥ old new r
behind_run old new whose g plan S P names r left h =
    Serves-more (λ files. P files S) (λ files. Ran whose g plan (P files)) names names ⊥ old new r
    (λ files o w. Ran-behind whose g plan S (P files) o left w) (λ s name n. n) h

-- where the run stops, whatever may stand behind it
pub first_stops : (names : Subject → List ℕ → Type 0) (old new : LibraryState) (g : GroundTask) (plan : List ActionId) (P : FileMap → Kripke → Ending → Type 0) (stop : Stop)
    → StopsBy (Ran First g plan nothing_behind) stop → Serves (λ files. Ran First g plan (P files)) names ⊥ old new (Err stop)
first_stops names old new g plan P stop h =
    Serves-more (λ files. Ran First g plan nothing_behind) (λ files. Ran First g plan (P files)) names names ⊥ old new (Err stop)
    (λ files o w. Ran-weaker First g plan nothing_behind (P files) o (λ S none. absurd none) w) (λ s name n. n)
    (tells_is_served (Ran First g plan nothing_behind) names old new (Err stop) (λ status text w. ran_is_behind First g plan nothing_behind status text (λ S none. absurd none) w) h)
