-- Steps that are made, and a step that stops a run.
use Rattle.std.proofs.Common.{◌≡◌, ℕ, ◌+◌, ◌<◌, List, [], ◌∷◌, ◌++◌, length, take, slice_get, Some, sym, ap, ◌∙◌, subst, arith, inl, inr, below_more, get_or, Result, Ok, Err, IfOk}
use Rattle.std.proofs.lemmas.Option.{same_Some, none-some, slice_get_within, slice_get-get_or, get_or_from_slice_get}
use Rattle.std.proofs.lemmas.List.{take_more, take_all}
use Rattle.ep_logic.specs.declared.ids.ActionId.{ActionId}
use Rattle.ep_theory.specs.Kripke.{Kripke, IsState}
use Rattle.ep_theory.specs.Events.{EventModel}
use Rattle.ep_theory.specs.Product.{IsApplicable, product_of}
use Rattle.ep_theory.proofs.CallerLemmas.{stuck_none, step_some, all_get, after-snoc, after_state}
use Rattle.ep_update.specs.declared.update.Size.{Size}
use Rattle.ep_update.specs.declared.update.UpdateError.{UpdateError}
use Rattle.ep_update.specs.declared.update.UpdateError.TheVariants.{Inapplicable, TooManyWorlds, TooManyLinks, OutOfMemory}
use Rattle.ep_base.specs.Refusals.{OrWant}
use Rattle.ep_update.specs.Updates.{IsWithin, IsFault}
use Rattle.ep_theory.specs.PlanningTask.{PlanningTask, IsPlanningTask}
use Rattle.ep_theory.specs.Plans.{after}
use Rattle.ep_plan.specs.declared.runs.Outcome.{Outcome}
use Rattle.ep_plan.specs.declared.runs.Outcome.TheVariants.{After, Stuck, SpentWorlds, SpentLinks}
use Rattle.ep_plan.specs.Runs.{IsNext, IsMade, StopsAt, RunUnder, AreOf}
use Rattle.ep_plan.specs.Stops.{stop_of}

-- the first n steps are made, and leave S
pub record HasMade (T : PlanningTask) (p : List ActionId) (size : Size) (n : ℕ) (S : Kripke) : Type 0 where
  pub made : (m : ℕ) → m < n → IsMade T p size m
  pub leaves : after T (take n p) ≡ Some S

module _ (T : PlanningTask) (t : IsPlanningTask T) (p : List ActionId) (size : Size) (n : ℕ) (S : Kripke) (h : HasMade T p size n S) where
  -- what is left is a state with the task's agents and atoms
  pub left_state : IsState S
  left_state = (after_state T (take n p) S t h.leaves).0

  pub left_agents : S.agents ≡ T.initial.agents
  left_agents = (after_state T (take n p) S t h.leaves).1

  pub left_atoms : S.atoms ≡ T.initial.atoms
  left_atoms = (after_state T (take n p) S t h.leaves).2

  -- where every action is done, the run is through
  pub run_through : n ≡ length p → RunUnder T p size (After S)
  run_through e = record {
    made = λ m k. h.made m (subst (λ x. m < x) (sym e) k);
    leaves = ap (after T) (sym (take_all n p (omega (arith, e)))) ∙ h.leaves;
  }

  module _ (a : ActionId) (A : EventModel) (listed : slice_get p n ≡ Some a) (at : slice_get T.actions a.n ≡ Some A) where
    next : IsNext T p n S A
    next = record { place = a; leaves = h.leaves; listed = listed; action = at }

    longer : take (n + 1) p ≡ take n p ++ a ∷ []
    longer =
        take_more p n a (slice_get_within p n a listed)
        ∙ ap (λ x. take n p ++ x ∷ []) (get_or_from_slice_get p n a a listed)

    -- one more step
    pub one_more_made : (R : Kripke) → IsApplicable S A → R ≡ product_of S A → IsWithin size R → HasMade T p size (n + 1) R
    one_more_made R fits e within = record {
      made = below_more (λ m. IsMade T p size m) n h.made (record {
        state = S;
        action = A;
        next = next;
        applicable = fits;
        within = subst (IsWithin size) e within;
      });
      leaves = ap (after T) longer ∙ after-snoc T (take n p) a S R h.leaves ((step_some T S R a left_state).1 (A, at, fits, e));
    }

    stop : (k : ℕ) → k ≡ n + 1 → (Reason : Kripke → EventModel → Type 0) → Reason S A → StopsAt T p size k Reason
    stop k e Reason reason = record {
      before = n;
      counted = e;
      made = h.made;
      state = S;
      action = A;
      next = next;
      reason = reason;
    }

    -- a step whose product is refused
    pub refused_stop : (k : ℕ) → k ≡ n + 1 → (error : UpdateError) (o : Outcome) → OrWant OutOfMemory (IsFault S A size) error → stop_of k error ≡ Some o → RunUnder T p size o
    refused_stop k e error o (inl want) is = absurd (none-some o (sym (ap (stop_of k) want) ∙ is))
    refused_stop k e (Inapplicable w) o (inr refusal) is = subst (RunUnder T p size) (same_Some (Stuck k) o is)
        (stop k e (λ S A. IsApplicable S A → ⊥) (λ fits. none-some w (sym ((stuck_none S A left_state).1 fits) ∙ refusal)))
    refused_stop k e (TooManyWorlds m) o (inr refusal) is = subst (RunUnder T p size) (same_Some (SpentWorlds k m) o is)
        (stop k e (λ S A. IsFault S A size (TooManyWorlds m)) refusal)
    refused_stop k e (TooManyLinks m) o (inr refusal) is = subst (RunUnder T p size) (same_Some (SpentLinks k m) o is)
        (stop k e (λ S A. IsFault S A size (TooManyLinks m)) refusal)
    refused_stop k e OutOfMemory o (inr refusal) is = absurd refusal

-- the action at a place of a plan is one of the task's
pub place_within : (T : PlanningTask) (p : List ActionId) (n : ℕ) (a : ActionId) → AreOf T p → slice_get p n ≡ Some a → a.n < length T.actions
place_within T p n a all h = all_get (λ (b : ActionId). b.n < length T.actions) p n a all h

pub listed_by : (p items : List ActionId) (n : ℕ) (d : ActionId) → items ≡ p → n < length items → slice_get p n ≡ Some (get_or items n d)
listed_by p items n d e within = ap (λ xs. slice_get xs n) (sym e) ∙ slice_get-get_or items n d within

pub ok_change : {A E : Type 0} {P Q : A → Type 0} (r : Result A E) → ((x : A) → P x → Q x) → IfOk r P → IfOk r Q
ok_change (Ok x) f h = f x h
ok_change (Err e) f h = tt
