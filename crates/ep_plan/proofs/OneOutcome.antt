-- A run has one outcome, and a plan one verdict.
use Rattle.std.proofs.Common.{◌≡◌, ℕ, ◌+◌, ◌<◌, ◌≤◌, List, slice_get, refl, sym, ap, ◌∙◌, subst, arith, ◌⊎◌, ⊎_elim}
use Rattle.std.proofs.lemmas.Option.{same_Some, slice_get_within}
use Rattle.std.proofs.lemmas.Bool.{cases_order}
use Rattle.ep_logic.specs.declared.ids.ActionId.{ActionId}
use Rattle.ep_theory.specs.Kripke.{Kripke}
use Rattle.ep_theory.specs.Fits.{link_count}
use Rattle.ep_theory.specs.Events.{EventModel}
use Rattle.ep_theory.specs.Product.{IsApplicable, product_of}
use Rattle.ep_update.specs.declared.update.Size.{Size}
use Rattle.ep_update.specs.declared.update.UpdateError.TheVariants.{TooManyWorlds, TooManyLinks}
use Rattle.ep_update.specs.Updates.{IsWithin, IsFault}
use Rattle.ep_theory.specs.PlanningTask.{PlanningTask}
use Rattle.ep_plan.specs.declared.runs.Outcome.{Outcome}
use Rattle.ep_plan.specs.declared.runs.Outcome.TheVariants.{After, Stuck, SpentWorlds, SpentLinks}
use Rattle.ep_plan.specs.declared.verdicts.Verdict.{Verdict}
use Rattle.ep_plan.specs.declared.verdicts.Verdict.TheVariants as verdict
use Rattle.ep_plan.specs.Runs.{IsNext, IsMade, IsThrough, StopsAt, RunUnder}
use Rattle.ep_plan.specs.Verdicts.{IsVerdict, widest}

-- what keeps a step from being made
abbrev Hinders : Size → (Kripke → EventModel → Type 0) → Type 0
Hinders size Reason = (S : Kripke) (A : EventModel) → Reason S A → IsApplicable S A → IsWithin size (product_of S A) → ⊥

abbrev IsUnmet : Kripke → EventModel → Type 0
IsUnmet S A = IsApplicable S A → ⊥

abbrev HasWorlds : Size → ℕ → Kripke → EventModel → Type 0
HasWorlds size n S A = IsFault S A size (TooManyWorlds n)

abbrev HasLinks : Size → ℕ → Kripke → EventModel → Type 0
HasLinks size n S A = IsFault S A size (TooManyLinks n)

clash : (n count bound : ℕ) → n ≡ count → bound < n → count ≤ bound → ⊥
clash n count bound e above within = omega arith

stuck_hinders : (size : Size) → Hinders size IsUnmet
stuck_hinders size S A never fits within = never fits

worlds_hinder : (size : Size) (n : ℕ) → Hinders size (HasWorlds size n)
worlds_hinder size n S A why fits within = clash n (product_of S A).worlds size.worlds why.1 why.2 within.worlds

links_hinder : (size : Size) (n : ℕ) → Hinders size (HasLinks size n)
links_hinder size n S A why fits within = clash n (link_count (product_of S A)) size.links why.2 why.3 within.links

module _ (T : PlanningTask) (p : List ActionId) where
  -- the next step has one state and one action
  same_state : (n : ℕ) (S R : Kripke) (A B : EventModel) → IsNext T p n S A → IsNext T p n R B → S ≡ R
  same_state n S R A B x y = same_Some S R (sym x.leaves ∙ y.leaves)

  same_action : (n : ℕ) (S R : Kripke) (A B : EventModel) → IsNext T p n S A → IsNext T p n R B → A ≡ B
  same_action n S R A B x y =
      let place : x.place ≡ y.place = same_Some x.place y.place (sym x.listed ∙ y.listed) in
      same_Some A B (sym x.action ∙ ap (λ (a : ActionId). slice_get T.actions a.n) place ∙ y.action)

  module _ (size : Size) where
    -- a step that is made stops no run
    not_made : (W : Kripke → EventModel → Type 0) (k n : ℕ) (x : StopsAt T p size k W) → Hinders size W → n ≡ x.before → IsMade T p size n → ⊥
    not_made W k n x hinders e made =
        let next : IsNext T p x.before made.state made.action = subst (λ m. IsNext T p m made.state made.action) e made.next in
        let state : x.state ≡ made.state = same_state x.before x.state made.state x.action made.action x.next next in
        let action : x.action ≡ made.action = same_action x.before x.state made.state x.action made.action x.next next in
        hinders made.state made.action (subst (λ A. W made.state A) action (subst (λ S. W S x.action) state x.reason)) made.applicable made.within

    same_before : (W V : Kripke → EventModel → Type 0) (k j : ℕ) (x : StopsAt T p size k W) (y : StopsAt T p size j V) → Hinders size W → Hinders size V → x.before ≡ y.before
    same_before W V k j x y w v = ⊎_elim
        (λ (e : x.before ≡ y.before). e)
        (λ (differ : (x.before < y.before) ⊎ (y.before < x.before)). ⊎_elim
        (λ (lt : x.before < y.before). absurd (not_made W k x.before x w refl (y.made x.before lt)))
        (λ (lt : y.before < x.before). absurd (not_made V j y.before y v refl (x.made y.before lt))) differ)
        (cases_order x.before y.before)

    same_step : (W V : Kripke → EventModel → Type 0) (k j : ℕ) → StopsAt T p size k W → StopsAt T p size j V → Hinders size W → Hinders size V → k ≡ j
    same_step W V k j x y w v = x.counted ∙ ap (λ n. n + 1) (same_before W V k j x y w v) ∙ sym y.counted

    -- the two reasons hold of one step
    both_reasons : (W V : Kripke → EventModel → Type 0) (k j : ℕ) (x : StopsAt T p size k W) → StopsAt T p size j V → Hinders size W → Hinders size V → V x.state x.action
    both_reasons W V k j x y w v =
        let e : y.before ≡ x.before = sym (same_before W V k j x y w v) in
        let next : IsNext T p x.before y.state y.action = subst (λ n. IsNext T p n y.state y.action) e y.next in
        let state : y.state ≡ x.state = same_state x.before y.state x.state y.action x.action next x.next in
        let action : y.action ≡ x.action = same_action x.before y.state x.state y.action x.action next x.next in
        subst (λ A. V x.state A) action (subst (λ S. V S y.action) state y.reason)

    -- a run that goes through does not stop
    no_stop : (W : Kripke → EventModel → Type 0) (k : ℕ) (S : Kripke) → IsThrough T p size S → StopsAt T p size k W → Hinders size W → ⊥
    no_stop W k S through x w = not_made W k x.before x w refl (through.made x.before (slice_get_within p x.before x.next.place x.next.listed))

    pub one_outcome : (a b : Outcome) → RunUnder T p size a → RunUnder T p size b → a ≡ b
    one_outcome (After S) (After R) x y = ap After (same_Some S R (sym x.leaves ∙ y.leaves))
    one_outcome (After S) (Stuck j) x y = absurd (no_stop IsUnmet j S x y (stuck_hinders size))
    one_outcome (After S) (SpentWorlds j m) x y = absurd (no_stop (HasWorlds size m) j S x y (worlds_hinder size m))
    one_outcome (After S) (SpentLinks j m) x y = absurd (no_stop (HasLinks size m) j S x y (links_hinder size m))
    one_outcome (Stuck k) (After R) x y = absurd (no_stop IsUnmet k R y x (stuck_hinders size))
    one_outcome (Stuck k) (Stuck j) x y = ap Stuck (same_step IsUnmet IsUnmet k j x y (stuck_hinders size) (stuck_hinders size))
    one_outcome (Stuck k) (SpentWorlds j m) x y =
        absurd (x.reason (both_reasons IsUnmet (HasWorlds size m) k j x y (stuck_hinders size) (worlds_hinder size m)).0)
    one_outcome (Stuck k) (SpentLinks j m) x y =
        absurd (x.reason (both_reasons IsUnmet (HasLinks size m) k j x y (stuck_hinders size) (links_hinder size m)).0)
    one_outcome (SpentWorlds k n) (After R) x y = absurd (no_stop (HasWorlds size n) k R y x (worlds_hinder size n))
    one_outcome (SpentWorlds k n) (Stuck j) x y =
        absurd (both_reasons (HasWorlds size n) IsUnmet k j x y (worlds_hinder size n) (stuck_hinders size) x.reason.0)
    one_outcome (SpentWorlds k n) (SpentWorlds j m) x y =
        let step : k ≡ j = same_step (HasWorlds size n) (HasWorlds size m) k j x y (worlds_hinder size n) (worlds_hinder size m) in
        let other : HasWorlds size m x.state x.action = both_reasons (HasWorlds size n) (HasWorlds size m) k j x y (worlds_hinder size n) (worlds_hinder size m) in
        ap (λ i. SpentWorlds i n) step ∙ ap (λ i. SpentWorlds j i) (x.reason.1 ∙ sym other.1)
    one_outcome (SpentWorlds k n) (SpentLinks j m) x y =
        let other : HasLinks size m x.state x.action = both_reasons (HasWorlds size n) (HasLinks size m) k j x y (worlds_hinder size n) (links_hinder size m) in
        absurd (clash n (product_of x.state x.action).worlds size.worlds x.reason.1 x.reason.2 other.1)
    one_outcome (SpentLinks k n) (After R) x y = absurd (no_stop (HasLinks size n) k R y x (links_hinder size n))
    one_outcome (SpentLinks k n) (Stuck j) x y =
        absurd (both_reasons (HasLinks size n) IsUnmet k j x y (links_hinder size n) (stuck_hinders size) x.reason.0)
    one_outcome (SpentLinks k n) (SpentWorlds j m) x y =
        let other : HasWorlds size m x.state x.action = both_reasons (HasLinks size n) (HasWorlds size m) k j x y (links_hinder size n) (worlds_hinder size m) in
        absurd (clash m (product_of x.state x.action).worlds size.worlds other.1 other.2 x.reason.1)
    one_outcome (SpentLinks k n) (SpentLinks j m) x y =
        let step : k ≡ j = same_step (HasLinks size n) (HasLinks size m) k j x y (links_hinder size n) (links_hinder size m) in
        let other : HasLinks size m x.state x.action = both_reasons (HasLinks size n) (HasLinks size m) k j x y (links_hinder size n) (links_hinder size m) in
        ap (λ i. SpentLinks i n) step ∙ ap (λ i. SpentLinks j i) (x.reason.2 ∙ sym other.2)

-- the verdict of an outcome, v where the run goes through
abbrev verdict_by : Verdict → Outcome → Verdict
verdict_by v (After S) = v
verdict_by v (Stuck k) = verdict.Inapplicable k
verdict_by v (SpentWorlds k n) = verdict.SpentWorlds k n
verdict_by v (SpentLinks k n) = verdict.SpentLinks k n

module _ (T : PlanningTask) (p : List ActionId) where
  alike : (v : Verdict) (a b : Outcome) → RunUnder T p widest a → RunUnder T p widest b → verdict_by v a ≡ verdict_by v b
  alike v a b x y = ap (verdict_by v) (one_outcome T p widest a b x y)

  pub one_verdict : (v u : Verdict) → IsVerdict T p v → IsVerdict T p u → v ≡ u
  one_verdict verdict.Yes verdict.Yes x y = refl
  one_verdict verdict.Yes verdict.GoalFalse x y = absurd (y.1 x.1)
  one_verdict verdict.Yes (verdict.Inapplicable j) x y = alike verdict.Yes (After x.0.0) (Stuck j) x.0.1 y
  one_verdict verdict.Yes (verdict.SpentWorlds j m) x y = alike verdict.Yes (After x.0.0) (SpentWorlds j m) x.0.1 y
  one_verdict verdict.Yes (verdict.SpentLinks j m) x y = alike verdict.Yes (After x.0.0) (SpentLinks j m) x.0.1 y
  one_verdict verdict.GoalFalse verdict.Yes x y = absurd (x.1 y.1)
  one_verdict verdict.GoalFalse verdict.GoalFalse x y = refl
  one_verdict verdict.GoalFalse (verdict.Inapplicable j) x y = alike verdict.GoalFalse (After x.0.0) (Stuck j) x.0.1 y
  one_verdict verdict.GoalFalse (verdict.SpentWorlds j m) x y = alike verdict.GoalFalse (After x.0.0) (SpentWorlds j m) x.0.1 y
  one_verdict verdict.GoalFalse (verdict.SpentLinks j m) x y = alike verdict.GoalFalse (After x.0.0) (SpentLinks j m) x.0.1 y
  one_verdict (verdict.Inapplicable k) verdict.Yes x y = alike verdict.Yes (Stuck k) (After y.0.0) x y.0.1
  one_verdict (verdict.Inapplicable k) verdict.GoalFalse x y = alike verdict.GoalFalse (Stuck k) (After y.0.0) x y.0.1
  one_verdict (verdict.Inapplicable k) (verdict.Inapplicable j) x y = alike verdict.Yes (Stuck k) (Stuck j) x y
  one_verdict (verdict.Inapplicable k) (verdict.SpentWorlds j m) x y = alike verdict.Yes (Stuck k) (SpentWorlds j m) x y
  one_verdict (verdict.Inapplicable k) (verdict.SpentLinks j m) x y = alike verdict.Yes (Stuck k) (SpentLinks j m) x y
  one_verdict (verdict.SpentWorlds k n) verdict.Yes x y = alike verdict.Yes (SpentWorlds k n) (After y.0.0) x y.0.1
  one_verdict (verdict.SpentWorlds k n) verdict.GoalFalse x y = alike verdict.GoalFalse (SpentWorlds k n) (After y.0.0) x y.0.1
  one_verdict (verdict.SpentWorlds k n) (verdict.Inapplicable j) x y = alike verdict.Yes (SpentWorlds k n) (Stuck j) x y
  one_verdict (verdict.SpentWorlds k n) (verdict.SpentWorlds j m) x y = alike verdict.Yes (SpentWorlds k n) (SpentWorlds j m) x y
  one_verdict (verdict.SpentWorlds k n) (verdict.SpentLinks j m) x y = alike verdict.Yes (SpentWorlds k n) (SpentLinks j m) x y
  one_verdict (verdict.SpentLinks k n) verdict.Yes x y = alike verdict.Yes (SpentLinks k n) (After y.0.0) x y.0.1
  one_verdict (verdict.SpentLinks k n) verdict.GoalFalse x y = alike verdict.GoalFalse (SpentLinks k n) (After y.0.0) x y.0.1
  one_verdict (verdict.SpentLinks k n) (verdict.Inapplicable j) x y = alike verdict.Yes (SpentLinks k n) (Stuck j) x y
  one_verdict (verdict.SpentLinks k n) (verdict.SpentWorlds j m) x y = alike verdict.Yes (SpentLinks k n) (SpentWorlds j m) x y
  one_verdict (verdict.SpentLinks k n) (verdict.SpentLinks j m) x y = alike verdict.Yes (SpentLinks k n) (SpentLinks j m) x y
