-- What a plan with one more action leads to.
use Rattle.std.proofs.Common.{◌≡◌, ℕ, zero, suc, ◌<◌, ◌≤◌, ◌⊎◌, inl, inr, List, [], ◌∷◌, ◌++◌, length, take, Some, refl, sym, ◌∙◌, subst, arith}
use Rattle.std.proofs.lemmas.Option.{same_Some}
use Rattle.std.proofs.lemmas.Bool.{cases_lt}
use Rattle.std.proofs.lemmas.List.{take-append-le, take_all, length-append}
use Rattle.ep_logic.specs.declared.ids.ActionId.{ActionId}
use Rattle.ep_theory.specs.Kripke.{Kripke}
use Rattle.ep_theory.specs.Plans.{after, Reaches}
use Rattle.ep_theory.specs.Truth.{Satisfies}
use Rattle.ep_theory.specs.PlanningTask.{PlanningTask}
use Rattle.ep_search.specs.Within.{IsOpen}

take_nil : (n : ℕ) → take {A = ActionId} n [] ≡ []
take_nil zero = refl
take_nil (suc n) = refl

-- the empty plan is open where the goal is not true yet
pub IsOpen-empty : (T : PlanningTask) → (Satisfies T.initial T.goal → ⊥) → IsOpen T []
IsOpen-empty T h n r =
    let q : Reaches T [] = subst (Reaches T) (take_nil n) r in
    h (subst (λ S. Satisfies S T.goal) (sym (same_Some T.initial q.state q.is_after)) q.goal)

-- an open plan with one more action is open where the goal is not true then
pub IsOpen-snoc : (T : PlanningTask) (p : List ActionId) (a : ActionId) (R : Kripke) → IsOpen T p → after T (p ++ a ∷ []) ≡ Some R → (Satisfies R T.goal → ⊥) → IsOpen T (p ++ a ∷ [])
IsOpen-snoc T p a R o e h n r = by (cases_lt (length p) n)
  where
    whole : Reaches T (p ++ a ∷ []) → ⊥
    whole q = h (subst (λ S. Satisfies S T.goal) (same_Some q.state R (sym q.is_after ∙ e)) q.goal)

    by : (length p < n) ⊎ (n ≤ length p) → ⊥
    by c = elim c [ inl lt ↦ whole (subst (Reaches T) (take_all n (p ++ a ∷ []) (omega (arith, length-append p (a ∷ [])))) r) | inr le ↦ o n (subst (Reaches T) (take-append-le n p (a ∷ []) le) r) ]
