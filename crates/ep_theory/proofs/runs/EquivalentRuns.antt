-- Tasks whose relations are equivalences.
use Rattle.std.proofs.Common.{◌≡◌, ℕ, ◌<◌, List, [], ◌∷◌, Some, refl, sym, ◌∙◌, subst}
use Rattle.std.proofs.lemmas.Option.{same_Some}
use Rattle.ep_logic.specs.declared.formula.Node.{Node}
use Rattle.ep_logic.specs.declared.formula.Node.TheVariants.{Knows}
use Rattle.ep_logic.specs.declared.ids.ActionId.{ActionId}
use Rattle.ep_logic.specs.declared.ids.AgentId.{AgentId}
use Rattle.ep_theory.specs.Kripke.{Kripke, IsState}
use Rattle.ep_theory.specs.Truth.{Truth}
use Rattle.ep_theory.specs.Fits.{ActionFits}
use Rattle.ep_theory.specs.Equivalences.{IsS5, IsS5Action}
use Rattle.ep_theory.specs.PlanningTask.{PlanningTask, IsPlanningTask, IsS5Task}
use Rattle.ep_theory.specs.Plans.{step, after_from, after}
use Rattle.ep_theory.proofs.actions.EquivalenceLemmas.{known_is_true, product-is_s5}
use Rattle.ep_theory.proofs.runs.Steps.{all_get, step_some, step_state}
use Rattle.ep_theory.proofs.runs.Runs.{after_state, first_step}

module _ (T : PlanningTask) (t : IsPlanningTask T) (e : IsS5Task T) where
  step_s5 : (S R : Kripke) (a : ActionId) → IsState S → S.agents ≡ T.initial.agents → IsS5 S → step T S a ≡ Some R → IsS5 R
  step_s5 S R a s agents s5 h =
      let m = (step_some T S R a s).0 h in
      let fit = all_get (ActionFits T.initial) T.actions a.n m.0 t.fit m.1 in
      subst IsS5 (sym m.3) (product-is_s5 S m.0 s (fit.agents ∙ sym agents) s5 (all_get IsS5Action T.actions a.n m.0 e.actions m.1))

  run_s5 : (p : List ActionId) (S R : Kripke) → IsState S → S.agents ≡ T.initial.agents → IsS5 S → after_from T S p ≡ Some R → IsS5 R
  run_s5 [] S R s agents s5 h = subst IsS5 (same_Some S R h) s5
  run_s5 (a ∷ p) S R s agents s5 h =
      let first = first_step (λ Q. after_from T Q p) (step T S a) R h in
      let one = step_state T t S first.0 a s first.1 in
      run_s5 p first.0 R one.0 (one.1 ∙ agents) (step_s5 S first.0 a s agents s5 first.1) first.2

  pub after_s5 : (p : List ActionId) (S : Kripke) → after T p ≡ Some S → IsS5 S
  after_s5 p S h = run_s5 p T.initial S t.initial refl e.initial h

  pub known_after : (p : List ActionId) (S : Kripke) → after T p ≡ Some S → (a : AgentId) (f : Node) (w : ℕ) → a.n < S.agents → w < S.worlds → Truth S w (Knows a f) → Truth S w f
  known_after p S h = known_is_true S (after_state T p S t h).0 (after_s5 p S h)
