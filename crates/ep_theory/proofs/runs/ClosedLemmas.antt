-- Where a list of weighed states is closed, no plan within the bound reaches the goal.
use Rattle.std.proofs.Common.{◌≡◌, ℕ, ◌+◌, ◌≤◌, List, [], ◌∷◌, map, Some, subst, arith, inl, inr}
use Rattle.std.proofs.lemmas.List.Sums.{sum_by-cons}
use Rattle.std.proofs.lemmas.Option.{same_Some}
use Rattle.ep_bounds.specs.declared.bounds.Measure.TheVariants.{Cost}
use Rattle.ep_logic.specs.declared.ids.ActionId.{ActionId}
use Rattle.ep_theory.specs.Kripke.{Kripke, IsState}
use Rattle.ep_theory.specs.Bisimulation.{Bisimilar}
use Rattle.ep_theory.proofs.states.Equivalence.{bisimilar_trans}
use Rattle.ep_theory.proofs.formulas.SameTruth.{same_at_all}
use Rattle.ep_theory.specs.PlanningTask.{PlanningTask, IsPlanningTask}
use Rattle.ep_theory.specs.Plans.{step, after_from, cost_at, weight}
use Rattle.ep_theory.proofs.runs.Steps.{all_get, step_some, step_state, step_alike}
use Rattle.ep_theory.proofs.runs.Runs.{first_step}
use Rattle.ep_theory.specs.Closed.{MayStand, Stands, Closed, HasNoPlan}

module _ (T : PlanningTask) (t : IsPlanningTask T) (b : ℕ) (es : List (Kripke × ℕ)) (closed : Closed T b es) where
  -- an entry of at most this weight that S is bisimilar to
  pub record Near (S : Kripke) (m : ℕ) : Type 0 where
    pub valid : IsState S
    pub stands : Stands es m S

  -- one step from a state that stands leads to a state that stands
  one_step : (S R : Kripke) (a : ActionId) (m : ℕ) → Near S m → m + cost_at T a ≤ b → step T S a ≡ Some R → Near R (m + cost_at T a)
  one_step S R a m near within h =
      let e = near.stands.entry in
      let stand = all_get (MayStand T b) es near.stands.place e closed.each near.stands.at in
      let other = step_alike T t S e.0 R a near.valid stand.valid near.stands.alike h in
      let applied = (step_some T e.0 other.0 a stand.valid).0 other.1 in
      let valid = (step_state T t S R a near.valid h).0 in
      elim (closed.tried near.stands.place a e near.stands.at applied.0 applied.1 (omega (arith, near.stands.cheap))) as (λ _. Near R (m + cost_at T a)) [
        | inl never ↦ absurd (never applied.2)
        | inr s ↦ record {
          valid = valid;
          stands = record {
            place = s.place;
            entry = s.entry;
            at = s.at;
            cheap = omega (arith, s.cheap, near.stands.cheap);
            alike = bisimilar_trans (subst (λ P. Bisimilar R P) applied.3 other.2) s.alike;
          };
        }
      ]

  runs : (p : List ActionId) (S Q : Kripke) (m : ℕ) → Near S m → m + weight T Cost p ≤ b → after_from T S p ≡ Some Q → Near Q b
  runs [] S Q m near within h = record {
    valid = subst IsState (same_Some S Q h) near.valid;
    stands = record {
      place = near.stands.place;
      entry = near.stands.entry;
      at = near.stands.at;
      cheap = omega (arith, near.stands.cheap, within);
      alike = subst (λ U. Bisimilar U near.stands.entry.0) (same_Some S Q h) near.stands.alike;
    };
  }
  runs (a ∷ p) S Q m near within h =
      let first = first_step (λ U. after_from T U p) (step T S a) Q h in
      let more : weight T Cost (a ∷ p) ≡ cost_at T a + weight T Cost p = sum_by-cons (λ x. x) (cost_at T a) (map (cost_at T) p) in
      runs p first.0 Q (m + cost_at T a) (one_step S first.0 a m near (omega (arith, within, more)) first.1) (omega (arith, within, more)) first.2

  pub no_plan : HasNoPlan T b
  no_plan p within r =
      let start : Near T.initial 0 = record { valid = t.initial; stands = closed.first } in
      let last = runs p T.initial r.state 0 start (omega (arith, within)) r.is_after in
      let stand = all_get (MayStand T b) es last.stands.place last.stands.entry closed.each last.stands.at in
      stand.unmet ((same_at_all r.state last.stands.entry.0 last.stands.alike T.goal).0 r.goal)
