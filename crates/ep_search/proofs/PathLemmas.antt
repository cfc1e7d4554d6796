-- Each entry has a path, and its path is an open plan that measures at most the entry's weight.
use Rattle.std.proofs.Common.{◌≡◌, ℕ, zero, suc, ◌+◌, ◌<◌, ◌≤◌, List, [], ◌∷◌, ◌++◌, slice_get, Option, Some, None, refl, sym, ◌∙◌, subst, arith}
use Rattle.std.proofs.lemmas.Option.{same_Some}
use Rattle.std.proofs.lemmas.List.{map-append}
use Rattle.ep_bounds.specs.declared.bounds.Bounds.{Bounds}
use Rattle.ep_bounds.specs.declared.bounds.Measure.{Measure}
use Rattle.ep_logic.specs.declared.ids.ActionId.{ActionId}
use Rattle.ep_theory.specs.Kripke.{Kripke}
use Rattle.ep_theory.specs.Plans.{after, weight}
use Rattle.ep_theory.specs.Truth.{Satisfies}
use Rattle.ep_search.specs.Alike.{Alike}
use Rattle.ep_theory.specs.PlanningTask.{PlanningTask}
use Rattle.ep_search.specs.Planned.{actions_of}
use Rattle.ep_search.specs.Within.{IsOpen}
use Rattle.ep_search.proofs.AlikeLemmas.{Alike-sym, Satisfies-Alike}
use Rattle.ep_search.proofs.TollLemmas.{weight_nil, weight_snoc}
use Rattle.ep_store.specs.declared.entry.Step.{Step}
use Rattle.ep_store.specs.declared.entry.Entry.{Entry}
use Rattle.ep_store.specs.Stored.{Has, IsPath, start, more}
use Rattle.ep_search.specs.Sound.{IsSound, Origin, IsStep, Leads}
use Rattle.ep_theory.proofs.CallerLemmas.{after-snoc}
use Rattle.ep_search.proofs.AfterLemmas.{IsOpen-empty, IsOpen-snoc}

-- the plan is open, and leads to a state that is bisimilar to c
pub record PlanTo (T : PlanningTask) (p : List ActionId) (c : Kripke) : Type 0 where
  pub state : Kripke
  pub is_after : after T p ≡ Some state
  pub bisimilar : Alike state c
  pub is_open : IsOpen T p

-- one more action after an open plan
pub PlanTo-snoc : (T : PlanningTask) (p : List ActionId) (a : ActionId) (c d : Kripke) → PlanTo T p c → Leads T c a d → (Satisfies d T.goal → ⊥) → PlanTo T (p ++ a ∷ []) d
PlanTo-snoc T p a c d to leads unmet =
    let next = leads to.state (Alike-sym to.state c to.bisimilar) in
    let made = after-snoc T p a to.state next.0 to.is_after next.1 in
    record {
      state = next.0;
      is_after = made;
      bisimilar = next.2;
      is_open = IsOpen-snoc T p a next.0 to.is_open made (λ h. unmet (Satisfies-Alike next.0 d T.goal next.2 h));
    }

-- the plan leads to the state of the entry and measures at most its weight
pub record PlanOf (T : PlanningTask) (m : Measure) (p : List ActionId) (e : Entry) : Type 0 where
  pub leads : PlanTo T p e.canon
  pub within : weight T m p ≤ e.weight

-- what a plan measures with the action of one more step
pub weight_step : (T : PlanningTask) (m : Measure) (p : List ActionId) (s : Step) → IsStep T m s → weight T m (p ++ s.action ∷ []) ≡ weight T m p + s.toll
weight_step T m p s step = omega (arith, weight_snoc T m p s.action, step.toll)

module _ (T : PlanningTask) (b : Bounds) (es : List Entry) (sound : IsSound T b es) where
  pub path_plan : (i : ℕ) (xs : List Step) → IsPath es i xs → Has es i (PlanOf T b.measure (actions_of xs))
  path_plan _ _ (start i e at none) =
      let first = subst (Origin T b.measure es e) none (sound.each i e at).origin in
      record {
        entry = e;
        at = at;
        holds = record {
          leads = record {
            state = T.initial;
            is_after = refl;
            bisimilar = first;
            is_open = IsOpen-empty T (λ h. (sound.each i e at).unmet (Satisfies-Alike T.initial e.canon T.goal first h));
          };
          within = omega (arith, weight_nil T b.measure);
        };
      }
  path_plan _ _ (more i e s ys at from path) =
      let old = path_plan s.parent.n ys path in
      let origin = subst (Origin T b.measure es e) from (sound.each i e at).origin in
      let plan : PlanOf T b.measure (actions_of ys) origin.1.entry = subst (PlanOf T b.measure (actions_of ys)) (same_Some old.entry origin.1.entry (sym old.at ∙ origin.1.at)) old.holds in
      record {
        entry = e;
        at = at;
        holds = subst (λ p. PlanOf T b.measure p e) (sym (map-append (λ (s : Step). s.action) ys (s ∷ []))) (record {
          leads = PlanTo-snoc T (actions_of ys) s.action origin.1.entry.canon e.canon plan.leads origin.1.holds.1 (sound.each i e at).unmet;
          within = omega (arith, weight_step T b.measure (actions_of ys) s origin.0, plan.within, origin.1.holds.0);
        });
      }

  -- some path
  abbrev Found : ℕ → Type 0
  Found i = (xs : List Step) × IsPath es i xs

  from_origin : (i : ℕ) (e : Entry) → slice_get es i ≡ Some e → (o : Option Step) → e.from ≡ o → Origin T b.measure es e o
      → ((j : ℕ) (f : Entry) → slice_get es j ≡ Some f → f.weight < e.weight → Found j) → Found i
  from_origin i e at None from origin older = ([], start i e at from)
  from_origin i e at (Some s) from origin older =
      let old = older s.parent.n origin.1.entry origin.1.at (omega (arith, origin.0.some, origin.1.holds.0)) in
      (old.0 ++ s ∷ [], more i e s old.0 at from old.1)

  path_within : (fuel i : ℕ) (e : Entry) → slice_get es i ≡ Some e → e.weight ≤ fuel → Found i
  path_within zero i e at le = from_origin i e at e.from refl (sound.each i e at).origin (λ j f h lt. absurd (omega (arith, le, lt)))
  path_within (suc fuel) i e at le = from_origin i e at e.from refl (sound.each i e at).origin (λ j f h lt. path_within fuel j f h (omega (arith, le, lt)))

  -- a plan to the state of an entry
  pub entry_plan : (i : ℕ) (e : Entry) → slice_get es i ≡ Some e → (p : List ActionId) × PlanOf T b.measure p e
  entry_plan i e at =
      let path = path_within e.weight i e at (omega arith) in
      let has = path_plan i path.0 path.1 in
      (actions_of path.0, subst (PlanOf T b.measure (actions_of path.0)) (same_Some has.entry e (sym has.at ∙ at)) has.holds)
