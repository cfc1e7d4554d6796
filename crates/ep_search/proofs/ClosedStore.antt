-- Where a search by costs ends without a plan, and nothing waits, what it stored is closed.
use Rattle.std.proofs.Common.{◌≡◌, ℕ, zero, suc, ◌+◌, ◌≤◌, ◌⊎◌, inl, inr, List, [], ◌∷◌, slice_get, Some, None, refl, sym, ap, ◌∙◌, subst, arith}
use Rattle.std.specs.List.{AllByRecursion}
use Rattle.std.proofs.lemmas.List.{length-map}
use Rattle.std.proofs.lemmas.Option.{same_Some, none-some}
use Rattle.ep_bounds.specs.Bounds.{IsBounds}
use Rattle.ep_bounds.specs.declared.bounds.Bounds.{Bounds}
use Rattle.ep_bounds.specs.declared.bounds.Measure.TheVariants.{Cost}
use Rattle.ep_logic.specs.declared.ids.ActionId.{ActionId}
use Rattle.ep_theory.specs.Kripke.{Kripke}
use Rattle.ep_theory.specs.Events.{EventModel}
use Rattle.ep_theory.specs.Product.{IsApplicable, product_of}
use Rattle.ep_theory.specs.Bisimulation.{Bisimilar}
use Rattle.ep_theory.specs.PlanningTask.{PlanningTask, IsPlanningTask}
use Rattle.ep_theory.specs.Plans.{cost_at}
use Rattle.ep_theory.specs.Closed.{MayStand, Stands, Closed}
use Rattle.ep_theory.proofs.CallerLemmas.{after_state, step_some}
use Rattle.ep_store.specs.declared.entry.Entry.{Entry}
use Rattle.ep_search.specs.Alike.{Alike}
use Rattle.ep_search.specs.Tolls.{toll_of}
use Rattle.ep_search.specs.Sound.{IsBest, Settled, refused, far, late, stored}
use Rattle.ep_search.specs.Progresses.{Keeps, CoversAll}
use Rattle.ep_search.specs.Weighed.{weighed_state, weighed}
use Rattle.ep_search.specs.declared.progress.Progress.{Progress}
use Rattle.ep_search.proofs.AlikeLemmas.{from_Alike, Alike-sym, Alike-trans, Alike-agents, Alike-atoms}
use Rattle.ep_search.proofs.PathLemmas.{entry_plan}
use Rattle.ep_search.proofs.RunLemmas.{all_settled}

get_weighed : (es : List Entry) (i : ℕ) (e : Entry) → slice_get es i ≡ Some e → slice_get (weighed es) i ≡ Some (weighed_state e)
get_weighed [] i e h = absurd (none-some e h)
get_weighed (x ∷ es) zero e h = ap (λ y. Some (weighed_state y)) (same_Some x e h)
get_weighed (x ∷ es) (suc i) e h = get_weighed es i e h

from_weighed : (es : List Entry) (i : ℕ) (s : Kripke × ℕ) → slice_get (weighed es) i ≡ Some s → (e : Entry) × (slice_get es i ≡ Some e) × (weighed_state e ≡ s)
from_weighed [] i s h = absurd (none-some s h)
from_weighed (x ∷ es) zero s h = (x, refl, same_Some (weighed_state x) s h)
from_weighed (x ∷ es) (suc i) s h = from_weighed es i s h

all_weighed : (P : Kripke × ℕ → Type 0) (es : List Entry) → ((i : ℕ) (e : Entry) → slice_get es i ≡ Some e → P (weighed_state e)) → AllByRecursion P (weighed es)
all_weighed P [] h = tt
all_weighed P (x ∷ es) h = (h 0 x refl, all_weighed P es (λ i e at. h (suc i) e at))

module _ (T : PlanningTask) (b : Bounds) (p : Progress) (t : IsPlanningTask T) (bounds : IsBounds b) (costs : b.measure ≡ Cost)
    (k : Keeps T b p) (all : CoversAll T b p) (done : p.frontier ≡ []) (none : p.best ≡ None) where
  -- the state of an entry is one that a plan leaves, up to bisimilarity
  left : (i : ℕ) (e : Entry) → slice_get p.store.entries i ≡ Some e → (S : Kripke) × Alike S e.canon × (S.agents ≡ T.initial.agents) × (S.atoms ≡ T.initial.atoms)
  left i e at =
      let plan = entry_plan T b p.store.entries k.sound i e at in
      let to = plan.1.leads in
      let state = after_state T plan.0 to.state t to.is_after in
      (to.state, to.bisimilar, state.1, state.2)

  itself : (i : ℕ) (e : Entry) → slice_get p.store.entries i ≡ Some e → Alike e.canon e.canon
  itself i e at = let s = left i e at in Alike-trans e.canon s.0 e.canon (Alike-sym s.0 e.canon s.1) s.1

  least : p.least ≡ b.bound + 1
  least = subst (IsBest T b p.least) none k.best

  toll : (a : ActionId) → toll_of T b.measure a ≡ cost_at T a
  toll a = ap (λ m. toll_of T m a) costs

  stands : (i : ℕ) (e : Entry) → slice_get p.store.entries i ≡ Some e → MayStand T b.bound (weighed_state e)
  stands i e at =
      let m = k.sound.each i e at in
      let s = left i e at in
      record {
        valid = (from_Alike s.0 e.canon s.1).1;
        agents = sym (Alike-agents s.0 e.canon s.1) ∙ s.2;
        atoms = sym (Alike-atoms s.0 e.canon s.1) ∙ s.3;
        narrow = omega (arith, m.narrow, bounds.worlds);
        cheap = m.within;
        unmet = m.unmet;
      }

  tried_by : (e : Entry) (a : ActionId) (A : EventModel) → Alike e.canon e.canon → slice_get T.actions a.n ≡ Some A → e.weight + cost_at T a ≤ b.bound → Settled T b p.store.entries p.least e.canon e.weight a
      → (IsApplicable e.canon A → ⊥) ⊎ Stands (weighed p.store.entries) (e.weight + cost_at T a) (product_of e.canon A)
  tried_by e a A same action within (refused never) =
      inl (λ applies.
      let goes = (step_some T e.canon (product_of e.canon A) a (from_Alike e.canon e.canon same).0).1 (A, action, applies, refl) in
      none-some (product_of e.canon A) (sym (never e.canon same) ∙ goes))
  tried_by e a A same action within (far h) = absurd (omega (arith, h, within, toll a))
  tried_by e a A same action within (late h) = absurd (omega (arith, h, least, within, toll a))
  tried_by e a A same action within (stored j has) =
      let next = has.holds.1 e.canon same in
      let made = (step_some T e.canon next.0 a (from_Alike e.canon e.canon same).0).0 next.1 in
      let one : made.0 ≡ A = same_Some made.0 A (sym made.1 ∙ action) in
      let product : next.0 ≡ product_of e.canon A = made.3 ∙ ap (product_of e.canon) one in
      inr (record {
        place = j;
        entry = weighed_state has.entry;
        at = get_weighed p.store.entries j has.entry has.at;
        cheap = omega (arith, has.holds.0, toll a);
        alike = subst (λ S. Bisimilar S has.entry.canon) product (from_Alike next.0 has.entry.canon next.2).2;
      })

  pub closed_store : Closed T b.bound (weighed p.store.entries)
  closed_store = record {
    few = omega (arith, length-map p.store.entries weighed_state, k.room, bounds.states);
    first = record {
      place = 0;
      entry = weighed_state k.sound.first.entry;
      at = get_weighed p.store.entries 0 k.sound.first.entry k.sound.first.at;
      cheap = omega (arith, k.sound.first.holds.0);
      alike = (from_Alike T.initial k.sound.first.entry.canon k.sound.first.holds.1).2;
    };
    each = all_weighed (MayStand T b.bound) p.store.entries stands;
    tried = λ i a s at A action within.
        let from = from_weighed p.store.entries i s at in
        subst (λ (x : Kripke × ℕ). (IsApplicable x.0 A → ⊥) ⊎ Stands (weighed p.store.entries) (x.1 + cost_at T a) (product_of x.0 A)) from.2
        (let near : from.0.weight + cost_at T a ≤ b.bound = subst (λ (x : Kripke × ℕ). x.1 + cost_at T a ≤ b.bound) (sym from.2) within in
        tried_by from.0 a A (itself i from.0 from.1) action near (all_settled T t b p all done i from.0 from.1 a));
  }
