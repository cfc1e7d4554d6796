-- The entries stay sound when one is added, or made better.
use Rattle.std.proofs.Common.{◌≡◌, ◌≢◌, ℕ, ◌+◌, ◌<◌, ◌≤◌, ◌⊎◌, inl, inr, List, [], ◌∷◌, ◌++◌, set, length, slice_get, Some, refl, sym, ap, ◌∙◌, subst, arith}
use Rattle.std.proofs.lemmas.Option.{same_Some}
use Rattle.std.proofs.lemmas.Bool.Decides.{eqb_tells}
use Rattle.ep_theory.specs.Kripke.{Kripke}
use Rattle.ep_theory.specs.Truth.{Satisfies}
use Rattle.ep_theory.specs.Canonical.{IsCanonical}
use Rattle.ep_theory.specs.PlanningTask.{PlanningTask}
use Rattle.ep_bounds.specs.declared.bounds.Bounds.{Bounds}
use Rattle.ep_store.specs.declared.entry.Step.{Step}
use Rattle.ep_store.specs.declared.entry.Entry.{Entry}
use Rattle.ep_store.specs.Stored.{Has, Lacks}
use Rattle.ep_store.proofs.CallerLemmas.{at_push_old, at_push_cases, at_set_same, at_set_other, at_set_cases}
use Rattle.ep_search.specs.Sound.{IsSound, IsMet, Leads}
use Rattle.ep_search.specs.Progresses.{MayStep}
use Rattle.ep_search.proofs.MoveLemmas.{LaterEntries, Origin-later}

-- the entry for a state that a step leads to
abbrev pub child_entry : Step → Kripke → ℕ → Entry
child_entry s c n = record { canon = c; weight = n; from = Some s }

pub later_push : (es : List Entry) (x : Entry) → LaterEntries es (es ++ x ∷ [])
later_push es x j e at = record { entry = e; at = at_push_old es x j e at; holds = (refl, omega arith) }

pub same_place : (m n : ℕ) → (m ≡ n) ⊎ (m ≢ n)
same_place m n = elim (eqb_tells m n) as (λ _. (m ≡ n) ⊎ (m ≢ n)) [ inl h ↦ inl h.1 | inr h ↦ inr h.1 ]

pub later_set : (es : List Entry) (j : ℕ) (x f : Entry) → slice_get es j ≡ Some f → f.canon ≡ x.canon → x.weight < f.weight → LaterEntries es (set es j x)
later_set es j x f at same less k e atk = by (same_place j k)
  where
    by : (j ≡ k) ⊎ (j ≢ k) → Has (set es j x) k (λ g. (g.canon ≡ e.canon) × (g.weight ≤ e.weight))
    by (inl eq) =
        let ef : f ≡ e = same_Some f e (sym at ∙ ap (slice_get es) eq ∙ atk) in
        record {
          entry = x;
          at = subst (λ n. slice_get (set es j x) n ≡ Some x) eq (at_set_same es j x f at);
          holds = (sym same ∙ ap (λ (g : Entry). g.canon) ef, subst (λ (g : Entry). x.weight ≤ g.weight) ef (omega arith));
        }
    by (inr ne) = record { entry = e; at = at_set_other es j k x ne ∙ atk; holds = (refl, omega arith) }

IsMet-later : (T : PlanningTask) (b : Bounds) (es fs : List Entry) (e : Entry) → LaterEntries es fs → IsMet T b es e → IsMet T b fs e
IsMet-later T b es fs e later m = record {
  canonical = m.canonical;
  unmet = m.unmet;
  within = m.within;
  narrow = m.narrow;
  origin = Origin-later T b.measure es fs e e.from later m.origin;
}

module _ (T : PlanningTask) (b : Bounds) (es : List Entry) (sound : IsSound T b es) (s : Step) (c : Kripke)
    (e : Entry) (at : slice_get es s.parent.n ≡ Some e) (may : MayStep T b s e) (leads : Leads T e.canon s.action c)
    (canonical : IsCanonical c) (unmet : Satisfies c T.goal → ⊥) (narrow : c.worlds ≤ b.worlds) where
  abbrev x : Entry
  x = child_entry s c (e.weight + s.toll)

  new_met : (fs : List Entry) → slice_get fs s.parent.n ≡ Some e → IsMet T b fs x
  new_met fs h = record {
    canonical = canonical;
    unmet = unmet;
    within = may.within;
    narrow = narrow;
    origin = (may.step, record { entry = e; at = h; holds = (omega arith, leads) });
  }

  pub sound_push : Lacks es c → IsSound T b (es ++ x ∷ [])
  sound_push lacks = record {
    first = record { entry = sound.first.entry; at = at_push_old es x 0 sound.first.entry sound.first.at; holds = sound.first.holds };
    each = λ i f h. each_by i f (at_push_cases es x i f h);
    distinct = λ i j f g h k same. apart_by i j f g same (at_push_cases es x i f h) (at_push_cases es x j g k);
  }
    where
      each_by : (i : ℕ) (f : Entry) → (slice_get es i ≡ Some f) ⊎ ((i ≡ length es) × (x ≡ f)) → IsMet T b (es ++ x ∷ []) f
      each_by i f (inl h) = IsMet-later T b es (es ++ x ∷ []) f (later_push es x) (sound.each i f h)
      each_by i f (inr h) = subst (IsMet T b (es ++ x ∷ [])) h.1 (new_met (es ++ x ∷ []) (at_push_old es x s.parent.n e at))

      apart_by : (i j : ℕ) (f g : Entry) → f.canon ≡ g.canon → (slice_get es i ≡ Some f) ⊎ ((i ≡ length es) × (x ≡ f)) → (slice_get es j ≡ Some g) ⊎ ((j ≡ length es) × (x ≡ g)) → i ≡ j
      apart_by i j f g same (inl h) (inl k) = sound.distinct i j f g h k same
      apart_by i j f g same (inl h) (inr k) = absurd (lacks i f h (same ∙ sym (ap (λ (y : Entry). y.canon) k.1)))
      apart_by i j f g same (inr h) (inl k) = absurd (lacks j g k (sym same ∙ sym (ap (λ (y : Entry). y.canon) h.1)))
      apart_by i j f g same (inr h) (inr k) = h.0 ∙ sym k.0

  module _ (j : ℕ) (f : Entry) (atj : slice_get es j ≡ Some f) (same : f.canon ≡ c) (less : e.weight + s.toll < f.weight) where
    -- the entry that becomes better is not the one that it now comes from
    pub other : j ≢ s.parent.n
    other eq =
        let ef : f ≡ e = same_Some f e (sym atj ∙ ap (slice_get es) eq ∙ at) in
        let weights : f.weight ≡ e.weight = ap (λ (g : Entry). g.weight) ef in
        omega arith

    pub sound_set : IsSound T b (set es j x)
    sound_set = record {
      first = record { entry = sound.first.entry; at = at_set_other es j 0 x not_first ∙ sound.first.at; holds = sound.first.holds };
      each = λ i g h. each_by i g (at_set_cases es j i x g h);
      distinct = λ i k g y h l eq. apart_by i k g y eq (at_set_cases es j i x g h) (at_set_cases es j k x y l);
    }
      where
        not_first : j ≢ 0
        not_first eq =
            let ef : f ≡ sound.first.entry = same_Some f sound.first.entry (sym atj ∙ ap (slice_get es) eq ∙ sound.first.at) in
            let weights : f.weight ≡ sound.first.entry.weight = ap (λ (g : Entry). g.weight) ef in
            omega (arith, sound.first.holds.0)

        each_by : (i : ℕ) (g : Entry) → ((j ≡ i) × (x ≡ g)) ⊎ ((j ≢ i) × (slice_get es i ≡ Some g)) → IsMet T b (set es j x) g
        each_by i g (inl h) = subst (IsMet T b (set es j x)) h.1 (new_met (set es j x) (at_set_other es j s.parent.n x other ∙ at))
        each_by i g (inr h) = IsMet-later T b es (set es j x) g (later_set es j x f atj same less) (sound.each i g h.1)

        canon : (y z : Entry) → y ≡ z → y.canon ≡ z.canon
        canon y z h = ap (λ (u : Entry). u.canon) h

        apart_by : (i k : ℕ) (g y : Entry) → g.canon ≡ y.canon → ((j ≡ i) × (x ≡ g)) ⊎ ((j ≢ i) × (slice_get es i ≡ Some g)) → ((j ≡ k) × (x ≡ y)) ⊎ ((j ≢ k) × (slice_get es k ≡ Some y)) → i ≡ k
        apart_by i k g y eq (inl h) (inl l) = sym h.0 ∙ l.0
        apart_by i k g y eq (inl h) (inr l) = sym h.0 ∙ sound.distinct j k f y atj l.1 (same ∙ canon x g h.1 ∙ eq)
        apart_by i k g y eq (inr h) (inl l) = sound.distinct i j g f h.1 atj (eq ∙ sym (canon x y l.1) ∙ sym same) ∙ l.0
        apart_by i k g y eq (inr h) (inr l) = sound.distinct i k g y h.1 l.1 eq
