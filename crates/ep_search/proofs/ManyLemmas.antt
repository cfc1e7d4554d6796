-- A full store is evidence of many states.
use Rattle.std.proofs.Common.{◌≡◌, ℕ, ◌<◌, ◌≤◌, ◌⊎◌, inl, inr, List, length, slice_get, Option, Some, None, refl, sym, ◌∙◌, subst, arith}
use Rattle.std.proofs.lemmas.Option.{same_Some, slice_get-get_or, none-some}
use Rattle.std.proofs.lemmas.Bool.{cases_lt}
use Rattle.ep_logic.specs.declared.ids.ActionId.{ActionId}
use Rattle.ep_theory.specs.Kripke.{Kripke}
use Rattle.ep_search.specs.Alike.{Alike}
use Rattle.ep_theory.specs.Canonical.{IsCanonical}
use Rattle.ep_theory.specs.PlanningTask.{PlanningTask}
use Rattle.ep_theory.specs.Plans.{weight}
use Rattle.ep_bounds.specs.declared.bounds.Bounds.{Bounds}
use Rattle.ep_search.specs.Within.{OpenWithin, ManyWithin}
use Rattle.ep_search.proofs.AlikeLemmas.{to_Alike, from_Alike, Alike-sym, Alike-trans, IsCanonical-unique}
use Rattle.ep_store.specs.declared.entry.Entry.{Entry}
use Rattle.ep_store.specs.Stored.{Has, Lacks}
use Rattle.ep_search.specs.Sound.{IsSound}
use Rattle.ep_search.proofs.PathLemmas.{PlanTo, entry_plan}

pub PlanTo-open : (T : PlanningTask) (b : Bounds) (p : List ActionId) (c : Kripke) → weight T b.measure p ≤ b.bound → PlanTo T p c → OpenWithin T b p
PlanTo-open T b p c within to = record { within = within; state = to.state; is_after = to.is_after; open_plan = to.is_open }

module _ (T : PlanningTask) (b : Bounds) (es : List Entry) (sound : IsSound T b es) where
  module _ (full : length es ≡ b.states) (q : List ActionId) (c : Kripke) (canonical : IsCanonical c) (lacks : Lacks es c) (within : weight T b.measure q ≤ b.bound) (to : PlanTo T q c) where
    -- the plan to the state at a place, and to c behind the last
    record Pick (i : ℕ) : Type 0 where
      plan : List ActionId
      state : Kripke
      is_within : weight T b.measure plan ≤ b.bound
      leads : PlanTo T plan state
      is_canonical : IsCanonical state
      which : Has es i (λ e. e.canon ≡ state) ⊎ ((length es ≤ i) × (c ≡ state))

    pick_at : (i : ℕ) (o : Option Entry) → slice_get es i ≡ o → Pick i
    pick_at i None at = record { plan = q; state = c; is_within = within; leads = to; is_canonical = canonical; which = inr (past at, refl) }
      where
        past : slice_get es i ≡ None → length es ≤ i
        past none = elim (cases_lt i (length es)) as (λ _. length es ≤ i) [ inl lt ↦ absurd (none-some _ (sym none ∙ slice_get-get_or es i (record { canon = c; weight = 0; from = None }) lt)) | inr le ↦ le ]
    pick_at i (Some e) at =
        let p = entry_plan T b es sound i e at in
        let m = sound.each i e at in
        record { plan = p.0; state = e.canon; is_within = omega (arith, p.1.within, m.within); leads = p.1.leads; is_canonical = m.canonical; which = inl (record { entry = e; at = at; holds = refl }) }

    pick : (i : ℕ) → Pick i
    pick i = pick_at i (slice_get es i) refl

    -- the states picked at two places differ
    differ : (i j : ℕ) → i < j → j ≤ length es → (s t : Kripke) → s ≡ t
        → Has es i (λ e. e.canon ≡ s) ⊎ ((length es ≤ i) × (c ≡ s)) → Has es j (λ e. e.canon ≡ t) ⊎ ((length es ≤ j) × (c ≡ t)) → ⊥
    differ i j lt le s t same (inl h) (inl k) = let e = sound.distinct i j h.entry k.entry h.at k.at (h.holds ∙ same ∙ sym k.holds) in omega arith
    differ i j lt le s t same (inl h) (inr k) = lacks i h.entry h.at (h.holds ∙ same ∙ sym k.1)
    differ i j lt le s t same (inr h) k = omega (arith, h.0)

    pub full_is_many : ManyWithin T b
    full_is_many = record {
      plan = λ i. (pick i).plan;
      each = λ i le. PlanTo-open T b (pick i).plan (pick i).state (pick i).is_within (pick i).leads;
      apart = λ i j lt le S R h k alike.
          let p = pick i in
          let r = pick j in
          let ps = same_Some S p.leads.state (sym h ∙ p.leads.is_after) in
          let rs = same_Some R r.leads.state (sym k ∙ r.leads.is_after) in
          let sp : Alike S p.state = subst (λ Q. Alike Q p.state) (sym ps) p.leads.bisimilar in
          let rr : Alike R r.state = subst (λ Q. Alike Q r.state) (sym rs) r.leads.bisimilar in
          let sr : Alike S R = to_Alike S R (from_Alike S p.state sp).0 (from_Alike R r.state rr).0 alike in
          let both = Alike-trans p.state R r.state (Alike-trans p.state S R (Alike-sym S p.state sp) sr) rr in
          differ i j lt (omega (arith, le, full)) p.state r.state (IsCanonical-unique p.state r.state p.is_canonical r.is_canonical both) p.which r.which;
    }
