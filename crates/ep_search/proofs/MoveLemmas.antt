-- What is settled stays settled while weights fall.
use Rattle.std.proofs.Common.{◌≡◌, ℕ, ◌<◌, ◌≤◌, ◌⊎◌, inl, inr, List, slice_get, get_or, Option, Some, None, sym, subst, arith}
use Rattle.ep_logic.specs.declared.ids.ActionId.{ActionId}
use Rattle.ep_theory.specs.Kripke.{Kripke}
use Rattle.ep_theory.specs.PlanningTask.{PlanningTask}
use Rattle.ep_store.specs.declared.entry.Step.{Step}
use Rattle.ep_store.specs.declared.entry.Entry.{Entry}
use Rattle.ep_store.specs.Stored.{Has}
use Rattle.ep_bounds.specs.declared.bounds.Bounds.{Bounds}
use Rattle.ep_bounds.specs.declared.bounds.Measure.{Measure}
use Rattle.ep_search.specs.declared.progress.Progress.{Progress}
use Rattle.ep_search.specs.Sound.{Origin, Leads, Settled, refused, far, late, stored}
use Rattle.ep_search.specs.Progresses.{Later, Waits, IsCovered, IsSettled, CoversBut}

-- each entry keeps its state, and no weight rises
abbrev pub LaterEntries : List Entry → List Entry → Type 0
LaterEntries es fs = (j : ℕ) (e : Entry) → slice_get es j ≡ Some e → Has fs j (λ f. (f.canon ≡ e.canon) × (f.weight ≤ e.weight))

pub Settled-later : (T : PlanningTask) (b : Bounds) (es fs : List Entry) (k l : ℕ) (c : Kripke) (n : ℕ) (a : ActionId) → l ≤ k → LaterEntries es fs → Settled T b es k c n a → Settled T b fs l c n a
Settled-later T b es fs k l c n a le later (refused r) = refused r
Settled-later T b es fs k l c n a le later (far h) = far h
Settled-later T b es fs k l c n a le later (late h) = late (omega (arith, le, h))
Settled-later T b es fs k l c n a le later (stored j has) =
    let new = later j has.entry has.at in
    stored j (record { entry = new.entry; at = new.at; holds = (omega (arith, new.holds.1, has.holds.0), subst (Leads T c a) (sym new.holds.0) has.holds.1) })

pub Origin-later : (T : PlanningTask) (m : Measure) (es fs : List Entry) (e : Entry) (o : Option Step) → LaterEntries es fs → Origin T m es e o → Origin T m fs e o
Origin-later T m es fs e None later h = h
Origin-later T m es fs e (Some s) later h =
    let new = later s.parent.n h.1.entry h.1.at in
    (h.0, record { entry = new.entry; at = new.at; holds = (omega (arith, new.holds.1, h.1.holds.0), subst (λ c. Leads T c s.action e.canon) (sym new.holds.0) h.1.holds.1) })

-- how a change leaves what is covered covered: an entry is as it was, or it waits, and is not marked at its weight
pub record Moves (b : Bounds) (p q : Progress) : Type 0 where
  pub later : Later p q
  pub waits : (j : ℕ) → Waits p.frontier j → Waits q.frontier j
  pub entry : (j : ℕ) (f : Entry) → slice_get q.store.entries j ≡ Some f
      → ((slice_get p.store.entries j ≡ Some f) × (get_or q.expanded.items j 0 ≡ get_or p.expanded.items j 0))
      ⊎ ((f.weight < b.bound → Waits q.frontier j) × (f.weight < b.bound → f.weight < get_or q.expanded.items j 0))

module _ (T : PlanningTask) (b : Bounds) (p q : Progress) (moves : Moves b p q) where
  pub IsSettled-moves : (e : Entry) → IsSettled T b p e → IsSettled T b q e
  IsSettled-moves e h a = Settled-later T b p.store.entries q.store.entries p.least q.least e.canon e.weight a moves.later.least moves.later.entries (h a)

  waits_or : (j : ℕ) (f : Entry) → Waits p.frontier j ⊎ IsSettled T b p f → Waits q.frontier j ⊎ IsSettled T b q f
  waits_or j f (inl w) = inl (moves.waits j w)
  waits_or j f (inr h) = inr (IsSettled-moves f h)

  covered : (j : ℕ) (f : Entry)
      → ((slice_get p.store.entries j ≡ Some f) × (get_or q.expanded.items j 0 ≡ get_or p.expanded.items j 0))
      ⊎ ((f.weight < b.bound → Waits q.frontier j) × (f.weight < b.bound → f.weight < get_or q.expanded.items j 0))
      → (slice_get p.store.entries j ≡ Some f → IsCovered T b p j f) → IsCovered T b q j f
  covered j f (inl old) before =
      let was = before old.0 in
      record {
        waits = λ lt. waits_or j f (was.waits lt);
        marked = λ lt le. IsSettled-moves f (was.marked lt (subst (λ n. n ≤ f.weight) old.1 le));
      }
  covered j f (inr new) before = record {
    waits = λ lt. inl (new.0 lt);
    marked = λ lt le. absurd (omega (arith, new.1 lt, le));
  }

  pub CoversBut-moves : (i : ℕ) → CoversBut T b p i → CoversBut T b q i
  CoversBut-moves i before j f at ne = covered j f (moves.entry j f at) (λ old. before j f old ne)
