-- What stands while an entry is expanded.
use Rattle.std.proofs.Common.{◌≡◌, ◌≢◌, ℕ, ◌+◌, ◌-◌, ◌<◌, ◌≤◌, ◌⊎◌, inl, inr, set, length, slice_get, get_or, Some, Vec, Global, sym, ap, ◌∙◌, subst, arith}
use Rattle.std.proofs.lemmas.Option.{same_Some, slice_get_past, slice_get_within}
use Rattle.std.proofs.lemmas.Bool.{cases_lt}
use Rattle.std.proofs.lemmas.List.{length-set, get_or-set_same, get_or-set_other}
use Rattle.std.proofs.lemmas.List.Sums.{sum_by-set}
use Rattle.ep_logic.specs.declared.ids.ActionId.{ActionId}
use Rattle.ep_theory.specs.PlanningTask.{PlanningTask}
use Rattle.ep_store.specs.declared.entry.Entry.{Entry}
use Rattle.ep_store.specs.Stored.{Has}
use Rattle.ep_bounds.specs.declared.bounds.Bounds.{Bounds}
use Rattle.ep_search.specs.declared.progress.Progress.{Progress}
use Rattle.ep_search.specs.Sound.{Settled, refused}
use Rattle.ep_search.specs.Progresses.{Keeps, IsCovered, CoversBut, Tried, Expanded, spent}
use Rattle.ep_search.proofs.MoveLemmas.{Settled-later}
use Rattle.ep_search.proofs.SoundLemmas.{same_place}
use Rattle.ep_search.proofs.LeadLemmas.{refuses_past}

abbrev pub with_marks : Progress → Vec ℕ Global → Progress
with_marks p v = record { store = p.store; frontier = p.frontier; expanded = v; best = p.best; least = p.least }

-- p is where the expansion of entry i began, and q where it is, after n actions
pub record Going (T : PlanningTask) (b : Bounds) (p q : Progress) (i weight n : ℕ) : Type 0 where
  pub keeps : Keeps T b q
  pub covers : CoversBut T b q i
  pub entry : Has q.store.entries i (λ e. (e.weight ≡ weight) × (e.weight < b.bound))
  pub settled : (e : Entry) → slice_get q.store.entries i ≡ Some e → (a : ActionId) → a.n < n → Settled T b q.store.entries q.least e.canon e.weight a
  pub pushed : length q.frontier ≤ length p.frontier + n
  pub marks : spent b.bound p.expanded.items + 1 ≤ spent b.bound q.expanded.items

-- the mark of an entry falls to its weight
pub going_start : (T : PlanningTask) (b : Bounds) (p : Progress) (i weight : ℕ) (v : Vec ℕ Global) → Keeps T b p → CoversBut T b p i → Has p.store.entries i (λ e. (e.weight ≡ weight) × (e.weight < b.bound))
    → weight < get_or p.expanded.items i 0 → v.items ≡ set p.expanded.items i weight → Going T b p (with_marks p v) i weight 0
going_start T b p i weight v k covers has unmarked items = record {
  keeps = record {
    sound = k.sound;
    best = k.best;
    limit = k.limit;
    room = k.room;
    marks = ap length items ∙ length-set p.expanded.items i weight ∙ k.marks;
    low = λ j. low_by j (same_place j i);
    high = λ j f at. high_by j f at (same_place j i);
    waiting = k.waiting;
  };
  covers = λ j f at ne. let was = covers j f at ne in record { waits = was.waits; marked = λ lt le. was.marked lt (subst (λ m. m ≤ f.weight) (mark_other j ne) le) };
  entry = has;
  settled = λ e at a lt. absurd (omega arith);
  pushed = omega arith;
  marks = omega (arith, ap (spent b.bound) items, sum_by-set (λ x. b.bound - x) p.expanded.items i weight 0 inside, k.low i);
}
  where
    inside : i < length p.expanded.items
    inside = omega (arith, slice_get_within p.store.entries i has.entry has.at, k.marks)

    mark_other : (j : ℕ) → j ≢ i → get_or v.items j 0 ≡ get_or p.expanded.items j 0
    mark_other j ne = ap (λ xs. get_or xs j 0) items ∙ get_or-set_other p.expanded.items i j weight 0 ne

    mark_same : (j : ℕ) → j ≡ i → get_or v.items j 0 ≡ weight
    mark_same j eq = ap (λ xs. get_or xs j 0) items ∙ ap (λ m. get_or (set p.expanded.items i weight) m 0) eq ∙ get_or-set_same p.expanded.items i weight 0 inside

    low_by : (j : ℕ) → (j ≡ i) ⊎ (j ≢ i) → get_or v.items j 0 ≤ b.bound
    low_by j (inl eq) = omega (arith, mark_same j eq, has.holds.0)
    low_by j (inr ne) = omega (arith, mark_other j ne, k.low j)

    high_by : (j : ℕ) (f : Entry) → slice_get p.store.entries j ≡ Some f → (j ≡ i) ⊎ (j ≢ i) → f.weight ≤ get_or v.items j 0
    high_by j f at (inl eq) =
        let same : has.entry ≡ f = same_Some has.entry f (sym has.at ∙ ap (slice_get p.store.entries) (sym eq) ∙ at) in
        let weights : has.entry.weight ≡ f.weight = ap (λ (g : Entry). g.weight) same in
        omega (arith, mark_same j eq, has.holds.0)
    high_by j f at (inr ne) = omega (arith, mark_other j ne, k.high j f at)

-- one more action
pub going_more : (T : PlanningTask) (b : Bounds) (p q r : Progress) (i weight n : ℕ) (a : ActionId) → Going T b p q i weight n → a.n ≡ n → Tried T b q r i a → Going T b p r i weight (n + 1)
going_more T b p q r i weight n a g is t = record {
  keeps = t.keeps;
  covers = t.covers;
  entry = record { entry = g.entry.entry; at = t.same ∙ g.entry.at; holds = g.entry.holds };
  settled = λ e at x lt. settled_by e (sym t.same ∙ at) x (cases_lt x.n n) lt;
  pushed = omega (arith, g.pushed, t.pushed);
  marks = omega (arith, g.marks, t.marks);
}
  where
    settled_by : (e : Entry) → slice_get q.store.entries i ≡ Some e → (x : ActionId) → (x.n < n) ⊎ (n ≤ x.n) → x.n < n + 1 → Settled T b r.store.entries r.least e.canon e.weight x
    settled_by e at x (inl lt) _ = Settled-later T b q.store.entries r.store.entries q.least r.least e.canon e.weight x t.later.least t.later.entries (g.settled e at x lt)
    settled_by e at x (inr ge) lt =
        let num : a.n ≡ x.n = omega arith in
        let same : a ≡ x = ap {B = ActionId} (λ m. record { n = m }) num in
        subst (Settled T b r.store.entries r.least e.canon e.weight) same (t.settled e at)

-- every action was tried
pub going_end : (T : PlanningTask) (b : Bounds) (p q : Progress) (i weight n : ℕ) → Going T b p q i weight n → length T.actions ≡ n → Expanded T b p q
going_end T b p q i weight n g all = record {
  keeps = g.keeps;
  covers = λ j e at. by j e at (same_place j i);
  pushed = omega (arith, g.pushed);
  marks = g.marks;
}
  where
    every : (e : Entry) → slice_get q.store.entries i ≡ Some e → (a : ActionId) → (a.n < n) ⊎ (n ≤ a.n) → Settled T b q.store.entries q.least e.canon e.weight a
    every e at a (inl lt) = g.settled e at a lt
    every e at a (inr ge) = refused (refuses_past T e.canon a (slice_get_past T.actions a.n (omega arith)))

    by : (j : ℕ) (e : Entry) → slice_get q.store.entries j ≡ Some e → (j ≡ i) ⊎ (j ≢ i) → IsCovered T b q j e
    by j e at (inl eq) =
        let ati : slice_get q.store.entries i ≡ Some e = ap (slice_get q.store.entries) (sym eq) ∙ at in
        record { waits = λ lt. inr (λ a. every e ati a (cases_lt a.n n)); marked = λ lt le a. every e ati a (cases_lt a.n n) }
    by j e at (inr ne) = g.covers j e at ne
