-- What stands after an action was tried.
use Rattle.std.proofs.Common.{◌≡◌, ◌≢◌, ℕ, ◌+◌, ◌-◌, ◌<◌, ◌≤◌, Bool, true, false, cond, ltb, ◌⊎◌, inl, inr, List, [], ◌∷◌, ◌++◌, set, length, slice_get, get_or, Option, Some, Vec, Global, refl, sym, ap, ◌∙◌, subst, arith}
use Rattle.std.proofs.lemmas.Option.{same_Some, slice_get_within}
use Rattle.std.proofs.lemmas.List.{length-append, length-set, get_or_append_left, get_or_past}
use Rattle.std.proofs.lemmas.Bool.{cases_lt}
use Rattle.std.proofs.Math.Seq.{get_or-append_seam}
use Rattle.std.proofs.lemmas.List.Sums.{sum_by-append}
use Rattle.ep_logic.specs.declared.ids.ActionId.{ActionId}
use Rattle.ep_logic.specs.declared.ids.StateId.{StateId}
use Rattle.ep_theory.specs.Kripke.{Kripke}
use Rattle.ep_theory.specs.Plans.{Reaches, after, weight}
use Rattle.ep_theory.specs.Truth.{Satisfies}
use Rattle.ep_theory.specs.Canonical.{IsCanonical}
use Rattle.ep_theory.specs.PlanningTask.{PlanningTask, IsPlanningTask}
use Rattle.ep_search.specs.Within.{ManyWithin, Wide, IsWide}
use Rattle.ep_search.proofs.AlikeLemmas.{from_Alike, Alike-sym, Satisfies-Alike}
use Rattle.ep_guide.specs.declared.frontier.Waiting.{Waiting}
use Rattle.ep_guide.specs.Waitings.{placed}
use Rattle.ep_store.specs.declared.entry.Step.{Step}
use Rattle.ep_store.specs.declared.entry.Entry.{Entry}
use Rattle.ep_store.specs.Stored.{Stored, Has, Lacks, IsNew, IsBetter, IsKnown}
use Rattle.ep_store.proofs.CallerLemmas.{at_push_old, at_push_new, at_push_cases, at_set_same, at_set_other, at_set_cases}
use Rattle.ep_bounds.specs.declared.bounds.Bounds.{Bounds}
use Rattle.ep_bounds.specs.declared.bounds.TheConstants.{MOST_PLAN_ACTIONS}
use Rattle.ep_bounds.specs.Bounds.{IsBounds}
use Rattle.std.specs.List.{AllByRecursion}
use Rattle.ep_search.specs.Tolls.{toll_of}
use Rattle.ep_search.specs.Planned.{actions_of, IsPlanBy}
use Rattle.ep_search.proofs.TollLemmas.{IsTaskAction, reaches_known, length_within}
use Rattle.ep_search.specs.declared.progress.Progress.{Progress}
use Rattle.ep_bounds.specs.declared.bounds.Mode.{Mode}
use Rattle.ep_search.specs.Allowed.{IsSpent, IsFound}
use Rattle.ep_search.proofs.ManyLemmas.{PlanTo-open, full_is_many}
use Rattle.ep_search.specs.Sound.{IsSound, IsStep, IsBest, Leads, Settled, late, stored}
use Rattle.ep_search.specs.Progresses.{Keeps, Waits, CoversBut, Tried, MayStep, LeadsToGoal, spent}
use Rattle.ep_theory.proofs.CallerLemmas.{after-snoc}
use Rattle.ep_search.proofs.PathLemmas.{PlanTo, PlanOf, PlanTo-snoc, weight_step, path_plan, entry_plan}
use Rattle.ep_search.proofs.MoveLemmas.{LaterEntries, Moves, CoversBut-moves}
use Rattle.ep_search.proofs.SoundLemmas.{child_entry, later_push, later_set, sound_push, sound_set, other}

-- who waits after a push
waits_cond_old : (b : Bool) (x : Waiting) (xs ys : List Waiting) (i : ℕ) → Waits xs i → Waits ys i → Waits (cond b (x ∷ xs) ys) i
waits_cond_old true x xs ys i h k = inr h
waits_cond_old false x xs ys i h k = k

pub Waits-placed_old : (w : Waiting) (xs : List Waiting) (i : ℕ) → Waits xs i → Waits (placed w xs) i
Waits-placed_old w [] i h = absurd h
Waits-placed_old w (x ∷ xs) i (inl h) = waits_cond_old (ltb w.score x.score) w (x ∷ xs) (x ∷ placed w xs) i (inl h) (inl h)
Waits-placed_old w (x ∷ xs) i (inr h) = waits_cond_old (ltb w.score x.score) w (x ∷ xs) (x ∷ placed w xs) i (inr h) (inr (Waits-placed_old w xs i h))

waits_cond_new : (b : Bool) (w : Waiting) (xs ys : List Waiting) (i : ℕ) → w.id.n ≡ i → Waits ys i → Waits (cond b (w ∷ xs) ys) i
waits_cond_new true w xs ys i h k = inl h
waits_cond_new false w xs ys i h k = k

pub Waits-placed_new : (w : Waiting) (xs : List Waiting) → Waits (placed w xs) w.id.n
Waits-placed_new w [] = inl refl
Waits-placed_new w (x ∷ xs) = waits_cond_new (ltb w.score x.score) w (x ∷ xs) (x ∷ placed w xs) w.id.n refl (inr (Waits-placed_new w xs))

waits_cond_cases : (b : Bool) (w x : Waiting) (xs ys : List Waiting) (i : ℕ) → (Waits ys i → Waits xs i ⊎ (w.id.n ≡ i)) → Waits (cond b (w ∷ x ∷ xs) (x ∷ ys)) i → Waits (x ∷ xs) i ⊎ (w.id.n ≡ i)
waits_cond_cases true w x xs ys i rest (inl h) = inr h
waits_cond_cases true w x xs ys i rest (inr h) = inl h
waits_cond_cases false w x xs ys i rest (inl h) = inl (inl h)
waits_cond_cases false w x xs ys i rest (inr h) = elim (rest h) as (λ _. Waits (x ∷ xs) i ⊎ (w.id.n ≡ i)) [ inl k ↦ inl (inr k) | inr k ↦ inr k ]

pub Waits-placed_cases : (w : Waiting) (xs : List Waiting) (i : ℕ) → Waits (placed w xs) i → Waits xs i ⊎ (w.id.n ≡ i)
Waits-placed_cases w [] i (inl h) = inr h
Waits-placed_cases w [] i (inr h) = absurd h
Waits-placed_cases w (x ∷ xs) i h = waits_cond_cases (ltb w.score x.score) w x xs (placed w xs) i (Waits-placed_cases w xs i) h

length_cond : (b : Bool) (x y : Waiting) (xs ys : List Waiting) (n : ℕ) → length xs ≡ n → length ys ≡ n → length (cond b (x ∷ xs) (y ∷ ys)) ≡ n + 1
length_cond true x y xs ys n h k = omega arith
length_cond false x y xs ys n h k = omega arith

pub length-placed : (w : Waiting) (xs : List Waiting) → length (placed w xs) ≡ length xs + 1
length-placed w [] = refl
length-placed w (x ∷ xs) = length_cond (ltb w.score x.score) w x (x ∷ xs) (placed w xs) (length (x ∷ xs)) refl (length-placed w xs ∙ omega arith)

-- the marks after a push of the bound
pub spent-push : (d : ℕ) (xs : List ℕ) → spent d (xs ++ d ∷ []) ≡ spent d xs
spent-push d xs = sum_by-append (λ x. d - x) xs (d ∷ []) ∙ omega arith

-- what waits after an entry is pushed, if it must be
pub record Grows (xs ys : List Waiting) (n : ℕ) (must : Type 0) : Type 0 where
  pub old : (i : ℕ) → Waits xs i → Waits ys i
  pub new : must → Waits ys n
  pub cases : (i : ℕ) → Waits ys i → Waits xs i ⊎ ((n ≡ i) × must)
  pub length : length ys ≤ length xs + 1

pub grows_placed : (xs : List Waiting) (w : Waiting) (must : Type 0) → must → Grows xs (placed w xs) w.id.n must
grows_placed xs w must m = record {
  old = Waits-placed_old w xs;
  new = λ _. Waits-placed_new w xs;
  cases = λ i h. elim (Waits-placed_cases w xs i h) as (λ _. Waits xs i ⊎ ((w.id.n ≡ i) × must)) [ inl k ↦ inl k | inr k ↦ inr (k, m) ];
  length = omega (arith, length-placed w xs);
}

pub grows_same : (xs : List Waiting) (n : ℕ) (must : Type 0) → (must → ⊥) → Grows xs xs n must
grows_same xs n must not = record { old = λ i h. h; new = λ m. absurd (not m); cases = λ i h. inl h; length = omega arith }

-- the facts on one step from one entry
pub record Trial (T : PlanningTask) (b : Bounds) (p : Progress) (s : Step) (e : Entry) : Type 0 where
  pub keeps : Keeps T b p
  pub covers : CoversBut T b p s.parent.n
  pub at : slice_get p.store.entries s.parent.n ≡ Some e
  pub may : MayStep T b s e

unchanged : (es : List Entry) → LaterEntries es es
unchanged es j e at = record { entry = e; at = at; holds = (refl, omega arith) }

-- nothing changed
pub tried_same : (T : PlanningTask) (b : Bounds) (p : Progress) (i : ℕ) (a : ActionId) (e : Entry) → Keeps T b p → CoversBut T b p i → slice_get p.store.entries i ≡ Some e
    → Settled T b p.store.entries p.least e.canon e.weight a → Tried T b p p i a
tried_same T b p i a e keeps covers at settled = record {
  keeps = keeps;
  covers = covers;
  later = record { least = omega arith; entries = unchanged p.store.entries };
  same = refl;
  settled = λ f atf. subst (λ (g : Entry). Settled T b p.store.entries p.least g.canon g.weight a) (same_Some e f (sym at ∙ atf)) settled;
  pushed = omega arith;
  marks = refl;
}

abbrev pub with_best : Progress → Option (List ActionId) → ℕ → Progress
with_best p o l = record { store = p.store; frontier = p.frontier; expanded = p.expanded; best = o; least = l }

-- a plan was found
pub tried_goal : (T : PlanningTask) (b : Bounds) (p : Progress) (s : Step) (e : Entry) (o : Option (List ActionId)) (l : ℕ) → Trial T b p s e
    → l ≤ p.least → l ≤ e.weight + s.toll → IsBest T b l o → Tried T b p (with_best p o l) s.parent.n s.action
tried_goal T b p s e o l t less near best =
    let k = t.keeps in
    let moves : Moves b p (with_best p o l) = record {
      later = record { least = less; entries = unchanged p.store.entries };
      waits = λ j h. h;
      entry = λ j f at. inl (at, refl);
    } in
    record {
      keeps = record { sound = k.sound; best = best; limit = k.limit; room = k.room; marks = k.marks; low = k.low; high = k.high; waiting = k.waiting };
      covers = CoversBut-moves T b p (with_best p o l) moves s.parent.n t.covers;
      later = moves.later;
      same = refl;
      settled = λ f at.
          let same : f ≡ e = same_Some f e (sym at ∙ t.at) in
          late (subst (λ (g : Entry). l ≤ g.weight + toll_of T b.measure s.action) (sym same) (omega (arith, near, t.may.step.toll)));
      pushed = omega arith;
      marks = refl;
    }

module _ (T : PlanningTask) (b : Bounds) (p : Progress) (s : Step) (e : Entry) (t : Trial T b p s e) (c : Kripke)
    (leads : Leads T e.canon s.action c) where
  -- the state stands at no greater weight
  pub tried_known : (j : ℕ) → Has p.store.entries j (λ f. (f.canon ≡ c) × (f.weight ≤ e.weight + s.toll)) → Tried T b p p s.parent.n s.action
  tried_known j has =
      tried_same T b p s.parent.n s.action e t.keeps t.covers t.at
      (stored j (record { entry = has.entry; at = has.at; holds = (omega (arith, has.holds.1, t.may.step.toll), subst (Leads T e.canon s.action) (sym has.holds.0) leads) }))

  module _ (canonical : IsCanonical c) (unmet : Satisfies c T.goal → ⊥) (narrow : c.worlds ≤ b.worlds) where
    abbrev x : Entry
    x = child_entry s c (e.weight + s.toll)

    -- the entry of the step, after a change that keeps it
    settled_by : (fs : List Entry) (l : ℕ) → Settled T b fs l e.canon e.weight s.action → (f : Entry) → slice_get p.store.entries s.parent.n ≡ Some f → Settled T b fs l f.canon f.weight s.action
    settled_by fs l h f at = subst (λ (g : Entry). Settled T b fs l g.canon g.weight s.action) (same_Some e f (sym t.at ∙ at)) h

    -- a new entry goes last, and waits if it is below the bound
    module _ (fr : List Waiting) (v : Vec ℕ Global) (lacks : Lacks p.store.entries c) (less : length p.store.entries < p.store.limit)
        (items : v.items ≡ p.expanded.items ++ b.bound ∷ []) (grows : Grows p.frontier fr (length p.store.entries) (e.weight + s.toll < b.bound)) where
      abbrev after_new : Progress
      after_new = record { store = record { limit = p.store.limit; entries = p.store.entries ++ x ∷ [] }; frontier = fr; expanded = v; best = p.best; least = p.least }

      mark_old : (j : ℕ) → j < length p.store.entries → get_or v.items j 0 ≡ get_or p.expanded.items j 0
      mark_old j lt = ap (λ xs. get_or xs j 0) items ∙ get_or_append_left p.expanded.items (b.bound ∷ []) 0 j (omega (arith, t.keeps.marks))

      mark_new : (j : ℕ) → j ≡ length p.store.entries → get_or v.items j 0 ≡ b.bound
      mark_new j eq = ap (λ xs. get_or xs j 0) items ∙ ap (λ n. get_or (p.expanded.items ++ b.bound ∷ []) n 0) (eq ∙ sym t.keeps.marks) ∙ get_or-append_seam p.expanded.items b.bound [] 0

      length_new : length v.items ≡ length p.store.entries + 1
      length_new = ap length items ∙ length-append p.expanded.items (b.bound ∷ []) ∙ omega (arith, t.keeps.marks)

      new_moves : Moves b p after_new
      new_moves = record {
        later = record { least = omega arith; entries = later_push p.store.entries x };
        waits = grows.old;
        entry = λ j f at. entry_by j f (at_push_cases p.store.entries x j f at);
      }
        where
          entry_by : (j : ℕ) (f : Entry) → (slice_get p.store.entries j ≡ Some f) ⊎ ((j ≡ length p.store.entries) × (x ≡ f))
              → ((slice_get p.store.entries j ≡ Some f) × (get_or v.items j 0 ≡ get_or p.expanded.items j 0)) ⊎ ((f.weight < b.bound → Waits fr j) × (f.weight < b.bound → f.weight < get_or v.items j 0))
          entry_by j f (inl h) = inl (h, mark_old j (slice_get_within p.store.entries j f h))
          entry_by j f (inr h) =
              let weights : e.weight + s.toll ≡ f.weight = ap (λ (g : Entry). g.weight) h.1 in
              inr ((λ lt. subst (Waits fr) (sym h.0) (grows.new (omega arith))), (λ lt. omega (arith, mark_new j h.0)))

      low_new : (i : ℕ) → get_or v.items i 0 ≤ b.bound
      low_new i = by (cases_lt i (length p.store.entries)) (cases_lt (length p.store.entries) i)
        where
          by : (i < length p.store.entries) ⊎ (length p.store.entries ≤ i) → (length p.store.entries < i) ⊎ (i ≤ length p.store.entries) → get_or v.items i 0 ≤ b.bound
          by (inl lt) _ = omega (arith, mark_old i lt, t.keeps.low i)
          by (inr ge) (inl gt) = omega (arith, get_or_past v.items i 0 (omega (arith, length_new)))
          by (inr ge) (inr le) = omega (arith, mark_new i (omega arith))

      high_new : (i : ℕ) (f : Entry) → (slice_get p.store.entries i ≡ Some f) ⊎ ((i ≡ length p.store.entries) × (x ≡ f)) → f.weight ≤ get_or v.items i 0
      high_new i f (inl h) = omega (arith, t.keeps.high i f h, mark_old i (slice_get_within p.store.entries i f h))
      high_new i f (inr h) =
          let weights : e.weight + s.toll ≡ f.weight = ap (λ (g : Entry). g.weight) h.1 in
          omega (arith, mark_new i h.0, t.may.within)

      waiting_new : (i : ℕ) → Waits p.frontier i ⊎ ((length p.store.entries ≡ i) × (e.weight + s.toll < b.bound)) → Has (p.store.entries ++ x ∷ []) i (λ f. f.weight < b.bound)
      waiting_new i (inl h) = let k = t.keeps.waiting i h in record { entry = k.entry; at = at_push_old p.store.entries x i k.entry k.at; holds = k.holds }
      waiting_new i (inr h) = record { entry = x; at = subst (λ n. slice_get (p.store.entries ++ x ∷ []) n ≡ Some x) h.0 (at_push_new p.store.entries x); holds = h.1 }

      pub tried_new : Tried T b p after_new s.parent.n s.action
      tried_new =
          let k = t.keeps in
          record {
            keeps = record {
              sound = sound_push T b p.store.entries k.sound s c e t.at t.may leads canonical unmet narrow lacks;
              best = k.best;
              limit = k.limit;
              room = omega (arith, length-append p.store.entries (x ∷ []), k.limit);
              marks = length_new ∙ sym (length-append p.store.entries (x ∷ []));
              low = low_new;
              high = λ i f at. high_new i f (at_push_cases p.store.entries x i f at);
              waiting = λ i h. waiting_new i (grows.cases i h);
            };
            covers = CoversBut-moves T b p after_new new_moves s.parent.n t.covers;
            later = new_moves.later;
            same = at_push_old p.store.entries x s.parent.n e t.at ∙ sym t.at;
            settled = settled_by (p.store.entries ++ x ∷ []) p.least (stored (length p.store.entries) (record { entry = x; at = at_push_new p.store.entries x; holds = (omega (arith, t.may.step.toll), leads) }));
            pushed = grows.length;
            marks = ap (spent b.bound) items ∙ spent-push b.bound p.expanded.items;
          }

    -- an entry becomes better, and waits
    module _ (fr : List Waiting) (j : ℕ) (f : Entry) (at : slice_get p.store.entries j ≡ Some f) (same : f.canon ≡ c) (less : e.weight + s.toll < f.weight)
        (grows : Grows p.frontier fr j (e.weight + s.toll < b.bound)) where
      abbrev after_better : Progress
      after_better = record { store = record { limit = p.store.limit; entries = set p.store.entries j x }; frontier = fr; expanded = p.expanded; best = p.best; least = p.least }

      near : e.weight + s.toll < b.bound
      near = omega (arith, (t.keeps.sound.each j f at).within)

      better_moves : Moves b p after_better
      better_moves = record {
        later = record { least = omega arith; entries = later_set p.store.entries j x f at same less };
        waits = grows.old;
        entry = λ i g h. entry_by i g (at_set_cases p.store.entries j i x g h);
      }
        where
          entry_by : (i : ℕ) (g : Entry) → ((j ≡ i) × (x ≡ g)) ⊎ ((j ≢ i) × (slice_get p.store.entries i ≡ Some g))
              → ((slice_get p.store.entries i ≡ Some g) × (get_or p.expanded.items i 0 ≡ get_or p.expanded.items i 0)) ⊎ ((g.weight < b.bound → Waits fr i) × (g.weight < b.bound → g.weight < get_or p.expanded.items i 0))
          entry_by i g (inl h) =
              let weights : e.weight + s.toll ≡ g.weight = ap (λ (y : Entry). y.weight) h.1 in
              inr ((λ lt. subst (Waits fr) h.0 (grows.new near)), (λ lt. subst (λ n. g.weight < get_or p.expanded.items n 0) h.0 (omega (arith, t.keeps.high j f at))))
          entry_by i g (inr h) = inl (h.1, refl)

      high_better : (i : ℕ) (g : Entry) → ((j ≡ i) × (x ≡ g)) ⊎ ((j ≢ i) × (slice_get p.store.entries i ≡ Some g)) → g.weight ≤ get_or p.expanded.items i 0
      high_better i g (inl h) =
          let weights : e.weight + s.toll ≡ g.weight = ap (λ (y : Entry). y.weight) h.1 in
          subst (λ n. g.weight ≤ get_or p.expanded.items n 0) h.0 (omega (arith, t.keeps.high j f at))
      high_better i g (inr h) = t.keeps.high i g h.1

      waiting_better : (i : ℕ) → Waits p.frontier i ⊎ ((j ≡ i) × (e.weight + s.toll < b.bound)) → Has (set p.store.entries j x) i (λ g. g.weight < b.bound)
      waiting_better i (inl h) =
          let k = t.keeps.waiting i h in
          let l = later_set p.store.entries j x f at same less i k.entry k.at in
          record { entry = l.entry; at = l.at; holds = omega (arith, l.holds.1, k.holds) }
      waiting_better i (inr h) = record { entry = x; at = subst (λ n. slice_get (set p.store.entries j x) n ≡ Some x) h.0 (at_set_same p.store.entries j x f at); holds = h.1 }

      pub tried_better : Tried T b p after_better s.parent.n s.action
      tried_better =
          let k = t.keeps in
          record {
            keeps = record {
              sound = sound_set T b p.store.entries k.sound s c e t.at t.may leads canonical unmet narrow j f at same less;
              best = k.best;
              limit = k.limit;
              room = omega (arith, length-set p.store.entries j x, k.room);
              marks = k.marks ∙ sym (length-set p.store.entries j x);
              low = k.low;
              high = λ i g h. high_better i g (at_set_cases p.store.entries j i x g h);
              waiting = λ i h. waiting_better i (grows.cases i h);
            };
            covers = CoversBut-moves T b p after_better better_moves s.parent.n t.covers;
            later = better_moves.later;
            same = at_set_other p.store.entries j s.parent.n x (other T b p.store.entries k.sound s c e t.at t.may leads canonical unmet narrow j f at same less);
            settled = settled_by (set p.store.entries j x) p.least (stored j (record { entry = x; at = at_set_same p.store.entries j x f at; holds = (omega (arith, t.may.step.toll), leads) }));
            pushed = grows.length;
            marks = refl;
          }

-- a plan by the path of an entry and one more step
module _ (T : PlanningTask) (b : Bounds) (es : List Entry) (sound : IsSound T b es) (s : Step) (ys : List ActionId) (by_path : IsPlanBy es s ys) where
  path_of : (e : Entry) → slice_get es s.parent.n ≡ Some e → PlanOf T b.measure (actions_of by_path.path) e
  path_of e at =
      let has = path_plan T b es sound s.parent.n by_path.path by_path.is_path in
      subst (PlanOf T b.measure (actions_of by_path.path)) (same_Some has.entry e (sym has.at ∙ at)) has.holds

  pub plan_within : (e : Entry) → slice_get es s.parent.n ≡ Some e → IsStep T b.measure s → weight T b.measure ys ≤ e.weight + s.toll
  plan_within e at step = omega (arith, ap (weight T b.measure) by_path.actions, weight_step T b.measure (actions_of by_path.path) s step, (path_of e at).within)

  pub plan_reaches : (e : Entry) → slice_get es s.parent.n ≡ Some e → LeadsToGoal T e.canon s.action → Reaches T ys
  plan_reaches e at leads =
      let to = (path_of e at).leads in
      let next = leads.1 to.state (Alike-sym to.state e.canon to.bisimilar) in
      record {
        state = next.0;
        is_after = ap (after T) by_path.actions ∙ after-snoc T (actions_of by_path.path) s.action to.state next.0 to.is_after next.1;
        goal = Satisfies-Alike leads.0 next.0 T.goal (Alike-sym next.0 leads.0 next.2) leads.2;
      }

  pub plan_leads : (e : Entry) (c : Kripke) → slice_get es s.parent.n ≡ Some e → Leads T e.canon s.action c → (Satisfies c T.goal → ⊥) → PlanTo T ys c
  plan_leads e c at leads unmet = subst (λ zs. PlanTo T zs c) (sym by_path.actions) (PlanTo-snoc T (actions_of by_path.path) s.action e.canon c (path_of e at).leads leads unmet)

-- what it measures can be summed up
pub plan_known : (T : PlanningTask) (b : Bounds) → IsPlanningTask T → IsBounds b → (ys : List ActionId) → Reaches T ys → weight T b.measure ys ≤ b.bound → (length ys ≤ MOST_PLAN_ACTIONS) × AllByRecursion (IsTaskAction T) ys
plan_known T b t bounds ys reaches within =
    let known = reaches_known T t ys reaches in
    (omega (arith, length_within T t b.measure ys known, within, bounds.bound), known)

-- a plan to a state that is too wide
pub wide_plan : (T : PlanningTask) (p : List ActionId) (c : Kripke) (w : ℕ) → PlanTo T p c → IsCanonical c → w < c.worlds → Wide T p w
wide_plan T p c w to canonical wide =
    let same = from_Alike to.state c to.bisimilar in
    record { state = to.state; is_after = to.is_after; contraction = c; contracts = record { valid = same.1; canonical = canonical; bisimilar = same.2 }; wide = wide }

-- one more step after some plan to an entry
more_plan : (T : PlanningTask) (b : Bounds) (es : List Entry) (sound : IsSound T b es) (s : Step) (e : Entry) (c : Kripke) → slice_get es s.parent.n ≡ Some e → MayStep T b s e
    → Leads T e.canon s.action c → (Satisfies c T.goal → ⊥) → (p : List ActionId) × (weight T b.measure p ≤ b.bound) × PlanTo T p c
more_plan T b es sound s e c at may leads unmet =
    let p = entry_plan T b es sound s.parent.n e at in (
      p.0 ++ s.action ∷ [],
      omega (arith, weight_step T b.measure p.0 s may.step, p.1.within, may.within),
      PlanTo-snoc T p.0 s.action e.canon c p.1.leads leads unmet,
    )

-- a step leads from an entry to a state that is too wide
pub wide_by : (T : PlanningTask) (b : Bounds) (es : List Entry) (sound : IsSound T b es) (s : Step) (e : Entry) (c : Kripke) → slice_get es s.parent.n ≡ Some e → MayStep T b s e
    → Leads T e.canon s.action c → IsCanonical c → (Satisfies c T.goal → ⊥) → b.worlds < c.worlds → (p : List ActionId) × IsWide T b p
wide_by T b es sound s e c at may leads canonical unmet wide =
    let p = more_plan T b es sound s e c at may leads unmet in
    (p.0, record { within = PlanTo-open T b p.0 c p.1 p.2; wide = wide_plan T p.0 c b.worlds p.2 canonical wide })

-- the best plan is an answer, once a budget has ended
pub found_by : (T : PlanningTask) (b : Bounds) (m : Mode) (least : ℕ) (q : List ActionId) → IsBest T b least (Some q) → IsSpent T b → IsFound T b m q
found_by T b m least q best spent = record { within = omega (arith, best.0, best.1); reaches = best.2; cause = inr spent }

-- two facts of one entry
both : {P Q : Entry → Type 0} (es : List Entry) (i : ℕ) → Has es i P → Has es i Q → Has es i (λ f. P f × Q f)
both {P} {Q} es i h k = record { entry = h.entry; at = h.at; holds = (h.holds, subst Q (same_Some k.entry h.entry (sym k.at ∙ h.at)) k.holds) }

-- an entry that became better is there
pub better_within : (old : Stored) (e : Entry) (i : ℕ) (new : Stored) → IsBetter old e i new → i < length new.entries
better_within old e i new h =
    subst (λ (u : Stored). i < length u.entries) (sym h.after) (omega (arith, slice_get_within old.entries i h.there.entry h.there.at, length-set old.entries i e))

-- the same from what `add` says
module _ (T : PlanningTask) (b : Bounds) (p : Progress) (s : Step) (e : Entry) (t : Trial T b p s e) (c : Kripke) (leads : Leads T e.canon s.action c)
    (canonical : IsCanonical c) (unmet : Satisfies c T.goal → ⊥) (narrow : c.worlds ≤ b.worlds) (n : ℕ) (weight_is : n ≡ e.weight) (st : Stored) (q : Progress) where
  pub new_at : (child : StateId) → IsNew p.store (child_entry s c (n + s.toll)) child.n st → (v : Vec ℕ Global) → v.items ≡ p.expanded.items ++ b.bound ∷ []
      → (fr : List Waiting) → Grows p.frontier fr child.n (e.weight + s.toll < b.bound) → q ≡ record { store = st; frontier = fr; expanded = v; best = p.best; least = p.least } → Tried T b p q s.parent.n s.action
  new_at child adds v items fr grows is =
      let h : IsNew p.store (child_entry s c (e.weight + s.toll)) child.n st = subst (λ k. IsNew p.store (child_entry s c (k + s.toll)) child.n st) weight_is adds in
      let gr = subst (λ k. Grows p.frontier fr k (e.weight + s.toll < b.bound)) h.place grows in
      subst (λ (r : Progress). Tried T b p r s.parent.n s.action) (sym is)
      (subst (λ (u : Stored). Tried T b p (record { store = u; frontier = fr; expanded = v; best = p.best; least = p.least }) s.parent.n s.action) (sym h.after)
      (tried_new T b p s e t c leads canonical unmet narrow fr v h.absent h.room items gr))

  pub better_at : (child : StateId) → IsBetter p.store (child_entry s c (n + s.toll)) child.n st
      → (fr : List Waiting) → Grows p.frontier fr child.n (e.weight + s.toll < b.bound) → q ≡ record { store = st; frontier = fr; expanded = p.expanded; best = p.best; least = p.least } → Tried T b p q s.parent.n s.action
  better_at child adds fr grows is =
      let h : IsBetter p.store (child_entry s c (e.weight + s.toll)) child.n st = subst (λ k. IsBetter p.store (child_entry s c (k + s.toll)) child.n st) weight_is adds in
      let has = both p.store.entries child.n h.there h.greater in
      subst (λ (r : Progress). Tried T b p r s.parent.n s.action) (sym is)
      (subst (λ (u : Stored). Tried T b p (record { store = u; frontier = fr; expanded = p.expanded; best = p.best; least = p.least }) s.parent.n s.action) (sym h.after)
      (tried_better T b p s e t c leads canonical unmet narrow fr child.n has.entry has.at has.holds.0 has.holds.1 grows))

  pub known_at : (child : StateId) → IsKnown p.store (child_entry s c (n + s.toll)) child.n st
      → q ≡ record { store = st; frontier = p.frontier; expanded = p.expanded; best = p.best; least = p.least } → Tried T b p q s.parent.n s.action
  known_at child adds is =
      let h : IsKnown p.store (child_entry s c (e.weight + s.toll)) child.n st = subst (λ k. IsKnown p.store (child_entry s c (k + s.toll)) child.n st) weight_is adds in
      subst (λ (r : Progress). Tried T b p r s.parent.n s.action) (sym is)
      (subst (λ (u : Stored). Tried T b p (record { store = u; frontier = p.frontier; expanded = p.expanded; best = p.best; least = p.least }) s.parent.n s.action) (sym h.after)
      (tried_known T b p s e t c leads child.n (both p.store.entries child.n h.there h.not_greater)))

-- a store that is full is evidence
pub many_by : (T : PlanningTask) (b : Bounds) (p : Progress) (s : Step) (e : Entry) (c : Kripke) → Keeps T b p → slice_get p.store.entries s.parent.n ≡ Some e → MayStep T b s e
    → Leads T e.canon s.action c → IsCanonical c → (Satisfies c T.goal → ⊥) → Lacks p.store.entries c → length p.store.entries ≡ p.store.limit → ManyWithin T b
many_by T b p s e c k at may leads canonical unmet lacks full =
    let plan = more_plan T b p.store.entries k.sound s e c at may leads unmet in
    full_is_many T b p.store.entries k.sound (full ∙ k.limit) plan.0 c canonical lacks plan.1 plan.2
