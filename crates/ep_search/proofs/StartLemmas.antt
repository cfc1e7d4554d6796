-- The first entry, and what the answers allow.
use Rattle.std.proofs.Common.{◌≡◌, ℕ, zero, suc, ◌+◌, ◌<◌, ◌≤◌, ◌⊎◌, inl, inr, List, [], ◌∷◌, length, slice_get, get_or, Some, None, Result, Ok, Err, IfOk, Vec, Global, refl, sym, ap, ◌∙◌, subst, arith}
use Rattle.std.proofs.lemmas.Option.{same_Some, none-some}
use Rattle.ep_logic.specs.declared.ids.ActionId.{ActionId}
use Rattle.ep_base.specs.declared.memory.OutOfMemory.{OutOfMemory}
use Rattle.ep_theory.specs.Kripke.{Kripke}
use Rattle.ep_theory.specs.Plans.{weight, Reaches}
use Rattle.ep_theory.specs.Truth.{Satisfies}
use Rattle.ep_theory.specs.Canonical.{IsCanonical, Contracts}
use Rattle.ep_search.specs.Alike.{Alike}
use Rattle.ep_bounds.specs.Bounds.{IsBounds}
use Rattle.ep_theory.specs.PlanningTask.{PlanningTask, IsPlanningTask}
use Rattle.ep_guide.specs.declared.frontier.Waiting.{Waiting}
use Rattle.ep_base.specs.Counts.{Rose}
use Rattle.ep_search.specs.Kept.{Kept}
use Rattle.ep_guide.specs.Waitings.{placed}
use Rattle.ep_store.specs.declared.entry.Entry.{Entry}
use Rattle.ep_store.specs.declared.entry.Added.{Added}
use Rattle.ep_store.specs.declared.entry.Added.TheVariants.{New, Better, Known}
use Rattle.ep_store.specs.Stored.{Stored, IsAdded}
use Rattle.ep_bounds.specs.declared.bounds.Bounds.{Bounds}
use Rattle.ep_bounds.specs.declared.bounds.Mode.{Mode}
use Rattle.ep_bounds.specs.declared.bounds.Mode.TheVariants as mode
use Rattle.ep_search.specs.declared.answer.Answer.{Answer}
use Rattle.ep_search.specs.declared.answer.Answer.TheVariants as answer
use Rattle.ep_search.specs.declared.progress.Progress.{Progress}
use Rattle.ep_search.specs.Within.{IsWide}
use Rattle.ep_search.specs.Allowed.{IsLeast, IsFound, IsSpent, Allowed, WasAsked, Completes, IsPlanOfMode}
use Rattle.ep_search.specs.Sound.{IsMet}
use Rattle.ep_search.specs.Progresses.{Keeps, Waits, CoversAll}
use Rattle.ep_search.proofs.AfterLemmas.{IsOpen-empty}
use Rattle.ep_search.proofs.KeptLemmas.{Rose-Kept}
use Rattle.ep_search.proofs.TollLemmas.{weight_nil, reaches_known, length_within}

abbrev pub first_entry : Kripke → Entry
first_entry c = record { canon = c; weight = 0; from = None }

at_one : (x e : Entry) (i : ℕ) → slice_get (x ∷ []) i ≡ Some e → (i ≡ 0) × (x ≡ e)
at_one x e zero h = (refl, same_Some x e h)
at_one x e (suc i) h = absurd (none-some e h)

-- what is added to an empty store is its first entry
pub first_added : (limit : ℕ) (e : Entry) (r : Added) (new : Stored) → IsAdded (record { limit = limit; entries = [] }) e r new → new ≡ record { limit = limit; entries = e ∷ [] }
first_added limit e (New id) new h = h.after
first_added limit e (Better id) new h = absurd (none-some h.there.entry h.there.at)
first_added limit e (Known id) new h = absurd (none-some h.there.entry h.there.at)

module _ (T : PlanningTask) (b : Bounds) (c : Kripke) (bounds : IsBounds b) (canonical : IsCanonical c) (alike : Alike T.initial c) (unmet : Satisfies c T.goal → ⊥) (narrow : c.worlds ≤ b.worlds)
    (v : Vec ℕ Global) (items : v.items ≡ b.bound ∷ []) (fr : List Waiting) (some : 1 ≤ b.bound → Waits fr 0) (all : (i : ℕ) → Waits fr i → (0 ≡ i) × (1 ≤ b.bound)) where
  abbrev pub started : Progress
  started = record { store = record { limit = b.states; entries = first_entry c ∷ [] }; frontier = fr; expanded = v; best = None; least = b.bound + 1 }

  mark : (i : ℕ) → i ≡ 0 → get_or v.items i 0 ≡ b.bound
  mark i eq = ap (λ xs. get_or xs i 0) items ∙ ap (λ n. get_or (b.bound ∷ []) n 0) eq

  low : (i : ℕ) → get_or v.items i 0 ≤ b.bound
  low zero = omega (arith, mark 0 refl)
  low (suc i) = omega (arith, ap (λ xs. get_or xs (suc i) 0) items)

  met : (i : ℕ) (e : Entry) → (i ≡ 0) × (first_entry c ≡ e) → IsMet T b (first_entry c ∷ []) e
  met i e h = subst (IsMet T b (first_entry c ∷ [])) h.1 (record { canonical = canonical; unmet = unmet; within = omega arith; narrow = narrow; origin = alike })

  pub start_keeps : Keeps T b started
  start_keeps = record {
    sound = record {
      first = record { entry = first_entry c; at = refl; holds = (refl, alike) };
      each = λ i e at. met i e (at_one (first_entry c) e i at);
      distinct = λ i j e f h k same. (at_one (first_entry c) e i h).0 ∙ sym (at_one (first_entry c) f j k).0;
    };
    best = refl;
    limit = refl;
    room = omega (arith, bounds.some_state);
    marks = ap length items;
    low = low;
    high = λ i e at.
        let h = at_one (first_entry c) e i at in
        let light : 0 ≡ e.weight = ap (λ (f : Entry). f.weight) h.1 in
        omega arith;
    waiting = λ i h. let k = all i h in record { entry = first_entry c; at = subst (λ n. slice_get (first_entry c ∷ []) n ≡ Some (first_entry c)) k.0 refl; holds = omega (arith, k.1) };
  }

  pub start_covers : CoversAll T b started
  start_covers i e at =
      let h = at_one (first_entry c) e i at in
      let light : 0 ≡ e.weight = ap (λ (f : Entry). f.weight) h.1 in
      record {
        waits = λ lt. inl (subst (Waits fr) (sym h.0) (some (omega arith)));
        marked = λ lt le. absurd (omega (arith, mark i h.0));
      }

-- the empty plan reaches the goal where it is true at first
pub Reaches-empty : (T : PlanningTask) → Satisfies T.initial T.goal → Reaches T []
Reaches-empty T h = record { state = T.initial; is_after = refl; goal = h }

-- and it measures nothing
pub within-empty : (T : PlanningTask) (b : Bounds) → weight T b.measure [] ≤ b.bound
within-empty T b = omega (arith, weight_nil T b.measure)

pub IsWide-empty : (T : PlanningTask) (b : Bounds) (c : Kripke) → Contracts T.initial c → (Satisfies T.initial T.goal → ⊥) → b.worlds < c.worlds → IsWide T b []
IsWide-empty T b c contracts unmet wide = record {
  within = record { within = within-empty T b; state = T.initial; is_after = refl; open_plan = IsOpen-empty T unmet };
  wide = record { state = T.initial; is_after = refl; contraction = c; contracts = contracts; wide = wide };
}

-- a plan that is not empty measures something
some_bound : (T : PlanningTask) → IsPlanningTask T → (b : Bounds) (p : List ActionId) → Reaches T p → weight T b.measure p ≤ b.bound → (p ≡ [] → ⊥) → 1 ≤ b.bound
some_bound T t b [] r within ne = absurd (ne refl)
some_bound T t b (x ∷ p) r within ne = omega (arith, within, length_within T t b.measure (x ∷ p) (reaches_known T t (x ∷ p) r))

pub was_asked : (T : PlanningTask) → IsPlanningTask T → (b : Bounds) (m : Mode) (a : Answer) (g h k : ℕ) → Allowed T b m a → (1 ≤ b.bound → Rose g h) → Kept h k → WasAsked b.bound a g k
was_asked T t b m (answer.Least p) g h k allowed rose kept = λ ne. Rose-Kept g h k (rose (some_bound T t b p allowed.1.reaches allowed.1.within ne)) kept
was_asked T t b m (answer.Found p) g h k allowed rose kept = λ ne. Rose-Kept g h k (rose (some_bound T t b p allowed.reaches allowed.within ne)) kept
was_asked T t b m answer.NoneTo g h k allowed rose kept = λ some. Rose-Kept g h k (rose some) kept
was_asked T t b m answer.ManyStates g h k allowed rose kept = tt
was_asked T t b m (answer.Wide p) g h k allowed rose kept = tt

prove_plan : (m : Mode) (p : List ActionId) → m ≡ mode.Prove → IsPlanOfMode m (answer.Least p)
prove_plan m p e = subst (λ x. IsPlanOfMode x (answer.Least p)) (sym e) tt

first_plan : (T : PlanningTask) (b : Bounds) (m : Mode) (p : List ActionId) → (IsSpent T b → ⊥) → (m ≡ mode.First) ⊎ IsSpent T b → IsPlanOfMode m (answer.Found p)
first_plan T b m p free (inl e) = subst (λ x. IsPlanOfMode x (answer.Found p)) (sym e) tt
first_plan T b m p free (inr s) = absurd (free s)

no_plan_of : (m : Mode) → IsPlanOfMode m answer.NoneTo → ⊥
no_plan_of mode.Prove h = h
no_plan_of mode.First h = h

-- a plan is found and no answer is none
plan_completes : (T : PlanningTask) (b : Bounds) (m : Mode) (a : Answer) (p : List ActionId) → weight T b.measure p ≤ b.bound → Reaches T p → ((IsSpent T b → ⊥) → IsPlanOfMode m a) → (a ≡ answer.NoneTo → ⊥) → Completes T b m a
plan_completes T b m a p within reaches plan some = record {
  plan = λ free. ((λ _. (p, within, reaches)), (λ _. plan free));
  none = λ free. ((λ e. absurd (some e)), (λ never. absurd (never p within reaches)));
}

spent_completes : (T : PlanningTask) (b : Bounds) (m : Mode) (a : Answer) → IsSpent T b → Completes T b m a
spent_completes T b m a s = record { plan = λ free. absurd (free s); none = λ free. absurd (free s) }

pub completes : (T : PlanningTask) (b : Bounds) (m : Mode) (a : Answer) → Allowed T b m a → Completes T b m a
completes T b m (answer.Least p) h = plan_completes T b m (answer.Least p) p h.1.within h.1.reaches (λ free. prove_plan m p h.0) (λ e. cc)
completes T b m (answer.Found p) h = plan_completes T b m (answer.Found p) p h.within h.reaches (λ free. first_plan T b m p free h.cause) (λ e. cc)
completes T b m answer.NoneTo h = record {
  plan = λ free. ((λ k. absurd (no_plan_of m k)), (λ q. absurd (h q.0 q.1 q.2)));
  none = λ free. ((λ _. h), (λ _. refl));
}
completes T b m answer.ManyStates h = spent_completes T b m answer.ManyStates (inl h)
completes T b m (answer.Wide p) h = spent_completes T b m (answer.Wide p) (inr (p, h))

module _ (T : PlanningTask) (b : Bounds) (c : Kripke) (bounds : IsBounds b) (canonical : IsCanonical c) (alike : Alike T.initial c) (unmet : Satisfies c T.goal → ⊥) (narrow : c.worlds ≤ b.worlds)
    (v : Vec ℕ Global) (items : v.items ≡ b.bound ∷ []) (r : Added) (s0 s : Stored) (empty : s0 ≡ record { limit = b.states; entries = [] }) (adds : IsAdded s0 (first_entry c) r s) where
  store_is : s ≡ record { limit = b.states; entries = first_entry c ∷ [] }
  store_is = first_added b.states (first_entry c) r s (subst (λ (u : Stored). IsAdded u (first_entry c) r s) empty adds)

  pub start_at : (fr : List Waiting) → (1 ≤ b.bound → Waits fr 0) → ((i : ℕ) → Waits fr i → (0 ≡ i) × (1 ≤ b.bound))
      → (p : Progress) → p ≡ record { store = s; frontier = fr; expanded = v; best = None; least = b.bound + 1 } → Keeps T b p × CoversAll T b p
  start_at fr some all p is =
      subst (λ (q : Progress). Keeps T b q × CoversAll T b q) (sym is)
      (subst (λ (u : Stored). let q : Progress = record { store = u; frontier = fr; expanded = v; best = None; least = b.bound + 1 } in Keeps T b q × CoversAll T b q) (sym store_is)
      (start_keeps T b c bounds canonical alike unmet narrow v items fr some all, start_covers T b c bounds canonical alike unmet narrow v items fr some all))

  pub start_empty : (fr : List Waiting) → fr ≡ [] → b.bound ≤ 0
      → (p : Progress) → p ≡ record { store = s; frontier = fr; expanded = v; best = None; least = b.bound + 1 } → Keeps T b p × CoversAll T b p
  start_empty fr nil low p is = start_at fr (λ h. absurd (omega arith)) (λ i h. absurd (subst (λ xs. Waits xs i) nil h)) p is

  pub start_pushed : (fr : List Waiting) (w : Waiting) → fr ≡ [] → w.id.n ≡ 0 → 0 < b.bound
      → (p : Progress) → p ≡ record { store = s; frontier = placed w fr; expanded = v; best = None; least = b.bound + 1 } → Keeps T b p × CoversAll T b p
  start_pushed fr w nil id some p is =
      start_at (placed w fr) (λ h. subst (λ xs. Waits (placed w xs) 0) (sym nil) (inl id)) (λ i h. by i (subst (λ xs. Waits (placed w xs) i) nil h)) p is
    where
      by : (i : ℕ) → (w.id.n ≡ i) ⊎ ⊥ → (0 ≡ i) × (1 ≤ b.bound)
      by i (inl h) = (sym id ∙ h, omega arith)
      by i (inr h) = absurd h

pub least_empty : (T : PlanningTask) (b : Bounds) (p : List ActionId) → p ≡ [] → Satisfies T.initial T.goal → IsLeast T b p
least_empty T b p nil h =
    subst (IsLeast T b) (sym nil) (record { within = within-empty T b; reaches = Reaches-empty T h; least = λ q less r. absurd (omega (arith, less, weight_nil T b.measure)) })

pub found_empty : (T : PlanningTask) (b : Bounds) (m : Mode) (p : List ActionId) → p ≡ [] → Satisfies T.initial T.goal → m ≡ mode.First → IsFound T b m p
found_empty T b m p nil h first = subst (IsFound T b m) (sym nil) (record { within = within-empty T b; reaches = Reaches-empty T h; cause = inl first })

pub wide_empty : (T : PlanningTask) (b : Bounds) (c : Kripke) (p : List ActionId) → p ≡ [] → Contracts T.initial c → (Satisfies T.initial T.goal → ⊥) → b.worlds < c.worlds → IsWide T b p
wide_empty T b c p nil contracts unmet wide = subst (IsWide T b) (sym nil) (IsWide-empty T b c contracts unmet wide)

pub asked_ok : (T : PlanningTask) → IsPlanningTask T → (b : Bounds) (m : Mode) (g h k : ℕ) (r : Result Answer OutOfMemory) → IfOk r (Allowed T b m) → (1 ≤ b.bound → Rose g h) → Kept h k → IfOk r (λ a. WasAsked b.bound a g k)
asked_ok T t b m g h k (Ok a) allowed rose kept = was_asked T t b m a g h k allowed rose kept
asked_ok T t b m g h k (Err e) allowed rose kept = tt

pub completes_ok : (T : PlanningTask) (b : Bounds) (m : Mode) (r : Result Answer OutOfMemory) → IfOk r (Allowed T b m) → IfOk r (Completes T b m)
completes_ok T b m (Ok a) allowed = completes T b m a allowed
completes_ok T b m (Err e) allowed = tt
