-- What stands while entries are popped.
use Rattle.std.proofs.Common.{◌≡◌, ◌≢◌, ℕ, zero, suc, ◌+◌, ◌-◌, ◌*◌, ◌<◌, ◌≤◌, ◌⊎◌, inl, inr, List, [], ◌∷◌, set, length, slice_get, get_or, Some, None, refl, sym, ap, ◌∙◌, subst, arith}
use Rattle.std.proofs.Math.Nat.{mul-le-mul_left, mul_comm}
use Rattle.std.proofs.lemmas.Bool.{cases_lt}
use Rattle.std.proofs.lemmas.Option.{slice_get_past}
use Rattle.std.proofs.lemmas.List.{length-set}
use Rattle.std.proofs.lemmas.List.Sums.{sum_by-set, sum_by-append}
use Rattle.ep_logic.specs.declared.ids.ActionId.{ActionId}
use Rattle.ep_logic.specs.declared.ids.StateId.{StateId}
use Rattle.ep_theory.specs.PlanningTask.{PlanningTask, IsPlanningTask}
use Rattle.ep_theory.specs.Plans.{weight, Reaches}
use Rattle.ep_guide.specs.declared.frontier.Waiting.{Waiting}
use Rattle.ep_store.specs.declared.entry.Entry.{Entry}
use Rattle.ep_store.specs.Stored.{Has}
use Rattle.ep_search.specs.declared.progress.Progress.{Progress}
use Rattle.ep_search.specs.Allowed.{IsLeast, NoneWithin}
use Rattle.ep_search.specs.Sound.{IsBest, Settled, refused, far, late}
use Rattle.ep_search.specs.Progresses.{Keeps, Waits, IsCovered, IsSettled, CoversBut, CoversAll, spent}
use Rattle.ep_search.proofs.SoundLemmas.{same_place}
use Rattle.ep_search.proofs.CoverLemmas.{none_less}
use Rattle.ep_search.proofs.LeadLemmas.{refuses_past}
use Rattle.ep_search.proofs.TollLemmas.{toll_some}
use Rattle.ep_bounds.specs.declared.bounds.Bounds.{Bounds}

abbrev pub with_frontier : Progress → List Waiting → Progress
with_frontier p fr = record { store = p.store; frontier = fr; expanded = p.expanded; best = p.best; least = p.least }

-- where the best plan measures at most 1 more than the entry, no action of the entry leads to a better one
past_best : (T : PlanningTask) → IsPlanningTask T → (b : Bounds) (es : List Entry) (least : ℕ) (e : Entry) → least ≤ e.weight + 1 → (a : ActionId) → Settled T b es least e.canon e.weight a
past_best T t b es least e le a = by (cases_lt a.n (length T.actions))
  where
    by : (a.n < length T.actions) ⊎ (length T.actions ≤ a.n) → Settled T b es least e.canon e.weight a
    by (inl lt) = late (omega (arith, le, toll_some T t b.measure a lt))
    by (inr ge) = refused (refuses_past T e.canon a (slice_get_past T.actions a.n ge))

module _ (T : PlanningTask) (b : Bounds) (p : Progress) (w : Waiting) (fr : List Waiting) (id : StateId) (pops : p.frontier ≡ w ∷ fr) (is : w.id ≡ id) (k : Keeps T b p) (all : CoversAll T b p) where
  still : (i : ℕ) → Waits fr i → Waits p.frontier i
  still i h = subst (λ xs. Waits xs i) (sym pops) (inr h)

  pub popped : Has p.store.entries id.n (λ e. e.weight < b.bound)
  popped = k.waiting id.n (subst (λ xs. Waits xs id.n) (sym pops) (inl (ap (λ (i : StateId). i.n) is)))

  pub keeps_popped : Keeps T b (with_frontier p fr)
  keeps_popped = record { sound = k.sound; best = k.best; limit = k.limit; room = k.room; marks = k.marks; low = k.low; high = k.high; waiting = λ i h. k.waiting i (still i h) }

  others : (i : ℕ) (e : Entry) → (i ≡ id.n → ⊥) → Waits (w ∷ fr) i ⊎ IsSettled T b p e → Waits fr i ⊎ IsSettled T b (with_frontier p fr) e
  others i e ne (inl (inl h)) = absurd (ne (sym h ∙ ap (λ (j : StateId). j.n) is))
  others i e ne (inl (inr h)) = inl h
  others i e ne (inr h) = inr h

  pub but_popped : CoversBut T b (with_frontier p fr) id.n
  but_popped i e at ne =
      let was = all i e at in
      record { waits = λ lt. others i e ne (subst (λ xs. Waits xs i ⊎ IsSettled T b p e) pops (was.waits lt)); marked = λ lt le a. was.marked lt le a }

  -- an entry that is passed over is settled
  pub passed : IsPlanningTask T → ((e : Entry) → slice_get p.store.entries id.n ≡ Some e → (get_or p.expanded.items id.n 0 ≤ e.weight) ⊎ (p.least ≤ e.weight + 1)) → CoversAll T b (with_frontier p fr)
  passed t why i e at = by (same_place i id.n)
    where
      settled : slice_get p.store.entries id.n ≡ Some e → e.weight < b.bound → (get_or p.expanded.items id.n 0 ≤ e.weight) ⊎ (p.least ≤ e.weight + 1) → IsSettled T b (with_frontier p fr) e
      settled at2 lt (inl le) a = (all id.n e at2).marked lt le a
      settled at2 lt (inr le) a = past_best T t b p.store.entries p.least e le a

      by : (i ≡ id.n) ⊎ (i ≢ id.n) → IsCovered T b (with_frontier p fr) i e
      by (inl eq) =
          let at2 : slice_get p.store.entries id.n ≡ Some e = ap (slice_get p.store.entries) (sym eq) ∙ at in
          record { waits = λ lt. inr (settled at2 lt (why e at2)); marked = λ lt le. settled at2 lt (why e at2) }
      by (inr ne) = but_popped i e at ne

-- where nothing waits, every action is settled in every entry
pub all_settled : (T : PlanningTask) → IsPlanningTask T → (b : Bounds) (p : Progress) → CoversAll T b p → p.frontier ≡ []
    → (i : ℕ) (e : Entry) → slice_get p.store.entries i ≡ Some e → (a : ActionId) → Settled T b p.store.entries p.least e.canon e.weight a
all_settled T t b p all empty i e at a = by (cases_lt a.n (length T.actions)) (cases_lt e.weight b.bound)
  where
    done : Waits p.frontier i ⊎ IsSettled T b p e → IsSettled T b p e
    done (inl h) = absurd (subst (λ xs. Waits xs i) empty h)
    done (inr h) = h

    by : (a.n < length T.actions) ⊎ (length T.actions ≤ a.n) → (e.weight < b.bound) ⊎ (b.bound ≤ e.weight) → Settled T b p.store.entries p.least e.canon e.weight a
    by (inr ge) _ = refused (refuses_past T e.canon a (slice_get_past T.actions a.n ge))
    by (inl lt) (inl below) = done ((all i e at).waits below) a
    by (inl lt) (inr most) = far (omega (arith, most, toll_some T t b.measure a lt))

-- where nothing waits, no plan that measures less reaches the goal
pub nothing_waits : (T : PlanningTask) → IsPlanningTask T → (b : Bounds) (p : Progress) → Keeps T b p → CoversAll T b p → p.frontier ≡ [] → p.least ≤ b.bound + 1
    → (q : List ActionId) → weight T b.measure q < p.least → Reaches T q → ⊥
nothing_waits T t b p k all empty bound = none_less T b p.store.entries p.least (all_settled T t b p all empty) k.sound bound

-- expansions fit
pub spent_room : (d : ℕ) (xs : List ℕ) → spent d xs ≤ length xs * d
spent_room d [] = omega arith
spent_room d (x ∷ xs) = omega (arith, sum_by-append (λ y. d - y) (x ∷ []) xs, spent_room d xs)

pub spent_more : (d : ℕ) (xs : List ℕ) (i : ℕ) → i < length xs → 0 < get_or xs i 0 → get_or xs i 0 ≤ d → spent d xs + 1 ≤ length xs * d
spent_more d xs i lt some le = omega (arith, sum_by-set (λ x. d - x) xs i 0 0 lt, spent_room d (set xs i 0), ap (λ n. n * d) (length-set xs i 0))

pub ticks : (s t A sp most : ℕ) → t ≤ s + A * sp → sp ≤ most → t ≤ s + most * A
ticks s t A sp most h le = omega (arith, mul-le-mul_left A le, mul_comm most A)

pub tick_more : (s t u A sp sq : ℕ) → t ≤ s + A * sp → u ≤ t + A → sp + 1 ≤ sq → u ≤ s + A * sq
tick_more s t u A sp sq h k le = omega (arith, mul-le-mul_left A le)

pub falls : (A most sp sq f g : ℕ) → sp + 1 ≤ sq → sq ≤ most → g ≤ f + A → (A + 1) * (most - sq) + g < (A + 1) * (most - sp) + suc f
falls A most sp sq f g le room more =
    let gap : (most - sq) + 1 ≤ most - sp = omega arith in
    omega (arith, mul-le-mul_left (A + 1) gap)

-- what an index reads does not depend on what stands for no element
pub get_or_defaults : (xs : List ℕ) (i d e : ℕ) → i < length xs → get_or xs i d ≡ get_or xs i e
get_or_defaults [] i d e lt = absurd (omega arith)
get_or_defaults (x ∷ xs) zero d e lt = refl
get_or_defaults (x ∷ xs) (suc i) d e lt = get_or_defaults xs i d e (omega arith)

wider : (n m d : ℕ) → n ≤ m → n * d ≤ m * d
wider n m d le = omega (arith, mul-le-mul_left d le, mul_comm n d, mul_comm m d)

module _ (T : PlanningTask) (b : Bounds) (p : Progress) (k : Keeps T b p) where
  pub room_all : spent b.bound p.expanded.items ≤ b.states * b.bound
  room_all = omega (arith, spent_room b.bound p.expanded.items, wider (length p.expanded.items) b.states b.bound (omega (arith, k.marks, k.room)))

  pub room_left : (i m : ℕ) → i < length p.store.entries → m < get_or p.expanded.items i 0 → spent b.bound p.expanded.items + 1 ≤ b.states * b.bound
  room_left i m lt less = omega (arith, spent_more b.bound p.expanded.items i (omega (arith, k.marks)) (omega arith) (k.low i), wider (length p.expanded.items) b.states b.bound (omega (arith, k.marks, k.room)))

-- the answer where nothing waits
pub none_answer : (T : PlanningTask) → IsPlanningTask T → (b : Bounds) (p : Progress) → Keeps T b p → CoversAll T b p → p.frontier ≡ [] → p.best ≡ None → NoneWithin T b
none_answer T t b p k all empty none q within r =
    let best : p.least ≡ b.bound + 1 = subst (IsBest T b p.least) none k.best in
    nothing_waits T t b p k all empty (omega (arith, best)) q (omega (arith, best, within)) r

pub best_answer : (T : PlanningTask) → IsPlanningTask T → (b : Bounds) (p : Progress) (plan : List ActionId) → Keeps T b p → CoversAll T b p → p.frontier ≡ [] → p.best ≡ Some plan → IsLeast T b plan
best_answer T t b p plan k all empty some =
    let best : (weight T b.measure plan ≡ p.least) × (p.least ≤ b.bound) × Reaches T plan = subst (IsBest T b p.least) some k.best in
    record { within = omega (arith, best.0, best.1); reaches = best.2; least = λ q less r. nothing_waits T t b p k all empty (omega (arith, best.1)) q (omega (arith, best.0, less)) r }
