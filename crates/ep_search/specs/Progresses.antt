-- What each step of a search keeps and adds.
use Rattle.std.specs.Prelude.{◌≡◌, ℕ, ◌+◌, ◌-◌, ◌<◌, ◌≤◌, ◌⊎◌, List, [], ◌∷◌, length, Option, Some, None, slice_get, slice_index, sum_by}
use Rattle.ep_theory.specs.Kripke.{Kripke}
use Rattle.ep_logic.specs.declared.ids.ActionId.{ActionId}
use Rattle.ep_theory.specs.Truth.{Satisfies}
use Rattle.ep_theory.specs.PlanningTask.{PlanningTask}
use Rattle.ep_guide.specs.declared.frontier.Waiting.{Waiting}
use Rattle.ep_store.specs.declared.entry.Entry.{Entry}
use Rattle.ep_store.specs.declared.entry.Step.{Step}
use Rattle.ep_store.specs.Stored.{Has}
use Rattle.ep_bounds.specs.declared.bounds.Bounds.{Bounds}
use Rattle.ep_bounds.specs.declared.bounds.Mode.{Mode}
use Rattle.ep_search.specs.declared.answer.Answer.{Answer}
use Rattle.ep_search.specs.declared.progress.Progress.{Progress}
use Rattle.ep_search.specs.Allowed.{Allowed}
use Rattle.ep_search.specs.Sound.{IsSound, IsStep, IsBest, Settled, Leads}

-- an entry waits in the frontier
abbrev pub Waits : List Waiting → ℕ → Type 0
Waits [] i = ⊥
Waits (x ∷ xs) i = (x.id.n ≡ i) ⊎ Waits xs i

-- how often entries were expanded at most, each at a lesser weight every time
abbrev pub spent : ℕ → List ℕ → ℕ
spent bound marks = sum_by (λ x. bound - x) marks

pub record Keeps (T : PlanningTask) (b : Bounds) (p : Progress) : Type 0 where
  pub sound : IsSound T b p.store.entries
  pub best : IsBest T b p.least p.best
  pub limit : p.store.limit ≡ b.states
  pub room : length p.store.entries ≤ b.states
  pub marks : length p.expanded.items ≡ length p.store.entries
  pub low : (i : ℕ) → slice_index p.expanded.items i ≤ b.bound
  pub high : (i : ℕ) (e : Entry) → slice_get p.store.entries i ≡ Some e → e.weight ≤ slice_index p.expanded.items i
  pub waiting : (i : ℕ) → Waits p.frontier i → Has p.store.entries i (λ e. e.weight < b.bound)

-- every action is settled in a state of this weight
abbrev pub IsSettled : PlanningTask → Bounds → Progress → Entry → Type 0
IsSettled T b p e = (a : ActionId) → Settled T b p.store.entries p.least e.canon e.weight a

-- an entry below the bound waits, or its actions are settled; those of one that is marked at its weight are
pub record IsCovered (T : PlanningTask) (b : Bounds) (p : Progress) (i : ℕ) (e : Entry) : Type 0 where
  pub waits : e.weight < b.bound → Waits p.frontier i ⊎ IsSettled T b p e
  pub marked : e.weight < b.bound → slice_index p.expanded.items i ≤ e.weight → IsSettled T b p e

abbrev pub CoversAll : PlanningTask → Bounds → Progress → Type 0
CoversAll T b p = (i : ℕ) (e : Entry) → slice_get p.store.entries i ≡ Some e → IsCovered T b p i e

abbrev pub CoversBut : PlanningTask → Bounds → Progress → ℕ → Type 0
CoversBut T b p x = (i : ℕ) (e : Entry) → slice_get p.store.entries i ≡ Some e → (i ≡ x → ⊥) → IsCovered T b p i e

-- each entry keeps its state, and no weight rises, nor does that of the best plan
pub record Later (old new : Progress) : Type 0 where
  pub least : new.least ≤ old.least
  pub entries : (j : ℕ) (e : Entry) → slice_get old.store.entries j ≡ Some e → Has new.store.entries j (λ f. (f.canon ≡ e.canon) × (f.weight ≤ e.weight))

-- what stands after an action was tried in an entry
pub record Tried (T : PlanningTask) (b : Bounds) (old new : Progress) (i : ℕ) (a : ActionId) : Type 0 where
  pub keeps : Keeps T b new
  pub covers : CoversBut T b new i
  pub later : Later old new
  pub same : slice_get new.store.entries i ≡ slice_get old.store.entries i
  pub settled : (e : Entry) → slice_get old.store.entries i ≡ Some e → Settled T b new.store.entries new.least e.canon e.weight a
  pub pushed : length new.frontier ≤ length old.frontier + 1
  pub marks : spent b.bound new.expanded.items ≡ spent b.bound old.expanded.items

-- an answer that is right, or the search goes on
abbrev pub TriedTo : PlanningTask → Bounds → Mode → Progress → Progress → ℕ → ActionId → Option Answer → Type 0
TriedTo T b m old new i a None = Tried T b old new i a
TriedTo T b m old new i a (Some answer) = Allowed T b m answer

-- what stands after an entry was expanded
pub record Expanded (T : PlanningTask) (b : Bounds) (old new : Progress) : Type 0 where
  pub keeps : Keeps T b new
  pub covers : CoversAll T b new
  pub pushed : length new.frontier ≤ length old.frontier + length T.actions
  pub marks : spent b.bound old.expanded.items + 1 ≤ spent b.bound new.expanded.items

abbrev pub ExpandedTo : PlanningTask → Bounds → Mode → Progress → Progress → Option Answer → Type 0
ExpandedTo T b m old new None = Expanded T b old new
ExpandedTo T b m old new (Some answer) = Allowed T b m answer

-- a step of the task that does not pass the bound from the entry that it begins in
pub record MayStep (T : PlanningTask) (b : Bounds) (s : Step) (e : Entry) : Type 0 where
  pub step : IsStep T b.measure s
  pub within : e.weight + s.toll ≤ b.bound

-- the action leads to the goal
abbrev pub LeadsToGoal : PlanningTask → Kripke → ActionId → Type 0
LeadsToGoal T c a = (S : Kripke) × Leads T c a S × Satisfies S T.goal
