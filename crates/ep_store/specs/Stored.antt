-- What a store holds. This project's own.
use Rattle.std.specs.Prelude.{◌≡◌, ℕ, ◌<◌, ◌≤◌, ◌+◌, List, [], ◌∷◌, ◌++◌, length, sum_by, Option, Some, None, slice_get, slice_set}
use Rattle.ep_theory.specs.Kripke.{Kripke}
use Rattle.ep_store.specs.declared.entry.Step.{Step}
use Rattle.ep_store.specs.declared.entry.Entry.{Entry}
use Rattle.ep_store.specs.declared.entry.Added.{Added}
use Rattle.ep_store.specs.declared.entry.Added.TheVariants.{New, Better, Known}
use Rattle.ep_store.specs.declared.entry.StoreError.{StoreError}
use Rattle.ep_store.specs.declared.entry.StoreError.TheVariants.{Full, OutOfMemory}

-- the most states that it may hold, and the entries in the order of storing
pub record Stored : Type 0 where
  pub limit : ℕ
  pub entries : List Entry

-- there is an entry at the place, and the fact holds of it
pub record Has (es : List Entry) (i : ℕ) (P : Entry → Type 0) : Type 0 where
  pub entry : Entry
  pub at : slice_get es i ≡ Some entry
  pub holds : P entry

-- no entry has this state
abbrev pub Lacks : List Entry → Kripke → Type 0
Lacks es C = (i : ℕ) (e : Entry) → slice_get es i ≡ Some e → e.canon ≡ C → ⊥

-- entries at two places have two states
abbrev pub AreDistinct : List Entry → Type 0
AreDistinct es = (i j : ℕ) (e f : Entry) → slice_get es i ≡ Some e → slice_get es j ≡ Some f → e.canon ≡ f.canon → i ≡ j

-- The first entry comes from nowhere, at weight 0. Every other state comes by a step with a toll of at least 1 from an
-- entry, whose weight and the toll are at most its own weight.
abbrev pub MayCome : List Entry → ℕ → Option Step → Type 0
MayCome es weight None = (es ≡ []) × (weight ≡ 0)
MayCome es weight (Some step) = (1 ≤ step.toll) × Has es step.parent.n (λ e. e.weight + step.toll ≤ weight)

-- a state that no entry has goes last, where there is room
pub record IsNew (old : Stored) (e : Entry) (id : ℕ) (new : Stored) : Type 0 where
  pub absent : Lacks old.entries e.canon
  pub room : length old.entries < old.limit
  pub place : id ≡ length old.entries
  pub after : new ≡ record old { entries = old.entries ++ e ∷ [] }

-- an entry has the state with a greater weight, and takes the weight and the step
pub record IsBetter (old : Stored) (e : Entry) (id : ℕ) (new : Stored) : Type 0 where
  pub there : Has old.entries id (λ f. f.canon ≡ e.canon)
  pub greater : Has old.entries id (λ f. e.weight < f.weight)
  pub after : new ≡ record old { entries = slice_set old.entries id e }

-- an entry has the state with no greater weight, and nothing changes
pub record IsKnown (old : Stored) (e : Entry) (id : ℕ) (new : Stored) : Type 0 where
  pub there : Has old.entries id (λ f. f.canon ≡ e.canon)
  pub not_greater : Has old.entries id (λ f. f.weight ≤ e.weight)
  pub after : new ≡ old

-- no entry has the state, there is no room, and nothing changes
pub record IsFull (old : Stored) (C : Kripke) (new : Stored) : Type 0 where
  pub absent : Lacks old.entries C
  pub full : length old.entries ≡ old.limit
  pub after : new ≡ old

-- what `add` answers, by cases that exclude one another
abbrev pub IsAdded : Stored → Entry → Added → Stored → Type 0
IsAdded old e (New id) new = IsNew old e id.n new
IsAdded old e (Better id) new = IsBetter old e id.n new
IsAdded old e (Known id) new = IsKnown old e id.n new

-- what `add` refuses, with the state
abbrev pub IsRefused : Stored → Kripke → StoreError → Stored → Type 0
IsRefused old C (Full D) new = (D ≡ C) × IsFull old C new
IsRefused old C (OutOfMemory D) new = (D ≡ C) × (new ≡ old)

-- a refusal for want of memory, with the state
abbrev pub IsWant : Kripke → StoreError → Type 0
IsWant C (Full D) = ⊥
IsWant C (OutOfMemory D) = D ≡ C

-- the steps along the parents from the first entry to the entry at a place
pub data IsPath (es : List Entry) : ℕ → List Step → Type 0 where
  start : (i : ℕ) (e : Entry) → slice_get es i ≡ Some e → e.from ≡ None → IsPath es i []
  more : (i : ℕ) (e : Entry) (step : Step) (path : List Step) → slice_get es i ≡ Some e → e.from ≡ Some step → IsPath es step.parent.n path → IsPath es i (path ++ step ∷ [])

-- what the tolls of steps add up to
abbrev pub toll_sum : List Step → ℕ
toll_sum steps = sum_by (λ step. step.toll) steps
