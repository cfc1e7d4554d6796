-- What waits in the frontier, in the order in which it leaves.
use Rattle.std.specs.Prelude.{◌≡◌, ◌≢◌, ℕ, nat_lt, List, [], ◌∷◌, ◌++◌, map, Option, Some, None, if◌then◌else◌}
use Rattle.std.specs.List.{AllByRecursion}
use Rattle.std.specs.declared.collections.VecDeque.{VecDeque}
use Rattle.std.specs.declared.alloc.Global.{Global}
use Rattle.ep_logic.specs.declared.ids.StateId.{StateId}
use Rattle.ep_guide.specs.declared.frontier.Waiting.{Waiting}

-- in its place: behind all of its score or less, and before the others
abbrev pub placed : Waiting → List Waiting → List Waiting
placed w [] = w ∷ []
placed w (x ∷ xs) = if nat_lt w.score x.score then w ∷ x ∷ xs else x ∷ placed w xs

-- the first leaves, if there is one
abbrev pub Pops : List Waiting → Option StateId → List Waiting → Type 0
Pops old None new = (old ≡ []) × (new ≡ [])
Pops old (Some id) new = (w : Waiting) × (old ≡ w ∷ new) × (w.id ≡ id)

-- the states of one score, the oldest first
abbrev pub Queue : Type 0
Queue = VecDeque StateId Global

abbrev pub waiting : ℕ → StateId → Waiting
waiting score id = record { score = score; id = id }

-- what waits in the queues, score by score
abbrev pub waiting_in : List (ℕ × Queue) → List Waiting
waiting_in [] = []
waiting_in (e ∷ es) = map (waiting e.0) e.1.items ++ waiting_in es

-- no queue is empty
abbrev pub AllInUse : List (ℕ × Queue) → Type 0
AllInUse es = AllByRecursion (λ e. e.1.items ≢ []) es
