-- Certificates that no plan within a bound exists: lines, each judged by what those before it tell. This project's own.
use Rattle.std.specs.Prelude.{◌≡◌, ◌≢◌, ℕ, suc, ◌+◌, ◌*◌, ◌/◌, ◌%◌, ◌<◌, ◌≤◌, ◌⊎◌, ◌==◌, List, [], ◌∷◌, ◌++◌, length, Option, Some, codes, slice_get, if◌then◌else◌}
use Rattle.ep_bounds.specs.declared.bounds.TheConstants.{MOST_BOUND, MOST_STATES}
use Rattle.ep_theory.specs.Kripke.{Kripke}
use Rattle.ep_theory.specs.Events.{EventModel}
use Rattle.ep_theory.specs.Product.{IsApplicable, IsStuckAt, product_of}
use Rattle.ep_audit.specs.NamedTasks.{NamedTask, cost_of, name_of}
use Rattle.ep_theory.specs.Closed.{MayStand}
use Rattle.ep_theory.specs.Maps.{Maps}
use Rattle.ep_audit.specs.Lines.{IsLine, bound_line, count_line, entry_line, start_line, stuck_line, to_line}
use Rattle.ep_audit.specs.declared.progress.DueLine.{DueLine}
use Rattle.ep_audit.specs.declared.progress.DueLine.TheVariants.{Version, Task, Bound, Count, Entry, Start, Step, End, Nothing}
use Rattle.ep_audit.specs.declared.progress.Progress.{Progress}

-- ---- the pairs of an entry and an action, entry by entry: pair q has entry q / n and action q % n of n actions

abbrev pub action_count : NamedTask → ℕ
action_count T = length T.problem.actions

abbrev pub pair_count : NamedTask → Progress → ℕ
pair_count T told = told.count * action_count T

-- the action is within the bound in the entry
pub record IsDue (T : NamedTask) (told : Progress) (q : ℕ) : Type 0 where
  pub entry : Kripke × ℕ
  pub at : slice_get told.entries (q / action_count T) ≡ Some entry
  pub cheap : entry.1 + cost_of T (q % action_count T) ≤ told.bound

-- the line that comes when the pairs below q are done: that of the first pair left that is due, or the end
abbrev pub Comes : NamedTask → Progress → ℕ → DueLine → Type 0
Comes T told q (Step k) = (q ≤ k) × (k < pair_count T told) × IsDue T told k × ((j : ℕ) → q ≤ j → j < k → IsDue T told j → ⊥)
Comes T told q End = (j : ℕ) → q ≤ j → j < pair_count T told → IsDue T told j → ⊥
Comes T told q _ = ⊥

-- ---- the rule of each line, with what is told after it

-- the next line is the one that comes when the pairs below q are done
pub record GoesOn (T : NamedTask) (told : Progress) (q : ℕ) (next : Progress) : Type 0 where
  pub due : DueLine
  pub comes : Comes T told q due
  pub after : next ≡ record told { due = due }

pub record TakesBound (told : Progress) (line : List ℕ) (next : Progress) : Type 0 where
  pub bound : ℕ
  pub is_line : line ≡ bound_line bound
  pub most : bound ≤ MOST_BOUND
  pub after : next ≡ record told { bound = bound; due = Count }

pub record TakesCount (told : Progress) (line : List ℕ) (next : Progress) : Type 0 where
  pub count : ℕ
  pub is_line : line ≡ count_line count
  pub least : 1 ≤ count
  pub most : count ≤ MOST_STATES
  pub after : next ≡ record told { count = count; due = Entry }

-- the next entry; the first has weight 0
pub record TakesEntry (T : NamedTask) (told : Progress) (line : List ℕ) (next : Progress) : Type 0 where
  pub entry : Kripke × ℕ
  pub is_line : line ≡ entry_line (length told.entries) entry
  pub may_stand : MayStand T.problem told.bound entry
  pub first : length told.entries ≡ 0 → entry.1 ≡ 0
  pub after : next ≡ record told { entries = told.entries ++ entry ∷ []; due = if length told.entries + 1 == told.count then Start else Entry }

-- a map of the initial state to entry 0
pub record ShowsStart (T : NamedTask) (told : Progress) (line : List ℕ) : Type 0 where
  pub map : List (Option ℕ)
  pub is_line : line ≡ start_line map
  pub entry : Kripke × ℕ
  pub at : slice_get told.entries 0 ≡ Some entry
  pub maps : Maps T.problem.initial entry.0 map

-- a world where the action is stuck
pub record IsStuck (S : Kripke) (A : EventModel) (i : ℕ) (name line : List ℕ) : Type 0 where
  pub world : ℕ
  pub is_line : line ≡ stuck_line i name world
  pub stuck : IsStuckAt S A world

-- a map of the product to an entry of at most this weight
pub record IsMapped (entries : List (Kripke × ℕ)) (most : ℕ) (S : Kripke) (A : EventModel) (i : ℕ) (name line : List ℕ) : Type 0 where
  pub place : ℕ
  pub map : List (Option ℕ)
  pub is_line : line ≡ to_line i name place map
  pub entry : Kripke × ℕ
  pub at : slice_get entries place ≡ Some entry
  pub cheap : entry.1 ≤ most
  pub applicable : IsApplicable S A
  pub maps : Maps (product_of S A) entry.0 map

-- action q % n in entry q / n: where it is stuck, or where its product goes
pub record ShowsStep (T : NamedTask) (told : Progress) (q : ℕ) (line : List ℕ) : Type 0 where
  pub entry : Kripke × ℕ
  pub at : slice_get told.entries (q / action_count T) ≡ Some entry
  pub action : EventModel
  pub action_at : slice_get T.problem.actions (q % action_count T) ≡ Some action
  pub shown : IsStuck entry.0 action (q / action_count T) (name_of T (q % action_count T)) line
      ⊎ IsMapped told.entries (entry.1 + cost_of T (q % action_count T)) entry.0 action (q / action_count T) (name_of T (q % action_count T)) line

abbrev pub TakesAt : DueLine → NamedTask → Progress → List ℕ → List ℕ → Progress → Type 0
TakesAt Version T told line behind next = (line ≡ codes "cert 1") × (next ≡ record told { due = Task })
TakesAt Task T told line behind next = (line ≡ codes "task " ++ T.name) × (next ≡ record told { due = Bound })
TakesAt Bound T told line behind next = TakesBound told line next
TakesAt Count T told line behind next = TakesCount told line next
TakesAt Entry T told line behind next = TakesEntry T told line next
TakesAt Start T told line behind next = ShowsStart T told line × GoesOn T told 0 next
TakesAt (Step q) T told line behind next = ShowsStep T told q line × GoesOn T told (q + 1) next
TakesAt End T told line behind next = (line ≡ codes "end") × (behind ≡ []) × (next ≡ record told { due = Nothing })
TakesAt Nothing T told line behind next = ⊥

-- the line that is due keeps its rule, where `behind` follows it, and this is told after it
abbrev pub Takes : NamedTask → Progress → List ℕ → List ℕ → Progress → Type 0
Takes T told line behind next = TakesAt told.due T told line behind next

-- ---- whole certificates

-- before the first line
abbrev pub nothing_told : Progress
nothing_told = record { bound = 0; count = 0; entries = []; due = Version }

-- the first n lines keep their rules; this is told by them, and this stands behind them
pub data Keeps (T : NamedTask) (text : List ℕ) : ℕ → Progress → List ℕ → Type 0 where
  start : Keeps T text 0 nothing_told text
  more : {n : ℕ} {told : Progress} (line behind : List ℕ) (next : Progress) → Keeps T text n told (line ++ 10 ∷ behind) → IsLine line → Takes T told line behind next → Keeps T text (suc n) next behind

-- the text is a certificate for the bound
pub record Certifies (T : NamedTask) (text : List ℕ) (bound : ℕ) : Type 0 where
  pub lines : ℕ
  pub told : Progress
  pub keeps : Keeps T text lines told []
  pub done : told.due ≡ Nothing
  pub bound_is : told.bound ≡ bound

-- line l, counted from 1, is the first that breaks its rule, or that is missing
pub record IsWrongLine (T : NamedTask) (text : List ℕ) (l : ℕ) : Type 0 where
  pub lines : ℕ
  pub told : Progress
  pub rest : List ℕ
  pub keeps : Keeps T text lines told rest
  pub not_done : told.due ≢ Nothing
  pub place : l ≡ lines + 1
  pub breaks : (line behind : List ℕ) (next : Progress) → rest ≡ line ++ 10 ∷ behind → IsLine line → Takes T told line behind next → ⊥
