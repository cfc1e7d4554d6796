-- What holds of what correct lines have told.
use Rattle.std.specs.Prelude.{◌≡◌, ℕ, ◌/◌, ◌%◌, ◌<◌, ◌≤◌, [], length, Some, slice_get}
use Rattle.std.specs.List.{AllByRecursion}
use Rattle.ep_bounds.specs.declared.bounds.TheConstants.{MOST_BOUND, MOST_STATES}
use Rattle.ep_theory.specs.Kripke.{Kripke}
use Rattle.ep_theory.specs.Closed.{MayStand, Stands, IsTried}
use Rattle.ep_audit.specs.NamedTasks.{NamedTask}
use Rattle.ep_audit.specs.Certificates.{action_count, pair_count, IsDue}
use Rattle.ep_audit.specs.declared.progress.DueLine.{DueLine}
use Rattle.ep_audit.specs.declared.progress.DueLine.TheVariants.{Version, Task, Bound, Count, Entry, Start, Step, End, Nothing}
use Rattle.ep_audit.specs.declared.progress.Progress.{Progress}

-- the action of the pair was tried in its entry
abbrev pub PairTried : NamedTask → Progress → ℕ → Type 0
PairTried T told j = (e : Kripke × ℕ) → slice_get told.entries (j / action_count T) ≡ Some e → IsTried T.problem told.bound told.entries e (record { n = j % action_count T })

-- all entries were told
pub record IsListed (told : Progress) : Type 0 where
  pub all : length told.entries ≡ told.count
  pub some : 1 ≤ told.count

-- the initial state stands in the list, and the actions of the pairs below q were tried
pub record IsWhole (T : NamedTask) (told : Progress) (q : ℕ) : Type 0 where
  pub listed : IsListed told
  pub start : Stands told.entries 0 T.problem.initial
  pub tried : (j : ℕ) → j < q → j < pair_count T told → PairTried T told j

-- the next pair is due
pub record IsAt (T : NamedTask) (told : Progress) (q : ℕ) : Type 0 where
  pub whole : IsWhole T told q
  pub within : q < pair_count T told
  pub due : IsDue T told q

abbrev pub IsPlace : NamedTask → Progress → DueLine → Type 0
IsPlace T told Version = told.entries ≡ []
IsPlace T told Task = told.entries ≡ []
IsPlace T told Bound = told.entries ≡ []
IsPlace T told Count = told.entries ≡ []
IsPlace T told Entry = length told.entries < told.count
IsPlace T told Start = IsListed told
IsPlace T told (Step q) = IsAt T told q
IsPlace T told End = IsWhole T told (pair_count T told)
IsPlace T told Nothing = IsWhole T told (pair_count T told)

pub record IsSound (T : NamedTask) (told : Progress) : Type 0 where
  pub bound : told.bound ≤ MOST_BOUND
  pub few : told.count ≤ MOST_STATES
  pub entries : AllByRecursion (MayStand T.problem told.bound) told.entries
  pub first : (e : Kripke × ℕ) → slice_get told.entries 0 ≡ Some e → e.1 ≡ 0
  pub place : IsPlace T told told.due
