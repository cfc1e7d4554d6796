-- The state that bytes tell, bit by bit. This project's own.
use Rattle.std.specs.Prelude.{◌≡◌, ℕ, ◌+◌, ◌*◌, ◌/◌, ◌%◌, ◌<◌, ◌≤◌, Bool, ◌==◌, List, length, slice_index}
use Rattle.std.specs.Int.{bit_at}
use Rattle.ep_logic.specs.declared.limits.TheConstants.{MOST_AGENTS, MOST_ATOMS}
use Rattle.ep_bytes.specs.declared.limits.TheConstants.{MOST_WRITTEN_WORLDS}
use Rattle.ep_logic.specs.Numbers.{numbers_where, table}
use Rattle.ep_theory.specs.Kripke.{Kripke, IsState}
use Rattle.ep_kripke.specs.States.{state_of}
use Rattle.ep_bytes.specs.declared.reading.Sizes.{Sizes}
use Rattle.ep_bytes.specs.declared.reading.ReadError.{ReadError}
use Rattle.ep_bytes.specs.declared.reading.ReadError.TheVariants.{NoState, OutOfMemory}
use Rattle.ep_bytes.specs.Bytes.{IsWithin, row_size, bytes_of}

-- a state within the limits that has these bytes
pub record HasBytes (most_worlds : ℕ) (bytes : List ℕ) (S : Kripke) : Type 0 where
  pub valid : IsState S
  pub small : IsWithin most_worlds S
  pub own : bytes_of S ≡ bytes

-- no state within the limits has these bytes, or memory is wanting
abbrev pub IsRefused : ℕ → List ℕ → ReadError → Type 0
IsRefused most_worlds bytes NoState = (S : Kripke) → HasBytes most_worlds bytes S → ⊥
IsRefused most_worlds bytes OutOfMemory = Unit {0}

-- the value at a place of a row that begins at a byte
abbrev pub bit_from : List ℕ → ℕ → ℕ → Bool
bit_from bytes at i = bit_at (slice_index bytes (at + i / 8)) (i % 8) == 1

-- how many bytes the rows of one agent have, where the rows of successors begin, and where the designated worlds do
abbrev pub agent_size : Sizes → ℕ
agent_size s = s.worlds * row_size s.worlds

abbrev pub links_begin : Sizes → ℕ
links_begin s = 5 + s.worlds * row_size s.atoms

abbrev pub designated_begin : Sizes → ℕ
designated_begin s = links_begin s + s.agents * agent_size s

abbrev pub whole_length : Sizes → ℕ
whole_length s = designated_begin s + row_size s.worlds

-- a state of these sizes has a world and is within the limits
pub record AreSmall (s : Sizes) : Type 0 where
  pub some_world : 0 < s.worlds
  pub worlds : s.worlds ≤ MOST_WRITTEN_WORLDS
  pub agents : s.agents ≤ MOST_AGENTS
  pub atoms : s.atoms ≤ MOST_ATOMS

-- the bytes tell these sizes, and are as many as those of a state of these sizes
pub record AreSizes (bytes : List ℕ) (s : Sizes) : Type 0 where
  pub small : AreSmall s
  pub worlds : s.worlds ≡ slice_index bytes 0 * 256 + slice_index bytes 1
  pub agents : s.agents ≡ slice_index bytes 2
  pub atoms : s.atoms ≡ slice_index bytes 3 * 256 + slice_index bytes 4
  pub long : length bytes ≡ whole_length s

abbrev pub told_row : List ℕ → ℕ → ℕ → List Bool
told_row bytes at n = table (bit_from bytes at) n

abbrev pub told_truth : List ℕ → Sizes → List (List Bool)
told_truth bytes s = table (λ w. told_row bytes (5 + w * row_size s.atoms) s.atoms) s.worlds

abbrev pub told_numbers : List ℕ → ℕ → ℕ → List ℕ
told_numbers bytes at n = numbers_where (bit_from bytes at) n

-- the rows of one agent, which begin at a byte
abbrev pub told_rows : List ℕ → ℕ → ℕ → List (List ℕ)
told_rows bytes at n = table (λ w. told_numbers bytes (at + w * row_size n) n) n

abbrev pub told_relations : List ℕ → Sizes → List (List (List ℕ))
told_relations bytes s = table (λ a. told_rows bytes (links_begin s + a * agent_size s) s.worlds) s.agents

abbrev pub told_designated : List ℕ → Sizes → List ℕ
told_designated bytes s = told_numbers bytes (designated_begin s) s.worlds

-- the state that the bytes tell
abbrev pub told : List ℕ → Sizes → Kripke
told bytes s = state_of s.agents s.atoms (told_truth bytes s) (told_relations bytes s) (told_designated bytes s)
