-- The links of some agents backwards: for each world the worlds that link to it, kept as a chain of places.
use Rattle.std.specs.Prelude.{◌≡◌, ℕ, zero, suc, ◌<◌, ◌≤◌, List, [], ◌∷◌, length, map, slice_index, slice_index_or, slice_set, sum_by}
use Rattle.ep_kripke.specs.declared.sources.BackLink.{BackLink}

-- what a place past the last holds
abbrev pub no_link : BackLink
no_link = record { from = 0; before = 0 }

-- where the links come from, from the place on, which counts from 1, through at most so many
abbrev pub chain_within : ℕ → List BackLink → ℕ → List ℕ
chain_within zero links place = []
chain_within (suc n) links zero = []
chain_within (suc n) links (suc i) = (slice_index_or links i no_link).from ∷ chain_within n links (slice_index_or links i no_link).before

-- where the links come from, from the place on: each names an earlier place
unfoldable pub chain : List BackLink → ℕ → List ℕ
chain links place = chain_within place links place

-- one chain for each world
abbrev pub chains : List BackLink → List ℕ → List (List ℕ)
chains links last = map (chain links) last

-- each link names an earlier place, and each link is in one chain
pub record IsChained (links : List BackLink) (last : List ℕ) : Type 0 where
  pub back : (i : ℕ) → i < length links → (slice_index_or links i no_link).before ≤ i
  pub within : (v : ℕ) → slice_index last v ≤ length links
  pub counted : length links ≡ sum_by length (chains links last)

-- the sources of a world
abbrev pub row_at : List (List ℕ) → ℕ → List ℕ
row_at rows v = slice_index_or rows v []

-- with one source more
abbrev pub with_source : List (List ℕ) → ℕ → ℕ → List (List ℕ)
with_source rows from to = slice_set rows to (from ∷ row_at rows to)

-- with a source of each of these worlds
abbrev pub with_sources : List (List ℕ) → ℕ → List ℕ → List (List ℕ)
with_sources rows from [] = rows
with_sources rows from (to ∷ tos) = with_sources (with_source rows from to) from tos
