-- Signatures, and keys that compare as they do.
use Rattle.std.specs.Prelude.{◌≡◌, ℕ, ◌<◌, ◌≤◌, List, [], length, map, slice_index, slice_index_or}
use Rattle.std.specs.declared.cmp.Ordering.{Ordering}
use Rattle.std.specs.Ordering.{nat_cmp, ordering_then}
use Rattle.std.specs.Cmp.Lexicographic.{slice_cmp}
use Rattle.ep_theory.specs.Rising.{IsIn}
use Rattle.ep_theory.specs.Kind.{KindNode, node_cmp}
use Rattle.ep_refine.specs.declared.signing.Signature.{Signature}
use Rattle.ep_refine.specs.declared.signing.Key.{Key}
use Rattle.ep_refine.specs.declared.numbering.Keyed.{Keyed}

abbrev pub rows_of : Signature → List (List ℕ)
rows_of s = map (λ l. l.items) s.lists.items

-- by the older rank, then agent by agent
abbrev pub key_cmp : Key → Key → Ordering
key_cmp x y = ordering_then (nat_cmp x.older y.older) (slice_cmp nat_cmp x.numbers y.numbers)

-- the key of the k-th world: its older rank and its number in each column
pub record IsKey (older : ℕ) (columns : List (List ℕ)) (k : ℕ) (key : Key) : Type 0 where
  pub is_older : key.older ≡ older
  pub long : length key.numbers ≡ 8
  pub numbers : (a : ℕ) → a < length columns → slice_index key.numbers a ≡ slice_index (slice_index_or columns a []) k
  pub rest : (a : ℕ) → length columns ≤ a → slice_index key.numbers a ≡ 0

-- each item has the key of its world
abbrev pub HaveKeys : (ℕ → ℕ) → List ℕ → List (List ℕ) → List (Keyed Key) → Type 0
HaveKeys rank worlds columns items = (i : ℕ) (d : Keyed Key) → i < length items → IsKey (rank (slice_index worlds i)) columns i (slice_index_or items i d).key

-- the keys compare as the values of their worlds
abbrev pub KeysOrder : (ℕ → KindNode ℕ) → List (Keyed Key) → Type 0
KeysOrder value items = (x y : Keyed Key) → IsIn x items → IsIn y items → key_cmp x.key y.key ≡ node_cmp nat_cmp (value x.world) (value y.world)
