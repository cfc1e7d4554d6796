-- Types by their numbers: each knows its parent, a type further above, and how deep it stands.
use Rattle.std.specs.Prelude.{◌≡◌, ℕ, zero, suc, ◌-◌, ◌<◌, ◌≤◌, false, List, [], length, map, slice_index, slice_index_or}
use Rattle.ep_types.specs.Names.{Text, Typings, is_text, names_of}
use Rattle.ep_types.specs.declared.types.TypeRow.{TypeRow}

abbrev pub Rows : Type 0
Rows = List (Text × TypeRow)

-- the types with their parents
abbrev pub typings : Rows → Typings
typings rows = map (λ e. (e.0, e.1.parent)) rows

abbrev pub name_at : Rows → ℕ → Text
name_at rows k = slice_index_or (names_of rows) k []

abbrev pub parent_at : Rows → ℕ → Text
parent_at rows k = slice_index_or (map (λ e. e.1.parent) rows) k []

abbrev pub up_at : Rows → ℕ → ℕ
up_at rows k = slice_index (map (λ e. e.1.up) rows) k

abbrev pub far_at : Rows → ℕ → ℕ
far_at rows k = slice_index (map (λ e. e.1.far) rows) k

abbrev pub depth_at : Rows → ℕ → ℕ
depth_at rows k = slice_index (map (λ e. e.1.depth) rows) k

-- so many steps up
abbrev pub ups : Rows → ℕ → ℕ → ℕ
ups rows zero k = k
ups rows (suc n) k = ups rows n (up_at rows k)

-- a type stands as many steps above another as their depths say
pub record IsAbove (rows : Rows) (k above : ℕ) : Type 0 where
  pub shallower : depth_at rows above ≤ depth_at rows k
  pub is : above ≡ ups rows (depth_at rows k - depth_at rows above) k

-- a type at its place: no type before it has its name, and its parent stands before it
pub record IsLinked (rows : Rows) (k : ℕ) : Type 0 where
  pub first : (j : ℕ) → j < k → is_text (name_at rows k) (name_at rows j) ≡ false
  pub parent : parent_at rows k ≡ name_at rows (up_at rows k)
  pub lower : 0 < k → up_at rows k < k
  pub deeper : 0 < k → depth_at rows k ≡ suc (depth_at rows (up_at rows k))
  pub far : IsAbove rows k (far_at rows k)
  pub far_shallower : 0 < k → depth_at rows (far_at rows k) < depth_at rows k

-- the first type is its own parent, and each is at its place
pub record AreLinked (rows : Rows) : Type 0 where
  pub some : 0 < length rows
  pub root : up_at rows 0 ≡ 0
  pub top : depth_at rows 0 ≡ 0
  pub each : (k : ℕ) → k < length rows → IsLinked rows k
