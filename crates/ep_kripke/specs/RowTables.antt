-- Rows of truth values that are shared, and tables of them.
use Rattle.std.specs.Prelude.{◌≡◌, ℕ, ◌^◌, ◌<◌, Bool, List, Some, slice_get, slice_index}
use Rattle.std.specs.List.{AllByRecursion}
use Rattle.std.specs.Map.{values_of}
use Rattle.std.specs.declared.alloc.Global.{Global}
use Rattle.std.specs.declared.rc.Rc.{Rc}
use Rattle.ep_logic.specs.Packed.{unpacked, IsPacked}
use Rattle.ep_kripke.specs.declared.row.Words.{Words}

-- the words of a row of n values
pub record IsRow (words : List ℕ) (n : ℕ) : Type 0 where
  pub packed : IsPacked words n
  pub small : (i : ℕ) → slice_index words i < 2 ^ 64

-- at two places stand two rows
abbrev pub AreDistinct : List (List Bool) → Type 0
AreDistinct rows = (i j : ℕ) (row : List Bool) → slice_get rows i ≡ Some row → slice_get rows j ≡ Some row → i ≡ j

-- each place of the first table has its row in the second
abbrev pub Keeps : List (List Bool) → List (List Bool) → Type 0
Keeps old new = (n : ℕ) (row : List Bool) → slice_get old n ≡ Some row → slice_get new n ≡ Some row

-- the key of a row is its words
pub record IsKeyed (p : Rc Words Global × List Bool) : Type 0 where
  pub words : IsRow p.0.value.items.items p.0.value.len
  pub row : p.1 ≡ unpacked p.0.value.items.items p.0.value.len

-- what a table keeps of its keys and rows
pub record IsTable (ps : List (Rc Words Global × List Bool)) : Type 0 where
  pub keyed : AllByRecursion IsKeyed ps
  pub distinct : AreDistinct (values_of ps)
