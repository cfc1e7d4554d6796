-- What a store keeps of its entries and their keys.
use Rattle.std.specs.Prelude.{◌≡◌, ℕ, ◌+◌, ◌≤◌, Bool, List, length, Vec, Option, Some, None, nat_eq, slice_get}
use Rattle.std.specs.Map.{values_of}
use Rattle.std.specs.Cmp.Lexicographic.{pointwise}
use Rattle.std.specs.declared.alloc.Global.{Global}
use Rattle.ep_theory.specs.Kripke.{IsState}
use Rattle.ep_bytes.specs.Bytes.{bytes_of}
use Rattle.ep_store.specs.declared.entry.Step.{Step}
use Rattle.ep_store.specs.declared.entry.Entry.{Entry}
use Rattle.ep_store.specs.Stored.{Has, AreDistinct}

-- an entry comes by a step from one whose weight is less by the toll or more, or it is the first, at weight 0
abbrev pub Comes : List Entry → ℕ → ℕ → Option Step → Type 0
Comes es i weight None = (i ≡ 0) × (weight ≡ 0)
Comes es i weight (Some step) = (1 ≤ step.toll) × Has es step.parent.n (λ e. e.weight + step.toll ≤ weight)

abbrev pub IsTree : List Entry → Type 0
IsTree es = (i : ℕ) (e : Entry) → slice_get es i ≡ Some e → Comes es i e.weight e.from

-- each key is the bytes of its entry's state
abbrev pub IsKeyed : List (Vec ℕ Global × Entry) → Type 0
IsKeyed ps = (i : ℕ) (p : Vec ℕ Global × Entry) → slice_get ps i ≡ Some p → (p.0.items ≡ bytes_of p.1.canon) × IsState p.1.canon

-- what the pairs of a store of at most so many states keep
pub record IsStore (limit : ℕ) (ps : List (Vec ℕ Global × Entry)) : Type 0 where
  pub room : length ps ≤ limit
  pub tree : IsTree (values_of ps)
  pub distinct : AreDistinct (values_of ps)
  pub keyed : IsKeyed ps

-- whether these bytes are the key
abbrev pub is_key : List ℕ → Vec ℕ Global → Bool
is_key key k = pointwise nat_eq key k.items
