-- Types above others.
use Rattle.std.proofs.Common.{◌≡◌, ℕ, zero, suc, ◌+◌, ◌-◌, ◌<◌, ◌≤◌, [], ◌∷◌, length, map, get_or, slice_get, Some, refl, ap, sym, ◌∙◌, subst, arith}
use Rattle.std.proofs.lemmas.Option.{get_or_from_slice_get}
use Rattle.std.specs.Option.{option_map}
use Rattle.ep_types.specs.Names.{values_of}
use Rattle.ep_types.specs.Links.{Rows, up_at, depth_at, ups, IsAbove, AreLinked}
use Rattle.ep_types.proofs.TypeOrder.{ups-add, ups_in, up_in}
use Rattle.ep_types.specs.declared.types.TypeRow.{TypeRow}

column : (f : TypeRow → ℕ) (rows : Rows) (k : ℕ) → slice_get (map (λ e. f e.1) rows) k ≡ option_map f (slice_get (values_of rows) k)
column f [] k = refl
column f (e ∷ es) zero = refl
column f (e ∷ es) (suc k) = column f es k

-- what a row tells stands in the columns
pub at_row : (f : TypeRow → ℕ) (rows : Rows) (k : ℕ) (row : TypeRow) → slice_get (values_of rows) k ≡ Some row → get_or (map (λ e. f e.1) rows) k 0 ≡ f row
at_row f rows k row e = get_or_from_slice_get (map (λ e. f e.1) rows) k (f row) 0 (column f rows k ∙ ap (option_map f) e)

pub above_trans : (rows : Rows) (k j i : ℕ) → IsAbove rows k j → IsAbove rows j i → IsAbove rows k i
above_trans rows k j i a b =
    let first = a.shallower in
    let then_on = b.shallower in
    let steps : (depth_at rows k - depth_at rows j) + (depth_at rows j - depth_at rows i) ≡ depth_at rows k - depth_at rows i = omega (arith, first, then_on) in
    record {
      shallower = omega (arith, first, then_on);
      is = b.is ∙ ap (ups rows (depth_at rows j - depth_at rows i)) a.is ∙ sym (ups-add rows (depth_at rows k - depth_at rows j) (depth_at rows j - depth_at rows i) k) ∙ ap (λ n. ups rows n k) steps;
    }

pub up_step : (rows : Rows) (k : ℕ) → depth_at rows k ≡ suc (depth_at rows (up_at rows k)) → IsAbove rows k (up_at rows k)
up_step rows k deeper =
    let one : depth_at rows k - depth_at rows (up_at rows k) ≡ suc zero = omega (arith, deeper) in
    record { shallower = omega (arith, deeper); is = sym (ap (λ i. ups rows i k) one) }

module _ (rows : Rows) (linked : AreLinked rows) where
  pub above_there : (k j : ℕ) → k < length rows → IsAbove rows k j → j < length rows
  above_there k j k-in a = subst (λ i. i < length rows) (sym a.is) (ups_in rows linked (depth_at rows k - depth_at rows j) k k-in)

  pub up_above : (k : ℕ) → k < length rows → 0 < k → IsAbove rows k (up_at rows k)
  up_above k k-in pos = up_step rows k ((linked.each k k-in).deeper pos)

  -- a number is at least the depth
  pub depth_small : (m k : ℕ) → k ≤ m → k < length rows → depth_at rows k ≤ k
  depth_small m zero le k-in = omega (arith, linked.top)
  depth_small zero (suc k) le k-in = absurd (omega arith)
  depth_small (suc m) (suc k) le k-in =
      let pos : 0 < suc k = omega arith in
      let deeper = (linked.each (suc k) k-in).deeper pos in
      let lower = (linked.each (suc k) k-in).lower pos in
      let less = depth_small m (up_at rows (suc k)) (omega (arith, lower, le)) (up_in rows linked (suc k) k-in) in
      omega (arith, deeper, lower, less)
