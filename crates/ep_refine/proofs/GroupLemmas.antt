-- Worlds in the order of their keys.
use Rattle.std.proofs.Common.{◌≡◌, ℕ, ◌<◌, ◌≤◌, ⊎_elim, Bool, true, false, List, length, get_or, map, sym, ap, ap₂, ◌∙◌, arith, Ordering, IsPermutation}
use Rattle.std.specs.Ordering.{nat_cmp, is_lt}
use Rattle.std.specs.Cmp.{IsTotalOrder}
use Rattle.std.specs.List.Sorted.{IsSorted}
use Rattle.std.proofs.lemmas.List.{get_or-map, length-map}
use Rattle.std.proofs.lemmas.List.Sorted.{Contains-permutation, IsPermutation-sym, sorted_far}
use Rattle.std.proofs.lemmas.List.MinMax.{ranks_by}
use Rattle.ep_theory.specs.Rising.{IsIn}
use Rattle.ep_theory.proofs.CallerLemmas.{IsIn-at, Contains-from_in}
use Rattle.ep_theory.proofs.lists.Bridges.{in_from_Contains}
use Rattle.ep_refine.specs.Numbering.{OrdersAs, OrdersKeys, IsGrouped}
use Rattle.ep_refine.proofs.PlacesLemmas.{some_item}
use Rattle.ep_refine.proofs.BlockLemmas.{lt_or_le}
use Rattle.ep_refine.proofs.Splitting.{is_less, is_equal, from_equal}

module _ {X : Type 0} (cmp : X → X → Ordering) (total : IsTotalOrder cmp) (world : X → ℕ) (start sorted : List X) (moved : IsPermutation start sorted) (up : IsSorted cmp sorted)
    (numbers ws : List ℕ) (ordered : OrdersAs cmp sorted numbers) (ws_is : ws ≡ map world sorted) (g : ℕ → ℕ) (orders : OrdersKeys cmp world g start) where
  long : length ws ≡ length sorted
  long = ap length ws_is ∙ length-map sorted world

  world_at : (k : ℕ) (d : X) → k < length ws → get_or ws k 0 ≡ world (get_or sorted k d)
  world_at k d l = ap (λ l. get_or l k 0) ws_is ∙ get_or-map world sorted k d 0 (let e = long in omega (arith, e, l))

  at_start : (k : ℕ) (d : X) → k < length sorted → IsIn (get_or sorted k d) start
  at_start k d l = in_from_Contains (get_or sorted k d) start (Contains-permutation sorted start (get_or sorted k d) (IsPermutation-sym start sorted moved) (Contains-from_in (get_or sorted k d) sorted (IsIn-at sorted k d l)))

  as_keys : (j k : ℕ) (d : X) → j < length ws → k < length ws → nat_cmp (g (get_or ws j 0)) (g (get_or ws k 0)) ≡ cmp (get_or sorted j d) (get_or sorted k d)
  as_keys j k d a b =
      ap₂ (λ x y. nat_cmp (g x) (g y)) (world_at j d a) (world_at k d b)
      ∙ orders (get_or sorted j d) (get_or sorted k d) (at_start j d (let e = long in omega (arith, e, a))) (at_start k d (let e = long in omega (arith, e, b)))

  pub grouped_is : IsGrouped g numbers ws
  grouped_is = record {
    sorted = λ j k l b.
        let e = long in
        let a : j < length ws = omega (arith, l, b) in
        let d = (some_item sorted k (omega (arith, e, b))).0 in
        let far = sorted_far (λ x y. is_lt (cmp x y)) (ranks_by total (λ x. x)) sorted up j k d l (omega (arith, e, b)) in
        ⊎_elim
        (λ (m : g (get_or ws k 0) < g (get_or ws j 0)).
        absurd (clash (is_lt (cmp (get_or sorted k d) (get_or sorted j d))) (ap is_lt (sym (as_keys k j d b a) ∙ is_less (g (get_or ws k 0)) (g (get_or ws j 0)) m)) far))
        (λ (m : g (get_or ws j 0) ≤ g (get_or ws k 0)). m)
        (lt_or_le (g (get_or ws k 0)) (g (get_or ws j 0)));
    agrees = λ j k a b.
        let e = long in
        let d = (some_item sorted k (omega (arith, e, b))).0 in
        let same = ordered.ordered j k d (omega (arith, e, a)) (omega (arith, e, b)) ∙ sym (as_keys j k d a b) in (
          λ q. from_equal (g (get_or ws j 0)) (g (get_or ws k 0)) (sym same ∙ is_equal (get_or numbers j 0) (get_or numbers k 0) q),
          λ q. from_equal (get_or numbers j 0) (get_or numbers k 0) (same ∙ is_equal (g (get_or ws j 0)) (g (get_or ws k 0)) q),
        );
  }
    where
      clash : (b : Bool) → b ≡ true → b ≡ false → ⊥
      clash b p q = cc
