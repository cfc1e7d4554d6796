-- Worlds of one block that go to its front or to its back, one after another.
use Rattle.std.proofs.Common.{◌≡◌, ◌≢◌, ℕ, suc, ◌<◌, ◌≤◌, ◌+◌, ◌-◌, Bool, true, false, List, length, slice_index, sym, ap, ap₂, ◌∙◌, arith, ⊎_elim}
use Rattle.ep_refine.specs.declared.blocks.Blocks.{Blocks}
use Rattle.ep_refine.specs.Blocks.{AreBlocks, AreOfOne, rank_of, start_of, end_of, target_of}
use Rattle.ep_refine.proofs.BlockLemmas.{lt_or_le}
use Rattle.ep_theory.proofs.CallerLemmas.{last_or_before}

-- a place is not where the first i worlds went
pub room : (front : Bool) (from to i p : ℕ) → from ≤ p → p < to → ((k : ℕ) → k < i → p ≢ target_of front from to k) → from + i < to
room true from to i p f t far = ⊎_elim
    (λ (l : p < from + i). absurd (far (p - from) (omega arith) (omega arith)))
    (λ (l : from + i ≤ p). omega arith)
    (lt_or_le p (from + i))
room false from to i p f t far = ⊎_elim
    (λ (l : p + i < to). omega arith)
    (λ (l : to ≤ p + i). absurd (far (to - 1 - p) (omega arith) (omega arith)))
    (lt_or_le (p + i) to)

pub target_from : (front : Bool) (from to i : ℕ) → from + i < to → from ≤ target_of front from to i
target_from true from to i l = omega arith
target_from false from to i l = omega arith

pub target_to : (front : Bool) (from to i : ℕ) → from + i < to → target_of front from to i < to
target_to true from to i l = omega arith
target_to false from to i l = omega arith

pub targets_differ : (front : Bool) (from to i k : ℕ) → k < i → from + i < to → target_of front from to k ≢ target_of front from to i
targets_differ true from to i k l r q = absurd (omega arith)
targets_differ false from to i k l r q = absurd (omega arith)

module _ (n : ℕ) (b₀ b : Blocks) (ws : List ℕ) (front : Bool) (i from to : ℕ) (valid : AreBlocks n b)
    (ranks : b.ranks.items ≡ b₀.ranks.items) (starts : b.starts.items ≡ b₀.starts.items) (ends : b.ends.items ≡ b₀.ends.items)
    (one : AreOfOne n (rank_of b₀) ws) (i_in : i < length ws) (from_is : from ≡ start_of b₀ (slice_index ws 0)) (to_is : to ≡ end_of b₀ (slice_index ws 0))
    (done : (k : ℕ) → k < i → slice_index b.order.items (target_of front from to k) ≡ slice_index ws k) where
  pub start_is : start_of b (slice_index ws i) ≡ from
  start_is = ap₂ (λ s r. slice_index s (slice_index r (slice_index ws i))) starts ranks ∙ ap (slice_index b₀.starts.items) (one.one i i_in) ∙ sym from_is

  pub end_is : end_of b (slice_index ws i) ≡ to
  end_is = ap₂ (λ s r. slice_index s (slice_index r (slice_index ws i))) ends ranks ∙ ap (slice_index b₀.ends.items) (one.one i i_in) ∙ sym to_is

  not_there : (k : ℕ) → k < i → slice_index b.place.items (slice_index ws i) ≢ target_of front from to k
  not_there k l q = one.distinct k i l i_in (sym (done k l) ∙ ap (slice_index b.order.items) (sym q) ∙ (valid.parts.placed (slice_index ws i) (one.within i i_in)).1)

  pub has_room : from + i < to
  has_room = room front from to i (slice_index b.place.items (slice_index ws i))
      (let e = valid.parts.start_place (slice_index ws i) (one.within i i_in) in let q = start_is in omega (arith, e, q))
      (let e = valid.parts.place_end (slice_index ws i) (one.within i i_in) in let q = end_is in omega (arith, e, q))
      not_there

  pub gathered_more : (p : ℕ) (b' : Blocks) → p ≡ target_of front from to i → slice_index b'.order.items p ≡ slice_index ws i →
      ((q : ℕ) → q ≢ p → q ≢ slice_index b.place.items (slice_index ws i) → slice_index b'.order.items q ≡ slice_index b.order.items q) →
      (k : ℕ) → k < i + 1 → slice_index b'.order.items (target_of front from to k) ≡ slice_index ws k
  gathered_more p b' e here others k l = ⊎_elim
      (λ (q : k ≡ i). ap (λ z. slice_index b'.order.items (target_of front from to z)) q ∙ ap (slice_index b'.order.items) (sym e) ∙ here ∙ ap (slice_index ws) (sym q))
      (λ (m : k < i). others (target_of front from to k) (λ z. targets_differ front from to i k m has_room (z ∙ e)) (λ z. not_there k m (sym z)) ∙ done k m)
      (last_or_before k i (let z : k < suc i = omega arith in z))
