-- One round as a whole: from the signed worlds to the next ranks and the worlds that moved.
use Rattle.std.proofs.Common.{◌≡◌, ℕ, ◌<◌, ◌≤◌, ◌++◌, Bool, List, length, map, sym, ap, subst, ◌∙◌, arith, Ordering, IsPermutation, ◌+◌, ◌*◌, length-append}
use Rattle.std.specs.Ordering.{nat_cmp}
use Rattle.ep_theory.specs.Kripke.{Kripke, IsState}
use Rattle.ep_refine.specs.declared.blocks.Blocks.{Blocks}
use Rattle.ep_refine.specs.Touching.{is_listed, Listed}
use Rattle.ep_refine.specs.Numbering.{OrdersKeys, IsGrouped}
use Rattle.ep_refine.specs.Blocks.{AreBlocks, rank_of, start_of, end_of}
use Rattle.ep_refine.specs.Groups.{Suits, Agrees, IsWithin, AreDistinct}
use Rattle.ep_refine.specs.Rounds.{RestAlike, AreRests, AreSpans, AreLeft, IsRound}
use Rattle.ep_refine.proofs.KeyLemmas.{signature_place, by_signature}
use Rattle.ep_refine.proofs.RoundFacts.{all_within, all_distinct, suits, rest_group, is_round, few_worlds}

module _ {X : Type 0} (cmp : X → X → Ordering) (world : X → ℕ)
    (S : Kripke) (s : IsState S) (b : Blocks) (row : List Bool) (ws rests : List ℕ) (listed : Listed S.worlds row ws) (are : AreRests S.worlds b row ws rests) (rest : RestAlike S (rank_of b) row)
    (signed : List X) (worlds_are : map world signed ≡ ws ++ rests) (orders : OrdersKeys cmp world (signature_place S (rank_of b)) signed)
    (worlds groups : List ℕ) (moved : IsPermutation (map world signed) worlds) (ordered : (g : ℕ → ℕ) → OrdersKeys cmp world g signed → IsGrouped g groups worlds) where
  pub placed : IsPermutation (ws ++ rests) worlds
  placed = subst (λ (l : List ℕ). IsPermutation l worlds) worlds_are moved

  pub grouped : IsGrouped (signature_place S (rank_of b)) groups worlds
  grouped = ordered (signature_place S (rank_of b)) orders

  abbrev pub some_suits : (g : ℕ → ℕ) × Suits S.worlds (rank_of b) g (is_listed row) worlds × Agrees g groups worlds
  some_suits = (signature_place S (rank_of b), suits S.worlds b row ws rests listed are S (λ i. S.worlds) (signature_place S (rank_of b)) (by_signature S (rank_of b)) rest worlds groups placed grouped, grouped.agrees)

  pub whole_round : (b₁ : Blocks) → AreBlocks S.worlds b → AreBlocks S.worlds b₁ → ((u : ℕ) → u < S.worlds → start_of b u ≤ start_of b₁ u) → ((u : ℕ) → u < S.worlds → end_of b₁ u ≤ end_of b u) →
      ((g : ℕ → ℕ) → Suits S.worlds (rank_of b) g (is_listed row) worlds → Agrees g groups worlds → (u v : ℕ) → u < S.worlds → v < S.worlds → nat_cmp (rank_of b₁ u) (rank_of b₁ v) ≡ nat_cmp (g u) (g v)) →
      (spans : List (ℕ × ℕ)) → AreSpans b ws spans → (left : List ℕ) → IsWithin S.worlds left → AreDistinct left → AreLeft b₁ spans left → IsRound S b b₁ left
  whole_round b₁ v₀ v₁ from to order spans are_spans left within distinct is_left =
      is_round S s b b₁ v₀ v₁ from to row ws listed spans are_spans (signature_place S (rank_of b)) (by_signature S (rank_of b))
      (rest_group S.worlds b row ws rests listed are S (λ i. S.worlds) (signature_place S (rank_of b)) (by_signature S (rank_of b)) rest worlds groups placed grouped)
      (order (signature_place S (rank_of b)) some_suits.1 some_suits.2) left within distinct is_left

-- at equal lists and numbers
abbrev pub some_as : (old : ℕ → ℕ) (mark : ℕ → Bool) (l n : ℕ) (d ws e groups : List ℕ) → l ≡ n → d ≡ ws → e ≡ groups →
    (g : ℕ → ℕ) × Suits n old g mark ws × Agrees g groups ws → (g : ℕ → ℕ) × Suits l old g mark d × Agrees g e d
some_as old mark l n d ws e groups p q r h = (
  h.0,
  subst (λ m. Suits m old h.0 mark d) (sym p) (subst (λ (x : List ℕ). Suits n old h.0 mark x) (sym q) h.1),
  subst (λ (x : List ℕ). Agrees h.0 x d) (sym r) (subst (λ (x : List ℕ). Agrees h.0 groups x) (sym q) h.2),
)

pub order_as : (old : ℕ → ℕ) (mark : ℕ → Bool) (new : ℕ → ℕ) (l n : ℕ) (d ws e groups : List ℕ) → l ≡ n → d ≡ ws → e ≡ groups →
    ((g : ℕ → ℕ) → Suits l old g mark d → Agrees g e d → (u v : ℕ) → u < l → v < l → nat_cmp (new u) (new v) ≡ nat_cmp (g u) (g v)) →
    (g : ℕ → ℕ) → Suits n old g mark ws → Agrees g groups ws → (u v : ℕ) → u < n → v < n → nat_cmp (new u) (new v) ≡ nat_cmp (g u) (g v)
order_as old mark new l n d ws e groups p q r h g fit agrees u v a b =
    let t = some_as old mark l n d ws e groups p q r (g, fit, agrees) in
    h g t.1 t.2 u v (omega (arith, a, p)) (omega (arith, b, p))

-- what was signed is at most twice the touched worlds, and at most all worlds
pub twice : (n : ℕ) (b : Blocks) (row : List Bool) (ws rests d : List ℕ) → Listed n row ws → AreRests n b row ws rests → d ≡ ws ++ rests → length rests ≤ length ws → (before after : ℕ) → after ≤ before + length d → after ≤ before + 2 * length ws
twice n b row ws rests d listed are e l before after h = let f = ap length e ∙ length-append ws rests in omega (arith, f, l, h)

pub at_most_all : (n : ℕ) (b : Blocks) (row : List Bool) (ws rests d : List ℕ) → Listed n row ws → AreRests n b row ws rests → d ≡ ws ++ rests → (before after : ℕ) → after ≤ before + length d → after ≤ before + n
at_most_all n b row ws rests d listed are e before after h =
    let f = ap length e in
    let k = few_worlds n (ws ++ rests) (all_within n b row ws rests listed are) (all_distinct n b row ws rests listed are) in
    omega (arith, f, k, h)
