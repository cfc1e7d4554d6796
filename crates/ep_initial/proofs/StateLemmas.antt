-- A state of given worlds with links by tests is a state, and is what rows of successors make.
use Rattle.std.proofs.Common.{◌≡◌, ℕ, zero, suc, ◌+◌, ◌*◌, ◌<◌, ◌≤◌, Bool, List, [], ◌∷◌, ◌++◌, length, map, refl, ap, sym, ◌∙◌, subst, arith, sum_by}
use Rattle.std.specs.List.{AllByRecursion}
use Rattle.std.specs.Ordering.{nat_cmp}
use Rattle.std.proofs.lemmas.List.{length-map, length-append}
use Rattle.std.proofs.lemmas.List.Sums.{sum_by-append}
use Rattle.ep_theory.specs.Kripke.{Kripke, IsState, pair_cmp}
use Rattle.ep_logic.specs.Numbers.{numbers_where, pairs_within, pairs_where, table}
use Rattle.ep_theory.specs.Rising.{IsIn, IsRising}
use Rattle.ep_theory.proofs.CallerLemmas.{All-from_each, from_table, from_numbers, from_pairs, rising_numbers, rising_pairs, row_pairs-chosen}
use Rattle.ep_logic.proofs.CallerLemmas.{length-table, get_or-table, map-table, table-same}
use Rattle.ep_theory.specs.Relations.{all_pairs, row_pairs}
use Rattle.ep_kripke.specs.States.{HaveRows, IsBounded, state_of}
use Rattle.ep_initial.specs.Meeting.{state_where}
use Rattle.ep_initial.proofs.ListLemmas.{few_numbers}

-- ---- how many links there are

few_within : (r : ℕ → ℕ → Bool) (n k m : ℕ) → n ≤ k → length (pairs_within r n m) ≤ k * m
few_within r n k zero h = omega arith
few_within r n k (suc m) h =
    let long = length-append (pairs_within r n m) (map (λ j. (m, j)) (numbers_where (r m) n)) in
    let row : length (map (λ j. (m, j)) (numbers_where (r m) n)) ≡ length (numbers_where (r m) n) = length-map {B = ℕ × ℕ} (numbers_where (r m) n) (λ j. (m, j)) in
    let one = few_numbers (r m) n in
    let rest = few_within r n k m h in
    grind (arith, long, row, one, rest)

few_pairs : (r : ℕ → ℕ → Bool) (n : ℕ) → n ≤ 4096 → length (pairs_where r n) ≤ 16777216
few_pairs r n h = let few = few_within r n 4096 n h in omega (arith, few)

few_links : (f : ℕ → List (ℕ × ℕ)) (n : ℕ) → ((a : ℕ) → length (f a) ≤ 16777216) → sum_by length (table f n) ≤ 16777216 * n
few_links f zero h = omega arith
few_links f (suc n) h =
    let all : sum_by length (table f n ++ f n ∷ []) ≡ sum_by length (table f n) + sum_by length (f n ∷ []) = sum_by-append length (table f n) (f n ∷ []) in
    let rest = few_links f n h in
    let one = h n in
    omega (arith, all, rest, one)

-- ---- the state

-- what the worlds and the designated ones of a state are
pub record AreWorlds (atoms : ℕ) (rows : List (List Bool)) (ids : List ℕ) : Type 0 where
  pub some : 0 < length rows
  pub long : AllByRecursion (λ row. length row ≡ atoms) rows
  pub rising : IsRising nat_cmp ids
  pub within : AllByRecursion (λ w. w < length rows) ids
  pub some_id : 0 < length ids

-- where the designated ones are chosen by a test
pub chosen_worlds : (atoms : ℕ) (rows : List (List Bool)) (p : ℕ → Bool) → AllByRecursion (λ row. length row ≡ atoms) rows → 0 < length (numbers_where p (length rows)) →
    AreWorlds atoms rows (numbers_where p (length rows))
chosen_worlds atoms rows p long h = record {
  some = let few = few_numbers p (length rows) in omega (arith, h, few);
  long = long;
  rising = rising_numbers p (length rows);
  within = All-from_each (λ w. w < length rows) (numbers_where p (length rows)) (λ w i. (from_numbers p (length rows) w i).0);
  some_id = h;
}

module _ (agents atoms : ℕ) (rows : List (List Bool)) (linked : ℕ → ℕ → ℕ → Bool) (ids : List ℕ) where
  abbrev pub S : Kripke
  S = state_where agents atoms rows linked ids

  abbrev pairs_at : ℕ → List (ℕ × ℕ)
  pairs_at a = pairs_where (linked a) (length rows)

  abbrev IsPair : ℕ × ℕ → Type 0
  IsPair p = (p.0 < length rows) × (p.1 < length rows)

  none_empty : (xs : List ℕ) → 0 < length xs → xs ≡ [] → ⊥
  none_empty xs h e = let n = ap length e in omega (arith, h, n)

  pub is_state : AreWorlds atoms rows ids → IsState S
  is_state h = record {
    some_world = h.some;
    truths = refl;
    each_truth = h.long;
    relations = length-table pairs_at agents;
    rising = All-from_each (IsRising pair_cmp) (table pairs_at agents) (λ pairs i.
        let r = from_table pairs_at agents pairs i in
        subst (IsRising pair_cmp) (sym r.2) (rising_pairs (linked r.0) (length rows) (length rows)));
    within = All-from_each (λ pairs. AllByRecursion IsPair pairs) (table pairs_at agents) (λ pairs i.
        let r = from_table pairs_at agents pairs i in
        All-from_each IsPair pairs (λ q j.
        let c = from_pairs (linked r.0) (length rows) (length rows) q (subst (IsIn q) r.2 j) in
        (c.0, c.1)));
    designated_rising = h.rising;
    designated_within = h.within;
    some_designated = none_empty ids h.some_id;
  }

  pub is_bounded : length rows ≤ 4096 → agents ≤ 8 → atoms ≤ 256 → IsBounded S
  is_bounded few a p =
      let links = few_links pairs_at agents (λ b. few_pairs (linked b) (length rows) few) in
      record { worlds = omega arith; agents = a; atoms = p; links = omega (arith, links) }

  -- rows of successors that give the links
  pub record AreLinks (f : ℕ → List (List ℕ)) : Type 0 where
    pub long : (a : ℕ) → length (f a) ≡ length rows
    pub pairs : (a : ℕ) → all_pairs (f a) ≡ pairs_at a

  pub state_is : (f : ℕ → List (List ℕ)) → AreLinks f → (truth : List (List Bool)) (relations : List (List (List ℕ))) (designated : List ℕ) → truth ≡ rows → relations ≡ table f agents → designated ≡ ids →
      state_of agents atoms truth relations designated ≡ S
  state_is f h truth relations designated t r d =
      let links : map all_pairs relations ≡ table pairs_at agents =
      ap (map all_pairs) r ∙ map-table all_pairs f agents ∙ table-same (λ a. all_pairs (f a)) pairs_at agents (λ a l. h.pairs a) in
      λ i. record { worlds = length (t i); agents = agents; atoms = atoms; truth = t i; links = links i; designated = d i }

  pub have_rows : (f : ℕ → List (List ℕ)) → AreLinks f → (truth : List (List Bool)) (relations : List (List (List ℕ))) → truth ≡ rows → relations ≡ table f agents → HaveRows (length truth) relations
  have_rows f h truth relations t r =
      All-from_each (λ (one : List (List ℕ)). length one ≡ length truth) relations (λ one i.
      let k = from_table f agents one (subst (IsIn one) r i) in
      ap length k.2 ∙ h.long k.0 ∙ sym (ap length t))

-- a row for each number gives the pairs of a test
pub table_pairs : (r : ℕ → ℕ → Bool) (n : ℕ) (g : ℕ → List ℕ) → ((v : ℕ) → v < n → g v ≡ numbers_where (r v) n) → all_pairs (table g n) ≡ pairs_where r n
table_pairs r n g h = ap (row_pairs (table g n)) (length-table g n) ∙ row_pairs-chosen (table g n) r n n (λ i l. get_or-table g n i [] l ∙ h i l)
