-- What bytes tell is a state.
use Rattle.std.proofs.Common.{◌≡◌, ◌≢◌, ℕ, zero, suc, ◌+◌, ◌*◌, ◌<◌, ◌≤◌, ◌==◌, Bool, true, false, cond, List, [], ◌∷◌, ◌++◌, length, map, sum_by, refl, sym, ap, subst, ◌∙◌, arith, IsTrue}
use Rattle.std.specs.List.{AllByRecursion}
use Rattle.std.proofs.lemmas.Bool.{false≢true, eq-eqb}
use Rattle.std.proofs.lemmas.List.{length-append, length-map}
use Rattle.std.proofs.lemmas.List.Sums.{sum_by-cons}
use Rattle.std.proofs.lemmas.Nat.{mul-le}
use Rattle.ep_theory.specs.Rising.{IsRising}
use Rattle.ep_logic.specs.Numbers.{numbers_where, pairs_within, pairs_where, has_number}
use Rattle.ep_theory.specs.Kripke.{IsState, pair_cmp, links_of, successors}
use Rattle.ep_theory.proofs.CallerLemmas.{All-map, All-from_each, from_successors, IsIn-successors, from_table, in_numbers, from_numbers, in_pairs, from_pairs, rising_numbers, rising_pairs, to_has_number, from_has_number, get_or-pairs, row_pairs-chosen}
use Rattle.ep_logic.proofs.CallerLemmas.{length-table, get_or-table}
use Rattle.ep_theory.specs.Relations.{row_pairs, all_pairs}
use Rattle.ep_kripke.specs.States.{IsBounded, HaveRows}
use Rattle.ep_bytes.specs.declared.reading.Sizes.{Sizes}
use Rattle.ep_bytes.specs.Bytes.{row_size}
use Rattle.ep_bytes.specs.Reading.{AreSmall, bit_from, agent_size, links_begin, designated_begin, told_row, told_truth, told_numbers, told_rows, told_relations, told_designated, told}

-- how many there are
last_few : (b : Bool) (n : ℕ) → length (cond b (n ∷ []) []) ≤ 1
last_few true n = omega arith
last_few false n = omega arith

few_numbers : (p : ℕ → Bool) (n : ℕ) → length (numbers_where p n) ≤ n
few_numbers p zero = omega arith
few_numbers p (suc n) = omega (arith, length-append (numbers_where p n) (cond (p n) (n ∷ []) []), last_few (p n) n, few_numbers p n)

few_pairs : (r : ℕ → ℕ → Bool) (n m : ℕ) → length (pairs_within r n m) ≤ m * n
few_pairs r n zero = omega arith
few_pairs r n (suc m) =
    let more : suc m * n ≡ m * n + n = omega arith in
    let row : length {A = ℕ × ℕ} (map (λ j. (m, j)) (numbers_where (r m) n)) ≡ length (numbers_where (r m) n) = length-map {A = ℕ} {B = ℕ × ℕ} (numbers_where (r m) n) (λ j. (m, j)) in
    omega (arith, more, length-append (pairs_within r n m) (map (λ j. (m, j)) (numbers_where (r m) n)), row, few_numbers (r m) n, few_pairs r n m)

few_together : {A : Type 0} (xs : List (List A)) (m : ℕ) → AllByRecursion (λ x. length x ≤ m) xs → sum_by length xs ≤ length xs * m
few_together [] m h = omega arith
few_together {A} (x ∷ xs) m h =
    let more : length (x ∷ xs) * m ≡ m + length xs * m = omega arith in
    omega (arith, more, sum_by-cons (length {A = A}) x xs, h.0, few_together xs m h.1)

-- tests
same_tests : (a b : Bool) → (IsTrue a → IsTrue b) → (IsTrue b → IsTrue a) → a ≡ b
same_tests true b f g = sym (f refl)
same_tests false true f g = g refl
same_tests false false f g = refl

pub has_chosen : (p : ℕ → Bool) (n v : ℕ) → v < n → has_number (numbers_where p n) v ≡ p v
has_chosen p n v l = same_tests (has_number (numbers_where p n) v) (p v)
    (λ h. (from_numbers p n v (from_has_number (numbers_where p n) v h)).1)
    (λ h. to_has_number (numbers_where p n) v (in_numbers p n v l h))

pub has_paired : (r : ℕ → ℕ → Bool) (n w v : ℕ) → w < n → v < n → has_number (successors (pairs_where r n) w) v ≡ r w v
has_paired r n w v l k = same_tests (has_number (successors (pairs_where r n) w) v) (r w v)
    (λ h. (from_pairs r n n (w, v) (from_successors w v (pairs_where r n) (from_has_number (successors (pairs_where r n) w) v h))).2)
    (λ h. to_has_number (successors (pairs_where r n) w) v (IsIn-successors w v (pairs_where r n) (in_pairs r n n w v l k h)))

-- the pairs of the rows that begin at a byte
pub told_pairs : (bytes : List ℕ) (at n : ℕ) → all_pairs (told_rows bytes at n) ≡ pairs_where (λ w v. bit_from bytes (at + w * row_size n) v) n
told_pairs bytes at n =
    ap (row_pairs (told_rows bytes at n)) (length-table (λ w. told_numbers bytes (at + w * row_size n) n) n)
    ∙ row_pairs-chosen (told_rows bytes at n) (λ w v. bit_from bytes (at + w * row_size n) v) n n
    (λ w l. get_or-table (λ w. told_numbers bytes (at + w * row_size n) n) n w [] l)

module _ (bytes : List ℕ) (s : Sizes) where
  abbrev agent_rows : ℕ → List (List ℕ)
  agent_rows a = told_rows bytes (links_begin s + a * agent_size s) s.worlds

  pub told_worlds : length (told_truth bytes s) ≡ s.worlds
  told_worlds = length-table (λ w. told_row bytes (5 + w * row_size s.atoms) s.atoms) s.worlds

  pub told_links : (a : ℕ) → a < s.agents → links_of (told bytes s) a ≡ pairs_where (λ w v. bit_from bytes (links_begin s + a * agent_size s + w * row_size s.worlds) v) s.worlds
  told_links a l = get_or-pairs (told_relations bytes s) a ∙ ap all_pairs (get_or-table agent_rows s.agents a [] l) ∙ told_pairs bytes (links_begin s + a * agent_size s) s.worlds

  -- each agent's pairs
  each_agent : (P : List (ℕ × ℕ) → Type 0) → ((r : ℕ → ℕ → Bool) → P (pairs_where r s.worlds)) → AllByRecursion P (map all_pairs (told_relations bytes s))
  each_agent P h = All-map P all_pairs (told_relations bytes s) (λ rows i.
      let f = from_table agent_rows s.agents rows i in
      subst (λ rows. P (all_pairs rows)) (sym f.2)
      (subst P (sym (told_pairs bytes (links_begin s + f.0 * agent_size s) s.worlds)) (h (λ w v. bit_from bytes (links_begin s + f.0 * agent_size s + w * row_size s.worlds) v))))

  told_agents : length (map all_pairs (told_relations bytes s)) ≡ s.agents
  told_agents = length-map (told_relations bytes s) all_pairs ∙ length-table agent_rows s.agents

  pub told_have_rows : HaveRows (length (told_truth bytes s)) (told_relations bytes s)
  told_have_rows = All-from_each (λ rows. length rows ≡ length (told_truth bytes s)) (told_relations bytes s) (λ rows i.
      let f = from_table agent_rows s.agents rows i in
      ap length f.2 ∙ length-table (λ w. told_numbers bytes (links_begin s + f.0 * agent_size s + w * row_size s.worlds) s.worlds) s.worlds ∙ sym told_worlds)

  pub told_is_state : 0 < s.worlds → told_designated bytes s ≢ [] → IsState (told bytes s)
  told_is_state some named = record {
    some_world = omega (arith, told_worlds, some);
    truths = refl;
    each_truth = All-from_each (λ t. length t ≡ s.atoms) (told_truth bytes s) (λ t i.
        let f = from_table (λ w. told_row bytes (5 + w * row_size s.atoms) s.atoms) s.worlds t i in
        ap length f.2 ∙ length-table (bit_from bytes (5 + f.0 * row_size s.atoms)) s.atoms);
    relations = told_agents;
    rising = each_agent (λ ps. IsRising pair_cmp ps) (λ r. rising_pairs r s.worlds s.worlds);
    within = each_agent (λ ps. AllByRecursion (λ p. (p.0 < length (told_truth bytes s)) × (p.1 < length (told_truth bytes s))) ps)
        (λ r. All-from_each (λ p. (p.0 < length (told_truth bytes s)) × (p.1 < length (told_truth bytes s))) (pairs_where r s.worlds) (λ p i.
        let f = from_pairs r s.worlds s.worlds p i in (omega (arith, f.0, told_worlds), omega (arith, f.1, told_worlds))));
    designated_rising = rising_numbers (bit_from bytes (designated_begin s)) s.worlds;
    designated_within = All-from_each (λ w. w < length (told_truth bytes s)) (told_designated bytes s) (λ w i.
        let f = from_numbers (bit_from bytes (designated_begin s)) s.worlds w i in omega (arith, f.0, told_worlds));
    some_designated = named;
  }

  pub told_is_bounded : AreSmall s → IsBounded (told bytes s)
  told_is_bounded small = record {
    worlds = omega (arith, told_worlds, small.worlds);
    agents = small.agents;
    atoms = small.atoms;
    links =
        let each = each_agent (λ ps. length ps ≤ s.worlds * s.worlds) (λ r. few_pairs r s.worlds s.worlds) in
        let all = few_together (map all_pairs (told_relations bytes s)) (s.worlds * s.worlds) each in
        let square = mul-le s.worlds s.worlds 4096 4096 small.worlds small.worlds in
        let few = mul-le (length (map all_pairs (told_relations bytes s))) (s.worlds * s.worlds) 8 16777216 (omega (arith, told_agents, small.agents)) (omega (arith, square)) in
        omega (arith, all, few);
  }

-- a list that is not empty by its length
pub not_empty : (xs ys : List ℕ) (len : ℕ) → len ≡ length xs → false ≡ (len == 0) → xs ≡ ys → ys ≢ []
not_empty xs ys len long some is e =
    let none : length xs ≡ 0 = ap length (is ∙ e) in
    false≢true (some ∙ eq-eqb len 0 (long ∙ none))

-- loops
pub numbers_next : (p : ℕ → Bool) (i : ℕ) → numbers_where p (i + 1) ≡ numbers_where p i ++ cond (p i) (i ∷ []) []
numbers_next p i = ap (numbers_where p) (let one : i + 1 ≡ suc i = omega arith in one)

-- a row lies within the rows
pub row_inside : (w n size : ℕ) → w < n → w * size + size ≤ n * size
row_inside w n size l =
    let more : suc w * size ≡ w * size + size = omega arith in
    omega (arith, more, mul-le (suc w) size n size (omega arith) (omega arith))
