-- Pairs and links as they are made: their ranges, their numbers, and what stands among them.
use Rattle.std.proofs.Common.{◌≡◌, ℕ, zero, suc, ◌*◌, ◌<◌, ◌≤◌, Bool, true, false, cond, Option, Some, None, unwrap_or, List, [], ◌∷◌, length, map, get_or, position, refl, ap, sym, ◌∙◌, subst, arith, ⊎_elim, All, nat_lt, lt-suc_self}
use Rattle.std.specs.List.{position_or_len}
use Rattle.std.proofs.lemmas.Bool.Decides.{nat_tests}
use Rattle.std.proofs.lemmas.List.{length-map, length-append}
use Rattle.std.proofs.lemmas.List.Elements.{All-head, All-tail}
use Rattle.std.proofs.lemmas.List.Sums.{position_or_len_is}
use Rattle.std.proofs.lemmas.List.Quantifiers.{position-Some}
use Rattle.ep_lex.specs.declared.limits.TheConstants.{MOST_TOKENS}
use Rattle.ep_logic.specs.declared.limits.TheConstants.{MOST_INITIAL_WORLDS}
use Rattle.ep_theory.specs.Rising.{IsIn}
use Rattle.ep_logic.specs.Rows.{value_at}
use Rattle.ep_logic.specs.Numbers.{numbers_where, pairs_within}
use Rattle.ep_theory.proofs.CallerLemmas.{from_map, IsIn-map, IsIn-at, last_or_before, in_left, in_right, in_parts, from_table, from_pairs}
use Rattle.ep_logic.proofs.CallerLemmas.{length-table}
use Rattle.ep_tree.specs.declared.tree.Name.{Name}
use Rattle.ep_tree.specs.declared.tree.LinkTree.{LinkTree}
use Rattle.ep_tree.specs.declared.tree.PairsTree.{PairsTree}
use Rattle.ep_tree.specs.declared.tree.PairsTree.TheVariants as pairs
use Rattle.ep_types.specs.Names.{Text, is_text}
use Rattle.ep_types.specs.declared.scope.Declared.{Declared}
use Rattle.ep_universe.specs.Objects.{Binding, group_of}
use Rattle.ep_universe.proofs.AtomLemmas.{few_numbers}
use Rattle.ep_universe.specs.Links.{place_of, pair_of, written_pairs, last_pairs}
use Rattle.ep_universe.specs.Links.{made_links, agent_pairs}
use Rattle.ep_universe.specs.Links.{AreFewPairs}

-- ---- no place passes

outside : (n : ℕ) → nat_lt n n ≡ false
outside n = grind (arith, nat_tests)

pub no_position : {X : Type 0} (p : X → Bool) (xs : List X) → ((x : X) → IsIn x xs → p x ≡ false) → position p xs ≡ None
no_position p [] h = refl
no_position p (x ∷ xs) h =
    let e : position_or_len p (x ∷ xs) ≡ length (x ∷ xs) = position_or_len_is p (x ∷ xs) (length (x ∷ xs)) x (omega arith)
    (λ k m. h (get_or (x ∷ xs) k x) (IsIn-at (x ∷ xs) k x m)) (λ m. absurd (omega (arith, m))) in
    ap (λ k. cond (nat_lt k (length (x ∷ xs))) (Some k) None) e ∙ ap (λ b. cond b (Some (length (x ∷ xs))) None) (outside (length (x ∷ xs)))

-- ---- ranges

below-found : (p : Text → Bool) (names : List Text) → 0 < length names → unwrap_or (position p names) 0 < length names
below-found p names h = by (position p names) refl
  where
    by : (o : Option ℕ) → position p names ≡ o → unwrap_or o 0 < length names
    by None e = h
    by (Some i) e = (position-Some p names i [] e).0

pub place_below : (names : List Text) (x : Name) → 0 < length names → place_of names x < length names
place_below names x h = below-found (is_text x.text) names h

abbrev pub IsBelow : ℕ → ℕ × ℕ → Type 0
IsBelow n p = (p.0 < n) × (p.1 < n)

pub pairs_below : (names : List Text) (ps : PairsTree) → 0 < length names → (p : ℕ × ℕ) → IsIn p (written_pairs names ps) → IsBelow (length names) p
pairs_below names pairs.All h p i = let c = from_pairs (λ _ _. true) (length names) (length names) p i in (c.0, c.1)
pairs_below names pairs.Same h p i =
    let c = from_table {A = ℕ × ℕ} (λ k. (k, k)) (length names) p i in
    subst (IsBelow (length names)) (sym c.2) (c.1, c.1)
pairs_below names (pairs.Listed listed) h p i =
    let c = from_map (pair_of names) p listed i in
    subst (IsBelow (length names)) (sym c.2) (place_below names c.0.from h, place_below names c.0.to h)

-- ---- numbers

few_within : (r : ℕ → ℕ → Bool) (n k m : ℕ) → n ≤ k → length (pairs_within r n m) ≤ k * m
few_within r n k zero h = omega arith
few_within r n k (suc m) h =
    let long = length-append (pairs_within r n m) (map (λ j. (m, j)) (numbers_where (r m) n)) in
    let row : length (map (λ j. (m, j)) (numbers_where (r m) n)) ≡ length (numbers_where (r m) n) = length-map {B = ℕ × ℕ} (numbers_where (r m) n) (λ j. (m, j)) in
    let one = few_numbers (r m) n in
    let rest = few_within r n k m h in
    grind (arith, long, row, one, rest)

pub few_written : (names : List Text) (ps : PairsTree) → length names ≤ MOST_INITIAL_WORLDS → AreFewPairs ps → length (written_pairs names ps) ≤ MOST_TOKENS
few_written names pairs.All h f = let few = few_within (λ _ _. true) (length names) 256 (length names) h in omega (arith, few)
few_written names pairs.Same h f = let long = length-table {A = ℕ × ℕ} (λ k. (k, k)) (length names) in omega (arith, long)
few_written names (pairs.Listed listed) h f = let long = length-map listed (pair_of names) in omega (arith, long, f)

last_few : (d : Declared) (b : Binding) (a : ℕ) (before : PairsTree) (ls : List LinkTree) → AreFewPairs before → All (λ l. AreFewPairs l.pairs) ls → AreFewPairs (last_pairs d b a before ls)
last_few d b a before [] h f = h
last_few d b a before (l ∷ ls) h f =
    last_few d b a (cond (value_at (group_of d b l.group) a) l.pairs before) ls
    (by (value_at (group_of d b l.group) a)) (All-tail (λ (l : LinkTree). AreFewPairs l.pairs) l ls f)
  where
    by : (t : Bool) → AreFewPairs (cond t l.pairs before)
    by true = All-head (λ (l : LinkTree). AreFewPairs l.pairs) l ls f
    by false = h

pub few_of_agent : (d : Declared) (b : Binding) (names : List Text) (ls : List LinkTree) (a : ℕ) → length names ≤ MOST_INITIAL_WORLDS → All (λ l. AreFewPairs l.pairs) ls → length (agent_pairs d b names ls a) ≤ MOST_TOKENS
few_of_agent d b names ls a h f = few_written names (last_pairs d b a pairs.Same ls) h (last_few d b a pairs.Same ls tt f)

pub few_made : {X : Type 0} (make : ℕ → ℕ × ℕ → X) (g : ℕ → List (ℕ × ℕ)) (k n : ℕ) → ((a : ℕ) → length (g a) ≤ k) → length (made_links make g n) ≤ k * n
few_made make g k zero h = omega arith
few_made make g k (suc n) h =
    let long = length-append (made_links make g n) (map (make n) (g n)) in
    let row = length-map (g n) (make n) in
    let one = h n in
    let rest = few_made make g k n h in
    grind (arith, long, row, one, rest)

-- ---- what stands among links

pub from_made : {X : Type 0} (make : ℕ → ℕ × ℕ → X) (g : ℕ → List (ℕ × ℕ)) (n : ℕ) (x : X) → IsIn x (made_links make g n) → (a : ℕ) × (p : ℕ × ℕ) × (a < n) × IsIn p (g a) × (x ≡ make a p)
from_made make g zero x i = absurd i
from_made make g (suc n) x i = ⊎_elim
    (λ (j : IsIn x (made_links make g n)). let r = from_made make g n x j in (r.0, r.1, omega (arith, r.2), r.3, r.4))
    (λ (j : IsIn x (map (make n) (g n))). let r = from_map (make n) x (g n) j in (n, r.0, lt-suc_self n, r.1, r.2))
    (in_parts x (made_links make g n) (map (make n) (g n)) i)

pub to_made : {X : Type 0} (make : ℕ → ℕ × ℕ → X) (g : ℕ → List (ℕ × ℕ)) (n a : ℕ) (p : ℕ × ℕ) → a < n → IsIn p (g a) → IsIn (make a p) (made_links make g n)
to_made make g zero a p h i = absurd (omega arith)
to_made make g (suc n) a p h i = ⊎_elim
    (λ (e : a ≡ n). in_right (make a p) (made_links make g n) (map (make n) (g n)) (subst (λ k. IsIn (make a p) (map (make k) (g k))) e (IsIn-map (make a) p (g a) i)))
    (λ (l : a < n). in_left (make a p) (made_links make g n) (map (make n) (g n)) (to_made make g n a p l i))
    (last_or_before a n h)
