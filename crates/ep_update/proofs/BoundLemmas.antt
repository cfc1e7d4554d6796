-- The links of a product: each link of the state becomes at most one for each pair of events.
use Rattle.std.proofs.Common.{◌≡◌, ℕ, zero, suc, ◌+◌, ◌*◌, ◌<◌, ◌≤◌, Bool, true, false, cond, ◌&&◌, ◌==◌, List, [], ◌∷◌, ◌++◌, flat_map, map, length, get_or, take, leb, sum_by, refl, sym, ◌∙◌, ap, arith, inl, inr}
use Rattle.std.proofs.Math.Nat.{mul_comm, mul_assoc}
use Rattle.std.proofs.lemmas.Bool.{cases_eq, cases_lt, lt-leb, ne_eqb}
use Rattle.std.proofs.lemmas.Nat.{mul-le}
use Rattle.std.proofs.lemmas.List.{length-append, take_more}
use Rattle.std.proofs.lemmas.List.Sums.{sum_by-append, sum_by-cons}
use Rattle.std.specs.List.{filter}
use Rattle.ep_logic.specs.Numbers.{numbers_where, pairs_within, has_pair, table}
use Rattle.ep_theory.specs.Kripke.{Kripke, IsState, links_of, successors}
use Rattle.ep_theory.specs.Events.{EventModel, event_links}
use Rattle.ep_theory.specs.Fits.{link_count}
use Rattle.ep_theory.specs.Product.{applies, places, place_at, product_of}
use Rattle.ep_update.specs.Places.{block, first_place, place_row, place_rows}
use Rattle.ep_update.proofs.ListLemmas.{take_past}
use Rattle.ep_update.proofs.NumbersWhere.{numbers_where-none, length-numbers_where, first-suc}
use Rattle.ep_update.proofs.PlaceLemmas.{first_place-up, row_is}
use Rattle.ep_update.proofs.ProductLemmas.{links_counted}

one_more : (b : Bool) (n : ℕ) → length {A = ℕ} (cond b (n ∷ []) []) ≤ 1
one_more true n = omega arith
one_more false n = omega arith

-- few numbers stand between two bounds
few_from : (q : ℕ → Bool) (from to : ℕ) → from ≤ to → length (numbers_where (λ j. leb from j && q j) to) + from ≤ to
few_from q from zero l = omega (arith, l)
few_from q from (suc to) l = elim (cases_lt to from) [
  | inl m ↦ let none : numbers_where (λ j. leb from j && q j) (suc to) ≡ [] = numbers_where-none (λ j. leb from j && q j) (suc to) (λ j k. rw (lt-leb from j (omega (arith, m, k))) refl) in
      omega (arith, ap length none, m, l)
  | inr g ↦ omega (arith, few_from q from to g, length-append (numbers_where (λ j. leb from j && q j) to) (cond (leb from to && q to) (to ∷ []) []), one_more (leb from to && q to) to)
]

block_few : (S : Kripke) (A : EventModel) (a e v : ℕ) → length (block S A a e v) ≤ length A.events
block_few S A a e v = omega (
  arith,
  few_from (λ j. has_pair (event_links A a) e (get_or (places S A) j (0, 0)).1) (first_place S A v) (first_place S A (suc v)) (first_place-up S A v (suc v) (omega arith)),
  first-suc (applies S A) (length A.events) v,
  length-numbers_where (applies S A v) (length A.events),
)

flat_few : (f : ℕ → List ℕ) (k : ℕ) → ((v : ℕ) → length (f v) ≤ k) → (xs : List ℕ) → length (flat_map f xs) ≤ length xs * k
flat_few f k h [] = omega arith
flat_few f k h (x ∷ xs) = omega (arith, length-append (f x) (flat_map f xs), h x, flat_few f k h xs)

-- how many successors a world has
abbrev degree : Kripke → ℕ → ℕ → ℕ
degree S a w = length (successors (links_of S a) w)

row_few : (S : Kripke) (A : EventModel) → IsState S → (a i : ℕ) → length (place_row S A a i) ≤ degree S a (place_at S A i).0 * length A.events
row_few S A s a i = omega (arith, ap length (row_is S A a i s), flat_few (block S A a (place_at S A i).1) (length A.events) (block_few S A a (place_at S A i).1) (successors (links_of S a) (place_at S A i).0))

-- sums of a table, value by value
table_total : {X Y : Type 0} (f : ℕ → X) (size : X → ℕ) (xs : List Y) (d : Y) (g : Y → ℕ) (k : ℕ) → ((i : ℕ) → i < length xs → size (f i) ≤ g (get_or xs i d) * k) →
    (n : ℕ) → n ≤ length xs → sum_by size (table f n) ≤ sum_by g (take n xs) * k
table_total f size xs d g k h zero l = omega arith
table_total f size xs d g k h (suc n) l =
    let one : n + 1 ≡ suc n = omega arith in
    let front : sum_by g (take (suc n) xs) ≡ sum_by g (take n xs ++ get_or xs n d ∷ []) = ap (λ m. sum_by g (take m xs)) (sym one) ∙ ap (sum_by g) (take_more xs n d (omega arith)) in
    let more : sum_by g (take (suc n) xs) ≡ sum_by g (take n xs) + g (get_or xs n d) = omega (arith, front, sum_by-append g (take n xs) (get_or xs n d ∷ []), sum_by-cons g (get_or xs n d) []) in
    omega (arith, more, ap (λ m. m * k) more, sum_by-append size (table f n) (f n ∷ []), sum_by-cons size (f n) [], table_total f size xs d g k h n (omega arith), h n (omega arith))

total : (ℕ → ℕ) → ℕ → ℕ
total h zero = 0
total h (suc m) = total h m + h m

world_total : (h : ℕ → ℕ) (m : ℕ) (ys : List ℕ) → sum_by (λ (at : ℕ × ℕ). h at.0) (map (λ j. (m, j)) ys) ≡ length ys * h m
world_total h m [] = omega arith
world_total h m (y ∷ ys) = omega (arith, sum_by-cons (λ (at : ℕ × ℕ). h at.0) (m, y) (map (λ j. (m, j)) ys), world_total h m ys)

places_total : (h : ℕ → ℕ) (r : ℕ → ℕ → Bool) (n m : ℕ) → sum_by (λ (at : ℕ × ℕ). h at.0) (pairs_within r n m) ≤ n * total h m
unfolding total
places_total h r n zero = omega arith
places_total h r n (suc m) = omega (
  arith,
  sum_by-append (λ (at : ℕ × ℕ). h at.0) (pairs_within r n m) (map (λ j. (m, j)) (numbers_where (r m) n)),
  world_total h m (numbers_where (r m) n),
  mul-le (length (numbers_where (r m) n)) (h m) n (h m) (length-numbers_where (r m) n) (omega arith),
  places_total h r n m,
)

-- the links of a world
hit : ℕ → ℕ → ℕ
hit x w = cond (x == w) 1 0

hit_no : (x w : ℕ) → (x ≡ w → ⊥) → hit x w ≡ 0
unfolding hit
hit_no x w d = rw (ne_eqb x w d) refl

hit_one : (x w : ℕ) → hit x w ≤ 1
unfolding hit
hit_one x w = elim (x == w) as (λ b. cond b 1 0 ≤ 1) [
  | true ↦ omega arith
  | false ↦ omega arith
]

hit_none : (x m : ℕ) → m ≤ x → total (hit x) m ≡ 0
unfolding total
hit_none x zero l = refl
hit_none x (suc m) l = omega (arith, hit_none x m (omega arith), hit_no x m (λ e. omega (arith, e, l)))

hit_once : (x m : ℕ) → total (hit x) m ≤ 1
unfolding total
hit_once x zero = omega arith
hit_once x (suc m) = elim (cases_eq x m) [
  | inl e ↦ omega (arith, hit_none x m (omega (arith, e)), hit_one x m)
  | inr d ↦ omega (arith, hit_once x m, hit_no x m d)
]

succ_length : (b : Bool) (p : ℕ × ℕ) (qs : List (ℕ × ℕ)) → length (map (λ (q : ℕ × ℕ). q.1) (cond b (p ∷ qs) qs)) ≡ cond b 1 0 + length (map (λ (q : ℕ × ℕ). q.1) qs)
succ_length true p qs = omega arith
succ_length false p qs = omega arith

succ_more : (p : ℕ × ℕ) (ps : List (ℕ × ℕ)) (w : ℕ) → length (successors (p ∷ ps) w) ≡ hit p.0 w + length (successors ps w)
unfolding hit
succ_more p ps w = succ_length (p.0 == w) p (filter (λ (q : ℕ × ℕ). q.0 == w) ps)

split_total : (p : ℕ × ℕ) (ps : List (ℕ × ℕ)) (m : ℕ) → total (λ w. length (successors (p ∷ ps) w)) m ≡ total (hit p.0) m + total (λ w. length (successors ps w)) m
unfolding total
split_total p ps zero = refl
split_total p ps (suc m) = omega (arith, split_total p ps m, succ_more p ps m)

none_total : (m : ℕ) → total (λ w. length (successors [] w)) m ≡ 0
unfolding total
none_total zero = refl
none_total (suc m) = omega (arith, none_total m)

links_total : (ps : List (ℕ × ℕ)) (m : ℕ) → total (λ w. length (successors ps w)) m ≤ length ps
links_total [] m = omega (arith, none_total m)
links_total (p ∷ ps) m = omega (arith, split_total p ps m, hit_once p.0 m, links_total ps m)

degrees : (S : Kripke) (A : EventModel) (a : ℕ) → sum_by (λ (at : ℕ × ℕ). degree S a at.0) (places S A) ≤ length A.events * total (degree S a) S.worlds
unfolding places
degrees S A a = places_total (degree S a) (applies S A) (length A.events) S.worlds

turn : (e l : ℕ) → e * l * e ≡ l * (e * e)
turn e l = ap (λ x. x * e) (mul_comm e l) ∙ mul_assoc l e e

module _ (S : Kripke) (A : EventModel) (s : IsState S) where
  agent_few : (a : ℕ) → sum_by (length {A = ℕ}) (place_rows S A a) ≤ length (links_of S a) * (length A.events * length A.events)
  agent_few a =
      let n = length A.events in
      let rows = table_total (place_row S A a) (length {A = ℕ}) (places S A) (0, 0) (λ (at : ℕ × ℕ). degree S a at.0) (length A.events) (λ i l. row_few S A s a i) (length (places S A)) (omega arith) in
      let all : sum_by (λ (at : ℕ × ℕ). degree S a at.0) (take (length (places S A)) (places S A)) ≡ sum_by (λ (at : ℕ × ℕ). degree S a at.0) (places S A) = ap (sum_by (λ (at : ℕ × ℕ). degree S a at.0)) (take_past (places S A) (length (places S A)) (omega arith)) in
      let by_links = mul-le (length A.events) (total (degree S a) S.worlds) (length A.events) (length (links_of S a)) (omega arith) (links_total (links_of S a) S.worlds) in
      let most = mul-le (sum_by (λ (at : ℕ × ℕ). degree S a at.0) (places S A)) (length A.events) (length A.events * length (links_of S a)) (length A.events) (omega (arith, degrees S A a, by_links)) (omega arith) in
      omega (arith, rows, ap (λ x. x * length A.events) all, most, turn (length A.events) (length (links_of S a)))

  pub links_few : link_count (product_of S A) ≤ link_count S * (length A.events * length A.events)
  links_few =
      let rows = table_total (place_rows S A) (sum_by (length {A = ℕ})) S.links [] (length {A = ℕ × ℕ}) (length A.events * length A.events) (λ a l. agent_few a) (length S.links) (omega arith) in
      let all : sum_by (length {A = ℕ × ℕ}) (take (length S.links) S.links) ≡ link_count S = ap (sum_by (length {A = ℕ × ℕ})) (take_past S.links (length S.links) (omega arith)) in
      let agents : sum_by (sum_by (length {A = ℕ})) (table (place_rows S A) (length S.links)) ≡ link_count (product_of S A) = ap (λ m. sum_by (sum_by (length {A = ℕ})) (table (place_rows S A) m)) s.relations ∙ links_counted S A in
      omega (arith, rows, agents, ap (λ x. x * (length A.events * length A.events)) all)
