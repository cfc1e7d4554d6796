-- The state of the chosen worlds.
use Rattle.std.proofs.Common.{◌≡◌, ℕ, suc, ◌<◌, ◌≤◌, ◌+◌, ◌==◌, Bool, true, false, cond, List, [], ◌∷◌, ◌++◌, length, get_or, map, filter, take, sum_by, refl, sym, ap, ap₂, subst, ◌∙◌, arith, ◌⊎◌, ⊎_elim, IsTrue}
use Rattle.std.specs.Ordering.{nat_cmp}
use Rattle.std.specs.List.{AllByRecursion}
use Rattle.std.proofs.Math.ListN.{get_or-eq_default}
use Rattle.std.proofs.lemmas.List.{length-map, get_or-map, take_more, map-append}
use Rattle.std.proofs.lemmas.List.Sums.{sum_by-cons}
use Rattle.ep_theory.specs.Rising.{IsIn, IsRising}
use Rattle.ep_theory.specs.Kripke.{Kripke, IsState, pair_cmp, links_of, successors, truth_of}
use Rattle.ep_theory.specs.Image.{IsImage}
use Rattle.ep_theory.proofs.CallerLemmas.{not_empty, IsIn-filter, from_filter, All-map, All-at, at_All, All-from_each, IsIn-map, from_map, IsIn-rising, from_rising, IsRising-rising, from_successors, IsIn-successors, equal_from_test, numbers, links_within, get_or-pairs, sum_by-pairs, from_row_pairs, to_row_pairs, row_pairs_rise}
use Rattle.ep_theory.specs.Relations.{all_pairs}
use Rattle.ep_kripke.specs.States.{IsBounded, state_of, HaveRows}
use Rattle.ep_refine.specs.Choices.{kept_numbers, IsChoice}
use Rattle.ep_refine.proofs.RowLemmas.{rising_long}

pub from_kept : (keep : ℕ → Bool) (number : ℕ → ℕ) (c : ℕ) (worlds : List ℕ) → IsIn c (kept_numbers keep number worlds) → (w : ℕ) × IsIn w worlds × IsTrue (keep w) × (number w ≡ c)
from_kept keep number c worlds i =
    let m = from_map number c (filter keep worlds) (from_rising nat_cmp numbers c (map number (filter keep worlds)) i) in
    let f = from_filter keep m.0 worlds m.1 in
    (m.0, f.0, f.1, sym m.2)

pub to_kept : (keep : ℕ → Bool) (number : ℕ → ℕ) (w : ℕ) (worlds : List ℕ) → IsIn w worlds → IsTrue (keep w) → IsIn (number w) (kept_numbers keep number worlds)
to_kept keep number w worlds i k = IsIn-rising nat_cmp numbers (number w) (map number (filter keep worlds)) (IsIn-map number w (filter keep worlds) (IsIn-filter keep w worlds i k))

filter_long : (keep : ℕ → Bool) (xs : List ℕ) → length (filter keep xs) ≤ length xs
filter_long keep [] = omega arith
filter_long keep (x ∷ xs) = go (keep x) (filter_long keep xs)
  where
    go : (b : Bool) → length (filter keep xs) ≤ length xs → length (cond b (x ∷ filter keep xs) (filter keep xs)) ≤ suc (length xs)
    go true h = omega arith
    go false h = omega arith

kept_long : (keep : ℕ → Bool) (number : ℕ → ℕ) (worlds : List ℕ) → length (kept_numbers keep number worlds) ≤ length worlds
kept_long keep number worlds =
    let a = rising_long (map number (filter keep worlds)) in
    let b = length-map (filter keep worlds) number in
    let c = filter_long keep worlds in
    omega arith

-- Worlds with distinct numbers have no more links together than there are pairs.
abbrev count_of : ℕ → List ℕ → ℕ
count_of w [] = 0
count_of w (x ∷ xs) = cond (w == x) 1 0 + count_of w xs

-- the numbers of the worlds are their places, from k on
abbrev pub InPlace : (ℕ → ℕ) → ℕ → List ℕ → Type 0
InPlace number k xs = (c : ℕ) → c < length xs → number (get_or xs c 0) ≡ k + c

in_place_later : (number : ℕ → ℕ) (k x : ℕ) (xs : List ℕ) → InPlace number k (x ∷ xs) → InPlace number (suc k) xs
in_place_later number k x xs h c l = h (suc c) (omega arith) ∙ (let q : k + suc c ≡ suc k + c = omega arith in q)

none_step : (number : ℕ → ℕ) (k w x n : ℕ) → number x ≡ k → number w < k → n ≡ 0 → (b : Bool) → (w == x) ≡ b → cond b 1 0 + n ≡ 0
none_step number k w x n h l z true e = let q : number w ≡ number x = ap number (equal_from_test w x e) in absurd (omega arith)
none_step number k w x n h l z false e = omega arith

none_later : (number : ℕ → ℕ) (k w : ℕ) (xs : List ℕ) → InPlace number k xs → number w < k → count_of w xs ≡ 0
none_later number k w [] h l = refl
none_later number k w (x ∷ xs) h l =
    none_step number k w x (count_of w xs) (h 0 (omega arith) ∙ (let q : k + 0 ≡ k = omega arith in q)) l
    (none_later number (suc k) w xs (in_place_later number k x xs h) (omega arith)) (w == x) refl

one_step : (number : ℕ → ℕ) (k w x n : ℕ) → number x ≡ k → n ≤ 1 → (number w < suc k → n ≡ 0) → (b : Bool) → (w == x) ≡ b → cond b 1 0 + n ≤ 1
one_step number k w x n h m z true e =
    let q : number w ≡ number x = ap number (equal_from_test w x e) in
    let r : n ≡ 0 = z (omega arith) in
    omega arith
one_step number k w x n h m z false e = omega arith

at_most_one : (number : ℕ → ℕ) (k w : ℕ) (xs : List ℕ) → InPlace number k xs → count_of w xs ≤ 1
at_most_one number k w [] h = omega arith
at_most_one number k w (x ∷ xs) h =
    one_step number k w x (count_of w xs) (h 0 (omega arith) ∙ (let q : k + 0 ≡ k = omega arith in q))
    (at_most_one number (suc k) w xs (in_place_later number k x xs h))
    (λ l. none_later number (suc k) w xs (in_place_later number k x xs h) l) (w == x) refl

links_from : List (ℕ × ℕ) → List ℕ → ℕ
links_from pairs [] = 0
links_from pairs (x ∷ xs) = length (successors pairs x) + links_from pairs xs

no_links : (xs : List ℕ) → links_from [] xs ≡ 0
unfolding links_from
no_links [] = refl
no_links (x ∷ xs) = let q = no_links xs in omega arith

one_pair : (p : ℕ × ℕ) (ps : List (ℕ × ℕ)) (x : ℕ) → length (successors (p ∷ ps) x) ≡ cond (p.0 == x) 1 0 + length (successors ps x)
one_pair p ps x = go (p.0 == x)
  where
    go : (b : Bool) → length (map (λ (q : ℕ × ℕ). q.1) (cond b (p ∷ filter (λ q. q.0 == x) ps) (filter (λ q. q.0 == x) ps))) ≡ cond b 1 0 + length (successors ps x)
    go true = omega arith
    go false = omega arith

more_pairs : (p : ℕ × ℕ) (ps : List (ℕ × ℕ)) (xs : List ℕ) → links_from (p ∷ ps) xs ≡ count_of p.0 xs + links_from ps xs
unfolding links_from
more_pairs p ps [] = refl
more_pairs p ps (x ∷ xs) = let a = one_pair p ps x in let b = more_pairs p ps xs in omega arith

links_fit : (number : ℕ → ℕ) (pairs : List (ℕ × ℕ)) (xs : List ℕ) → InPlace number 0 xs → links_from pairs xs ≤ length pairs
links_fit number [] xs h = let q = no_links xs in omega arith
links_fit number (p ∷ ps) xs h =
    let a = more_pairs p ps xs in
    let b = at_most_one number 0 p.0 xs h in
    let c = links_fit number ps xs h in
    omega arith

module _ (keep : ℕ → Bool) (number : ℕ → ℕ) (chosen : List ℕ) where
  -- the rows of one agent
  abbrev pub image_rows : List (ℕ × ℕ) → List (List ℕ)
  image_rows pairs = map (λ w. kept_numbers keep number (successors pairs w)) chosen

  rows_fit : (pairs : List (ℕ × ℕ)) (xs : List ℕ) → sum_by length (map (λ w. kept_numbers keep number (successors pairs w)) xs) ≤ links_from pairs xs
  unfolding links_from
  rows_fit pairs [] = omega arith
  rows_fit pairs (x ∷ xs) =
      let a = sum_by-cons (length {A = ℕ}) (kept_numbers keep number (successors pairs x)) (map (λ w. kept_numbers keep number (successors pairs w)) xs) in
      let b = kept_long keep number (successors pairs x) in
      let c = rows_fit pairs xs in
      omega arith

  all_fit : InPlace number 0 chosen → (links : List (List (ℕ × ℕ))) → sum_by (sum_by length) (map image_rows links) ≤ sum_by length links
  all_fit h [] = omega arith
  all_fit h (pairs ∷ links) =
      let a = sum_by-cons (sum_by (length {A = ℕ})) (image_rows pairs) (map image_rows links) in
      let b = sum_by-cons (length {A = ℕ × ℕ}) pairs links in
      let c = rows_fit pairs chosen in
      let d = links_fit number pairs chosen h in
      let e = all_fit h links in
      omega arith

  -- the state of the chosen worlds
  abbrev pub image_of : Kripke → Kripke
  image_of S = state_of S.agents S.atoms (map (truth_of S) chosen) (map image_rows S.links) (kept_numbers keep number S.designated)

  pub image_have_rows : (S : Kripke) → HaveRows (length (map (truth_of S) chosen)) (map image_rows S.links)
  image_have_rows S = All-map (λ rows. length rows ≡ length (map (truth_of S) chosen)) image_rows S.links
      (λ pairs i. length-map chosen (λ w. kept_numbers keep number (successors pairs w)) ∙ sym (length-map chosen (truth_of S)))

module _ (S : Kripke) (s : IsState S) (keep : ℕ → Bool) (number : ℕ → ℕ) (chosen : List ℕ) (h : IsChoice S keep number chosen) where
  abbrev Q : Kripke
  Q = image_of keep number chosen S

  abbrev rows_at : ℕ → List (List ℕ)
  rows_at a = image_rows keep number chosen (links_of S a)

  worlds : Q.worlds ≡ length chosen
  worlds = length-map chosen (truth_of S)

  in_place : InPlace number 0 chosen
  in_place c l = h.onto c l ∙ (let q : c ≡ 0 + c = omega arith in q)

  -- the pairs of an agent
  agent_pairs : (a : ℕ) → a < length S.links → links_of Q a ≡ all_pairs (rows_at a)
  agent_pairs a l = get_or-pairs (map (image_rows keep number chosen) S.links) a ∙ ap all_pairs (get_or-map (image_rows keep number chosen) S.links a [] [] l)

  lt_or_le : (m n : ℕ) → (m < n) ⊎ (n ≤ m)
  lt_or_le m n = grind arith

  -- an agent with a pair is one of the agents
  has_pairs : {A : Type 0} (ls : List (List A)) (a : ℕ) (p : A) → IsIn p (get_or ls a []) → a < length ls
  has_pairs ls a p i = ⊎_elim
      (λ (l : a < length ls). l)
      (λ (g : length ls ≤ a). absurd (subst (IsIn p) (get_or-eq_default ls [] g) i))
      (lt_or_le a (length ls))

  row_of_place : (a c : ℕ) → c < length chosen → get_or (rows_at a) c [] ≡ kept_numbers keep number (successors (links_of S a) (get_or chosen c 0))
  row_of_place a c l = get_or-map (λ w. kept_numbers keep number (successors (links_of S a) w)) chosen c 0 [] l

  -- a pair of the image, as a link of the chosen world
  from_pairs : (a c d : ℕ) → IsIn (c, d) (links_of Q a) → (c < length chosen) × ((u : ℕ) × IsIn (get_or chosen c 0, u) (links_of S a) × IsTrue (keep u) × (number u ≡ d))
  from_pairs a c d i =
      let l : a < length S.links = (let k = has_pairs (map all_pairs (map (image_rows keep number chosen) S.links)) a (c, d) i in let n = length-map (map (image_rows keep number chosen) S.links) all_pairs in let m = length-map S.links (image_rows keep number chosen) in omega arith) in
      let r = from_row_pairs (rows_at a) (length (rows_at a)) c d (subst (λ (ps : List (ℕ × ℕ)). IsIn (c, d) ps) (agent_pairs a l) i) in
      let b : c < length chosen = (let n = length-map chosen (λ w. kept_numbers keep number (successors (links_of S a) w)) in let m = r.0 in omega arith) in
      let f = from_kept keep number d (successors (links_of S a) (get_or chosen c 0)) (subst (IsIn d) (row_of_place a c b) r.1) in
      (b, (f.0, from_successors (get_or chosen c 0) f.0 (links_of S a) f.1, f.2, f.3))

  to_pairs : (a c u : ℕ) → c < length chosen → IsIn (get_or chosen c 0, u) (links_of S a) → IsTrue (keep u) → IsIn (c, number u) (links_of Q a)
  to_pairs a c u b i k =
      let l : a < length S.links = has_pairs S.links a (get_or chosen c 0, u) i in
      let j : IsIn (number u) (get_or (rows_at a) c []) = subst (IsIn (number u)) (sym (row_of_place a c b)) (to_kept keep number u (successors (links_of S a) (get_or chosen c 0)) (IsIn-successors (get_or chosen c 0) u (links_of S a) i) k) in
      let n = length-map chosen (λ w. kept_numbers keep number (successors (links_of S a) w)) in
      subst (λ (ps : List (ℕ × ℕ)). IsIn (c, number u) ps) (sym (agent_pairs a l)) (to_row_pairs (rows_at a) (length (rows_at a)) c (number u) (omega arith) j)

  chosen_at : (c : ℕ) → c < length chosen → (get_or chosen c 0 < S.worlds) × IsTrue (keep (get_or chosen c 0))
  chosen_at c b = All-at (λ w. (w < S.worlds) × IsTrue (keep w)) chosen c 0 b h.each

  place_of : (w : ℕ) → w < S.worlds → IsTrue (keep w) → number w < length chosen
  place_of w b k = h.below w b k

  designated_within : (w : ℕ) → IsIn w S.designated → w < S.worlds
  designated_within w i = at_All (λ x. x < S.worlds) w S.designated s.designated_within i

  pub image_is_state : IsState Q
  image_is_state =
      let w = h.designated in
      let first : number w.0 < length chosen = place_of w.0 (designated_within w.0 w.1) w.2 in
      record {
        some_world = let q = worlds in omega arith;
        truths = refl;
        each_truth = All-map (λ t. length t ≡ S.atoms) (truth_of S) chosen
            (λ v i. All-at (λ t. length t ≡ S.atoms) S.truth v [] (let q = s.truths in let b = (at_All (λ w. (w < S.worlds) × IsTrue (keep w)) v chosen h.each i).0 in omega arith) s.each_truth);
        relations = length-map (map (image_rows keep number chosen) S.links) all_pairs ∙ length-map S.links (image_rows keep number chosen) ∙ s.relations;
        rising = All-map (λ ps. IsRising pair_cmp ps) all_pairs (map (image_rows keep number chosen) S.links)
            (λ rows i. rows_rise rows i);
        within = All-from_each (λ ps. AllByRecursion (λ p. (p.0 < Q.worlds) × (p.1 < Q.worlds)) ps) (map all_pairs (map (image_rows keep number chosen) S.links)) ends_within;
        designated_rising = IsRising-rising nat_cmp numbers (map number (filter keep S.designated));
        designated_within = All-from_each (λ c. c < Q.worlds) (kept_numbers keep number S.designated)
            (λ c i. let f = from_kept keep number c S.designated i in let b = place_of f.0 (designated_within f.0 f.1) f.2 in let e = f.3 in let q = worlds in omega arith);
        some_designated = not_empty (number w.0) (kept_numbers keep number S.designated) (to_kept keep number w.0 S.designated w.1 w.2);
      }
    where
      rows_rise : (rows : List (List ℕ)) → IsIn rows (map (image_rows keep number chosen) S.links) → IsRising pair_cmp (all_pairs rows)
      rows_rise rows i =
          let m = from_map (image_rows keep number chosen) rows S.links i in
          row_pairs_rise rows (length rows) (omega arith)
          (subst (AllByRecursion (IsRising nat_cmp)) (sym m.2)
          (All-map (IsRising nat_cmp) (λ w. kept_numbers keep number (successors m.0 w)) chosen (λ w j. IsRising-rising nat_cmp numbers (map number (filter keep (successors m.0 w))))))

      pair_within : (pairs : List (ℕ × ℕ)) → IsIn pairs S.links → (p : ℕ × ℕ) → IsIn p (all_pairs (image_rows keep number chosen pairs)) → (p.0 < Q.worlds) × (p.1 < Q.worlds)
      pair_within pairs i p j =
          let r = from_row_pairs (image_rows keep number chosen pairs) (length (image_rows keep number chosen pairs)) p.0 p.1 j in
          let n = length-map chosen (λ w. kept_numbers keep number (successors pairs w)) in
          let b : p.0 < length chosen = (let m = r.0 in omega arith) in
          let q = worlds in
          let e : get_or (image_rows keep number chosen pairs) p.0 [] ≡ kept_numbers keep number (successors pairs (get_or chosen p.0 0)) = get_or-map (λ w. kept_numbers keep number (successors pairs w)) chosen p.0 0 [] b in
          let f = from_kept keep number p.1 (successors pairs (get_or chosen p.0 0)) (subst (IsIn p.1) e r.1) in
          let u = at_All (λ p. (p.0 < S.worlds) × (p.1 < S.worlds)) (get_or chosen p.0 0, f.0) pairs
          (at_All (λ l. AllByRecursion (λ p. (p.0 < S.worlds) × (p.1 < S.worlds)) l) pairs S.links s.within i)
          (from_successors (get_or chosen p.0 0) f.0 pairs f.1) in
          let c = place_of f.0 u.1 f.2 in
          ((omega arith), (let g = f.3 in omega arith))

      ends_within : (ps : List (ℕ × ℕ)) → IsIn ps (map all_pairs (map (image_rows keep number chosen) S.links)) → AllByRecursion (λ p. (p.0 < Q.worlds) × (p.1 < Q.worlds)) ps
      ends_within ps i =
          let r = from_map all_pairs ps (map (image_rows keep number chosen) S.links) i in
          let m = from_map (image_rows keep number chosen) r.0 S.links r.1 in
          let e : ps ≡ all_pairs (image_rows keep number chosen m.0) = r.2 ∙ ap all_pairs m.2 in
          subst (AllByRecursion (λ p. (p.0 < Q.worlds) × (p.1 < Q.worlds))) (sym e)
          (All-from_each (λ p. (p.0 < Q.worlds) × (p.1 < Q.worlds)) (all_pairs (image_rows keep number chosen m.0)) (λ p j. pair_within m.0 m.1 p j))

  pub image_is_bounded : IsBounded S → length chosen ≤ 65536 → IsBounded Q
  image_is_bounded b few = record {
    worlds = let q = worlds in omega arith;
    agents = b.agents;
    atoms = b.atoms;
    links =
        let a = sum_by-pairs (map (image_rows keep number chosen) S.links) in
        let c = all_fit keep number chosen in_place S.links in
        let d = b.links in
        omega (arith, a, c, d);
  }

  pub image_is_image : IsImage S keep number Q
  image_is_image = record {
    agents = refl;
    atoms = refl;
    within = λ w b k. let p = place_of w b k in let q = worlds in omega arith;
    onto = λ c b. let l : c < length chosen = (let q = worlds in omega arith) in let a = chosen_at c l in (get_or chosen c 0, a.0, a.1, h.onto c l);
    truth = λ w b k. h.truth w b k ∙ sym (get_or-map (truth_of S) chosen (number w) 0 [] (place_of w b k));
    link = λ a w u i k m.
        let x = h.answers a w u i k m in
        let p = place_of w (links_within S s a w u i).0 k in
        subst (λ n. IsIn (number w, n) (links_of Q a)) x.3 (to_pairs a (number w) x.0 p x.1 x.2);
    linked = λ a c d i.
        let f = from_pairs a c d i in
        let w = chosen_at c f.0 in
        (get_or chosen c 0, f.1.0, f.1.1, w.1, f.1.2, h.onto c f.0, f.1.3);
    designated = λ w i k. to_kept keep number w S.designated i k;
    from_designated = λ c i. from_kept keep number c S.designated i;
  }

-- loops
pub relations_more : (f : List (ℕ × ℕ) → List (List ℕ)) (links : List (List (ℕ × ℕ))) (before after : List (List (List ℕ))) (row : List (List ℕ)) (a : ℕ) → a < length links →
    before ≡ map f (take a links) → row ≡ f (get_or links a []) → after ≡ before ++ row ∷ [] → after ≡ map f (take (a + 1) links)
relations_more f links before after row a l h r e =
    e ∙ ap₂ (λ x y. x ++ y ∷ []) h r ∙ sym (map-append f (take a links) (get_or links a [] ∷ [])) ∙ ap (map f) (sym (take_more links a [] l))

-- the lists that the code makes are those of the state of the chosen worlds
module _ (S : Kripke) (s : IsState S) (b : IsBounded S) (keep : ℕ → Bool) (number : ℕ → ℕ) (chosen : List ℕ) (h : IsChoice S keep number chosen) (few : length chosen ≤ 65536)
    (agents atoms : ℕ) (truth : List (List Bool)) (relations : List (List (List ℕ))) (ds designated : List ℕ)
    (a : agents ≡ S.agents) (p : atoms ≡ S.atoms) (t : truth ≡ map (truth_of S) chosen) (r : relations ≡ map (image_rows keep number chosen) S.links)
    (e : ds ≡ S.designated) (d : designated ≡ kept_numbers keep number ds) where
  made : state_of agents atoms truth relations designated ≡ image_of keep number chosen S
  made = λ i. state_of (a i) (p i) (t i) (r i) ((d ∙ ap (kept_numbers keep number) e) i)

  pub made_rows : HaveRows (length truth) relations
  made_rows = subst (λ (l : List (List Bool)). HaveRows (length l) relations) (sym t)
      (subst (HaveRows (length (map (truth_of S) chosen))) (sym r) (image_have_rows keep number chosen S))

  pub made_state : IsState (state_of agents atoms truth relations designated)
  made_state = subst IsState (sym made) (image_is_state S s keep number chosen h)

  pub made_bounded : IsBounded (state_of agents atoms truth relations designated)
  made_bounded = subst IsBounded (sym made) (image_is_bounded S s keep number chosen h b few)

  pub made_image : (q : Kripke) → q ≡ state_of agents atoms truth relations designated → IsImage S keep number q
  made_image q f = subst (IsImage S keep number) (sym (f ∙ made)) (image_is_image S s keep number chosen h)
